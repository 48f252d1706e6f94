-- Texts that are made printable and steady piece by piece: how the pieces join.
use Rattle.std.proofs.Common.{◌≡◌, ℕ, true, List, [], ◌++◌, chars, refl, sym, ap, ◌∙◌, encode_utf8_all}
use Rattle.std.specs.Prelude.{IsUtf8}
use Rattle.std.proofs.lemmas.Str.{chars-append, chars-nil, chars_from_encodes, encodes-append}
use Rattle.mad_measure.specs.Printable.{printable_text}
use Rattle.mad_steady.specs.Steady.{held, steady_from, steady_text, steady_growing, place_behind}
use Rattle.mad_steady.specs.declared.places.Place.{Place as SteadyPlace}
use Rattle.mad_steady.specs.declared.places.Place.TheVariants.{Opened}
use Rattle.mad_steady.proofs.SteadyLemmas.{behind-append, growing-append, growing_ends, growing_then}
use Rattle.mad_stream.specs.PrintedPieces.{shown_growing, place_after, piece_shown, end_shown}
use Rattle.mad_stream.specs.SteadyPieces.{growing, steadied, start_spot, spot_after, steady_piece, end_piece}
use Rattle.mad_stream.specs.declared.printed.Place.TheVariants.{LineStart}
use Rattle.mad_stream.specs.declared.steadied.Spot.{Spot}
use Rattle.mad_stream.proofs.PrintedLemmas.{after_both, all_ended, some_then}

-- nothing grows to nothing
pub growing_none : growing [] ≡ []
growing_none = ap (λ (cs : List ℕ). encode_utf8_all (steady_growing Opened (shown_growing true cs))) chars-nil

-- no character is passed by none
pub spot_none : spot_after start_spot (chars []) ≡ start_spot
spot_none = ap (spot_after start_spot) chars-nil

-- the printable text for two pieces
both_printed : (a b : List ℕ) → IsUtf8 a → shown_growing true (chars (a ++ b)) ≡ shown_growing true (chars a) ++ piece_shown (place_after LineStart (chars a)) (chars b)
both_printed a b utf8 = ap (shown_growing true) (chars-append a b utf8) ∙ some_then true (chars a) (chars b) LineStart refl

-- as a text grows by a piece, so does what is shown of it
pub growing_more : (a b : List ℕ) → IsUtf8 a → growing (a ++ b) ≡ growing a ++ encode_utf8_all (steady_piece (spot_after start_spot (chars a)) (chars b))
growing_more a b utf8 =
    let first : List ℕ = shown_growing true (chars a) in
    let second : List ℕ = piece_shown (place_after LineStart (chars a)) (chars b) in
    ap (λ (cs : List ℕ). encode_utf8_all (steady_growing Opened cs)) (both_printed a b utf8) ∙ ap encode_utf8_all (growing-append Opened first second)
    ∙ encodes-append (steady_growing Opened first) (steady_growing (place_behind Opened first) second)

-- the spot behind two pieces
pub spot_more : (a b : List ℕ) → IsUtf8 a → spot_after start_spot (chars (a ++ b)) ≡ spot_after (spot_after start_spot (chars a)) (chars b)
spot_more a b utf8 =
    let first : List ℕ = shown_growing true (chars a) in
    let second : List ℕ = piece_shown (place_after LineStart (chars a)) (chars b) in
    let steady : place_behind Opened (shown_growing true (chars (a ++ b))) ≡ place_behind (place_behind Opened first) second = ap (place_behind Opened) (both_printed a b utf8) ∙ behind-append Opened first second in
    ap (λ p. let s : Spot = record { printed = p; steady = place_behind Opened (shown_growing true (chars (a ++ b))) } in s) (ap (place_after LineStart) (chars-append a b utf8) ∙ after_both LineStart (chars a) (chars b))
    ∙ ap (λ (q : SteadyPlace). let s : Spot = record { printed = place_after (place_after LineStart (chars a)) (chars b); steady = q } in s) steady

-- what is left to be shown at the end
pub steadied_all : (text : List ℕ) → steadied text ≡ growing text ++ encode_utf8_all (end_piece (spot_after start_spot (chars text)))
steadied_all text =
    let first : List ℕ = shown_growing true (chars text) in
    let last : List ℕ = end_shown (place_after LineStart (chars text)) in
    ap (λ (cs : List ℕ). encode_utf8_all (steady_text cs)) (all_ended true (chars text) LineStart refl) ∙ ap encode_utf8_all (growing_then Opened first last)
    ∙ encodes-append (steady_growing Opened first) (steady_from (place_behind Opened first) last)

-- ---- what the code makes

-- a piece that is printable was written steady
pub piece_made : (spot : Spot) (cs printed shown : List ℕ) → IsUtf8 printed → printed ≡ encode_utf8_all (piece_shown spot.printed cs) → shown ≡ [] ++ encode_utf8_all (steady_growing spot.steady (chars printed)) → shown ≡ encode_utf8_all (steady_piece spot cs)
piece_made spot cs printed shown utf8 is made = made ∙ ap (λ (ds : List ℕ). encode_utf8_all (steady_growing spot.steady ds)) (sym (chars_from_encodes (piece_shown spot.printed cs) printed utf8 (sym is)))

-- the spot behind a piece, as the code found it
pub spot_made : (spot : Spot) (cs printed : List ℕ) (next : SteadyPlace) (place : _) → IsUtf8 printed → printed ≡ encode_utf8_all (piece_shown spot.printed cs) → next ≡ place_behind spot.steady (chars printed) → place ≡ place_after spot.printed cs
    → (let s : Spot = record { printed = place; steady = next } in s) ≡ spot_after spot cs
spot_made spot cs printed next place utf8 is behind after =
    ap (λ p. let s : Spot = record { printed = p; steady = next } in s) after
    ∙ ap (λ (q : SteadyPlace). let s : Spot = record { printed = place_after spot.printed cs; steady = q } in s)
    (behind ∙ ap (place_behind spot.steady) (sym (chars_from_encodes (piece_shown spot.printed cs) printed utf8 (sym is))))

-- the end was written
pub end_made : (spot : Spot) (last mid shown : List ℕ) (place : SteadyPlace) → IsUtf8 last → last ≡ encode_utf8_all (end_shown spot.printed) → mid ≡ [] ++ encode_utf8_all (steady_growing spot.steady (chars last)) → place ≡ place_behind spot.steady (chars last) → shown ≡ mid ++ encode_utf8_all (held place)
    → shown ≡ encode_utf8_all (end_piece spot)
end_made spot last mid shown place utf8 is mid_is place_is made =
    let cs : List ℕ = end_shown spot.printed in
    let same : chars last ≡ cs = sym (chars_from_encodes cs last utf8 (sym is)) in
    made ∙ ap (λ (l : List ℕ). l ++ encode_utf8_all (held place)) (mid_is ∙ ap (λ (ds : List ℕ). encode_utf8_all (steady_growing spot.steady ds)) same)
    ∙ ap (λ (p : SteadyPlace). encode_utf8_all (steady_growing spot.steady cs) ++ encode_utf8_all (held p)) (place_is ∙ ap (place_behind spot.steady) same)
    ∙ sym (encodes-append (steady_growing spot.steady cs) (held (place_behind spot.steady cs))) ∙ ap encode_utf8_all (sym (growing_ends spot.steady cs))
