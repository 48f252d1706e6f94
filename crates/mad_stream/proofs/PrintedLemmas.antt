-- Texts that are made printable piece by piece: how the pieces join.
use Rattle.std.proofs.Common.{◌≡◌, ℕ, ◌==◌, Bool, true, false, cond, List, [], ◌∷◌, ◌++◌, chars, refl, sym, ap, ◌∙◌, subst, append_assoc, arith, length, encode_utf8, encode_utf8_all, Result}
use Rattle.std.specs.Char.{IsScalar}
use Rattle.std.specs.Prelude.{IfOk, IsUtf8}
use Rattle.std.proofs.lemmas.List.{append-nil}
use Rattle.std.proofs.lemmas.Str.{chars-append, chars_past_char, chars-nil, encodes-append, IsUtf8-append, IsUtf8-encode}
use Rattle.mad_measure.specs.Printable.{printable_text, shown_as, shown_from, tab_spaces, return_shown}
use Rattle.mad_characters.specs.Pictures.{picture}
use Rattle.mad_md.proofs.PartsLemmas.{true_test}
use Rattle.mad_blocks.proofs.LayoutJoins.{by_bool}
use Rattle.mad_stream.proofs.TextFrontLemmas.{rest_of}
use Rattle.mad_stream.specs.PrintedPieces.{shown_growing, place_of, place_after, place_char, place_shown, piece_shown, end_shown}
use Rattle.mad_stream.specs.declared.printed.Place.{Place}
use Rattle.mad_stream.specs.declared.printed.Place.TheVariants.{LineStart, InLine, AfterReturn}

-- ---- characters, one after another

-- a carriage return
return_alone : (b : Bool) (ds : List ℕ) → shown_growing b (13 ∷ ds) ≡ shown_growing false (13 ∷ ds)
return_alone b [] = refl
return_alone b (d ∷ ds) = refl

-- any other character is shown whatever comes after it
shown_alone : (b : Bool) (c : ℕ) (after : List ℕ) → (c == 13) ≡ false → shown_as b c after ≡ shown_as b c []
shown_alone b c after off =
    ap (λ t. cond (c == 9) (tab_spaces b) (cond t (return_shown after) (picture c ∷ []))) off ∙ sym (ap (λ t. cond (c == 9) (tab_spaces b) (cond t (return_shown []) (picture c ∷ []))) off)

growing_alone : (b : Bool) (c : ℕ) → (c == 13) ≡ false → shown_growing b (c ∷ []) ≡ shown_as b c []
growing_alone b c off = ap (λ t. cond t [] (shown_as b c [])) off

starts_line : (c : ℕ) → (c == 10) ≡ true → place_of c ≡ LineStart
starts_line c on = ap (λ t. cond t LineStart (cond (c == 13) AfterReturn InLine)) on

in_line : (c : ℕ) → (c == 10) ≡ false → (c == 13) ≡ false → place_of c ≡ InLine
in_line c off10 off = ap (λ t. cond t LineStart (cond (c == 13) AfterReturn InLine)) off10 ∙ ap (λ t. cond t AfterReturn InLine) off

line_end : (c : ℕ) (ds : List ℕ) → (c == 13) ≡ false → shown_growing (c == 10) ds ≡ piece_shown (place_of c) ds
line_end c ds off =
    by_bool (λ t. (c == 10) ≡ t → shown_growing (c == 10) ds ≡ piece_shown (place_of c) ds) (c == 10) (λ on e. ap (λ t. shown_growing t ds) on ∙ sym (ap (λ p. piece_shown p ds) (starts_line c on)))
    (λ off10 e. ap (λ t. shown_growing t ds) off10 ∙ sym (ap (λ p. piece_shown p ds) (in_line c off10 off))) refl

-- one character, and what comes after it
one_then : (b : Bool) (c : ℕ) (ds : List ℕ) → shown_growing b (c ∷ ds) ≡ shown_growing b (c ∷ []) ++ piece_shown (place_of c) ds
one_then b c ds =
    by_bool (λ t. (c == 13) ≡ t → shown_growing b (c ∷ ds) ≡ shown_growing b (c ∷ []) ++ piece_shown (place_of c) ds) (c == 13)
    (λ on e. subst (λ k. shown_growing b (k ∷ ds) ≡ shown_growing b (k ∷ []) ++ piece_shown (place_of k) ds) (sym (true_test c 13 on)) (return_alone b ds)) (λ off e. other ds off) refl
  where
    other : (ds : List ℕ) → (c == 13) ≡ false → shown_growing b (c ∷ ds) ≡ shown_growing b (c ∷ []) ++ piece_shown (place_of c) ds
    other [] off = sym (append-nil (shown_growing b (c ∷ []))) ∙ ap (λ (l : List ℕ). shown_growing b (c ∷ []) ++ l) (line_end c [] off)
    other (d ∷ ds) off =
        ap (λ (l : List ℕ). l ++ shown_growing (c == 10) (d ∷ ds)) (shown_alone b c (d ∷ ds) off ∙ sym (growing_alone b c off)) ∙ ap (λ (l : List ℕ). shown_growing b (c ∷ []) ++ l) (line_end c (d ∷ ds) off)

-- some characters, and what comes after them
pub some_then : (b : Bool) (cs ds : List ℕ) (p : Place) → shown_growing b ds ≡ piece_shown p ds → shown_growing b (cs ++ ds) ≡ shown_growing b cs ++ piece_shown (place_after p cs) ds
some_then b [] ds p first = first
some_then b (c ∷ []) ds p first = one_then b c ds
some_then b (c ∷ d ∷ cs) ds p first =
    ap (λ (l : List ℕ). shown_as b c (d ∷ cs) ++ l) (some_then (c == 10) (d ∷ cs) ds (if_place (c == 10)) (of_place (c == 10)))
    ∙ sym (append_assoc (shown_as b c (d ∷ cs)) (shown_growing (c == 10) (d ∷ cs)) (piece_shown (place_after (place_of d) cs) ds))
  where
    if_place : Bool → Place
    if_place true = LineStart
    if_place false = InLine

    of_place : (t : Bool) → shown_growing t ds ≡ piece_shown (if_place t) ds
    of_place true = refl
    of_place false = refl

-- at the end of a text
return_ended : (b : Bool) → shown_from b (13 ∷ []) ≡ shown_growing b (13 ∷ []) ++ end_shown (place_of 13)
return_ended b = refl

one_ended : (b : Bool) (c : ℕ) → shown_from b (c ∷ []) ≡ shown_growing b (c ∷ []) ++ end_shown (place_of c)
one_ended b c =
    by_bool (λ t. (c == 13) ≡ t → shown_from b (c ∷ []) ≡ shown_growing b (c ∷ []) ++ end_shown (place_of c)) (c == 13)
    (λ on e. subst (λ k. shown_from b (k ∷ []) ≡ shown_growing b (k ∷ []) ++ end_shown (place_of k)) (sym (true_test c 13 on)) (return_ended b)) (λ off e. other off) refl
  where
    none_ended : (c == 13) ≡ false → end_shown (place_of c) ≡ []
    none_ended off =
        by_bool (λ t. (c == 10) ≡ t → end_shown (place_of c) ≡ []) (c == 10) (λ on e. ap end_shown (starts_line c on)) (λ off10 e. ap end_shown (in_line c off10 off)) refl

    other : (c == 13) ≡ false → shown_from b (c ∷ []) ≡ shown_growing b (c ∷ []) ++ end_shown (place_of c)
    other off = ap (λ (l : List ℕ). l ++ []) (sym (growing_alone b c off)) ∙ ap (λ (l : List ℕ). shown_growing b (c ∷ []) ++ l) (sym (none_ended off))

-- a text that is at its end is what it was as it grew, and what is shown at the end
pub all_ended : (b : Bool) (cs : List ℕ) (p : Place) → end_shown p ≡ [] → shown_from b cs ≡ shown_growing b cs ++ end_shown (place_after p cs)
all_ended b [] p none = sym none
all_ended b (c ∷ []) p none = one_ended b c
all_ended b (c ∷ d ∷ cs) p none =
    ap (λ (l : List ℕ). shown_as b c (d ∷ cs) ++ l) (all_ended (c == 10) (d ∷ cs) LineStart refl) ∙ sym (append_assoc (shown_as b c (d ∷ cs)) (shown_growing (c == 10) (d ∷ cs)) (end_shown (place_after (place_of d) cs)))

-- ---- a piece that is placed behind a character

-- what is shown at the end is of ASCII: its bytes are its characters
pub encode_end : (p : Place) → encode_utf8_all (end_shown p) ≡ end_shown p
unfolding lib.Utf8.encode
encode_end LineStart = refl
encode_end InLine = refl
encode_end AfterReturn = refl

-- the place after some characters and others
pub after_both : (p : Place) (cs ds : List ℕ) → place_after p (cs ++ ds) ≡ place_after (place_after p cs) ds
after_both p [] ds = refl
after_both p (c ∷ cs) ds = after_both (place_of c) cs ds

-- what is made of it: what stands for the place, for the piece, and for a carriage return at its end
pub piece_placed : (p : Place) (cs : List ℕ) → shown_from true (place_char p ∷ cs) ≡ place_shown p ++ (piece_shown p cs ++ end_shown (place_after p cs))
piece_placed LineStart cs = ap (λ (l : List ℕ). 10 ∷ l) (all_ended true cs LineStart refl)
piece_placed InLine cs = ap (λ (l : List ℕ). 46 ∷ l) (all_ended false cs InLine refl)
piece_placed AfterReturn cs = all_ended true (13 ∷ cs) LineStart refl ∙ ap (λ (l : List ℕ). l ++ end_shown (place_after AfterReturn cs)) (return_alone true cs)

-- the character that it is placed behind, and it
pub placed_chars : (p : Place) (piece placed : List ℕ) → IsUtf8 piece → placed ≡ encode_utf8 (place_char p) ++ piece → chars placed ≡ place_char p ∷ chars piece
placed_chars p piece placed utf8 is = chars_past_char placed piece (place_char p) (subst IsUtf8 (sym is) (IsUtf8-append (encode_utf8 (place_char p)) piece (IsUtf8-encode (place_char p) (scalar_place p)) utf8)) is
  where
    scalar_place : (p : Place) → IsScalar (place_char p)
    scalar_place LineStart = refl
    scalar_place InLine = refl
    scalar_place AfterReturn = refl

-- the character that a text ends with
pub last_place : (p : Place) (text front : List ℕ) (c : ℕ) → IsUtf8 text → IsUtf8 front → text ≡ front ++ encode_utf8 c → place_after p (chars text) ≡ place_of c
last_place p text front c utf8 first is =
    let last : chars (encode_utf8 c) ≡ c ∷ chars [] = chars_past_char (encode_utf8 c) [] c (rest_of front (encode_utf8 c) first (subst IsUtf8 is utf8)) (sym (append-nil (encode_utf8 c))) in
    ap (λ (t : List ℕ). place_after p (chars t)) is ∙ ap (λ (cs : List ℕ). place_after p cs) (chars-append front (encode_utf8 c) first ∙ ap (λ (cs : List ℕ). chars front ++ cs) (last ∙ ap (λ (cs : List ℕ). c ∷ cs) chars-nil))
    ∙ after_both p (chars front) (c ∷ [])

-- an empty piece leaves the place
pub no_place : (p : Place) (text : List ℕ) → length text ≡ 0 → place_after p (chars text) ≡ p
no_place p [] none = ap (λ (cs : List ℕ). place_after p cs) chars-nil
no_place p (x ∷ text) none = absurd (omega arith)

encode_place : (p : Place) → encode_utf8_all (place_shown p) ≡ place_shown p
unfolding lib.Utf8.encode
encode_place LineStart = refl
encode_place InLine = refl
encode_place AfterReturn = refl

-- what is made of it, in bytes
pub piece_made : (p : Place) (piece placed made : List ℕ) → IsUtf8 piece → placed ≡ encode_utf8 (place_char p) ++ piece → made ≡ encode_utf8_all (printable_text (chars placed))
    → made ≡ place_shown p ++ (encode_utf8_all (piece_shown p (chars piece)) ++ end_shown (place_after p (chars piece)))
piece_made p piece placed made utf8 is made_is =
    let cs : List ℕ = chars piece in
    let last : List ℕ = end_shown (place_after p cs) in
    made_is ∙ ap (λ (ds : List ℕ). encode_utf8_all (printable_text ds)) (placed_chars p piece placed utf8 is) ∙ ap encode_utf8_all (piece_placed p cs) ∙ encodes-append (place_shown p) (piece_shown p cs ++ last)
    ∙ ap (λ (l : List ℕ). l ++ encode_utf8_all (piece_shown p cs ++ last)) (encode_place p) ∙ ap (λ (l : List ℕ). place_shown p ++ l) (encodes-append (piece_shown p cs) last ∙ ap (λ (l : List ℕ). encode_utf8_all (piece_shown p cs) ++ l) (encode_end (place_after p cs)))

-- a call answers a text, along what is equal
pub text_is : {S E : Type 0} (bytes_of : S → List ℕ) (r : Result S E) (bytes text : List ℕ) → IfOk r (λ s. bytes_of s ≡ bytes) → bytes ≡ text → IfOk r (λ s. bytes_of s ≡ text)
text_is {S} {E} bytes_of r bytes text h is = subst (λ (b : List ℕ). IfOk r (λ s. bytes_of s ≡ b)) is h
