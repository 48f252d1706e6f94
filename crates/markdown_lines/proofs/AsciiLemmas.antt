-- A text of ASCII is steady.
use Rattle.std.proofs.Common.{◌≡◌, ℕ, suc, ◌<◌, ◌≤◌, ◌==◌, ◌&&◌, ◌||◌, Bool, true, false, cond, List, [], ◌∷◌, refl, sym, ap, ◌∙◌, arith}
use Rattle.std.specs.Char.{is_control}
use Rattle.std.specs.Str.{IsUtf8, IsAscii}
use Rattle.std.proofs.lemmas.Bool.Decides.{nat_tests}
use Rattle.std.proofs.lemmas.Str.{chars-IsAscii}
use Rattle.mad_md.specs.Flagged.{Run, Flags}
use Rattle.mad_steady.specs.declared.kinds.Kind.{Kind}
use Rattle.mad_steady.specs.declared.kinds.Kind.TheVariants.{Opening, Narrow}
use Rattle.mad_steady.specs.declared.places.Place.{Place}
use Rattle.mad_steady.specs.declared.places.Place.TheVariants.{Opened, AfterNarrow}
use Rattle.mad_steady.specs.Kinds.{kind, other_kind, is_mark}
use Rattle.mad_steady.specs.Steady.{stays, next_place, are_steady_from, are_steady}
use Rattle.mad_steady.proofs.KindFacts.{ascii_is}
use Rattle.mad_steady.proofs.SteadyLemmas.{whole_stays}
use Rattle.markdown_lines.specs.Steady.{steady_run}

abbrev is_blank_or_mark : ℕ → Bool
is_blank_or_mark c = is_mark c || (c == 32)

control_kind : (c : ℕ) → c < 128 → is_control c ≡ true → kind c ≡ Opening
unfolding kind other_kind
control_kind c low e = grind (arith, nat_tests)

not_below : (c : ℕ) → is_control c ≡ false → 32 ≤ c
not_below c e = grind (arith, nat_tests)

not_above : (c : ℕ) → c < 128 → is_control c ≡ false → c < 127
not_above c low e = grind (arith, nat_tests)

kind_by : (c : ℕ) (t : Bool) → is_control c ≡ t → c < 128 → kind c ≡ cond (is_control c || is_blank_or_mark c) Opening Narrow
kind_by c true e low = control_kind c low e ∙ sym (ap (λ (b : Bool). cond (b || is_blank_or_mark c) Opening Narrow) e)
kind_by c false e low = sym (ascii_is c (not_below c e) (not_above c low e)) ∙ sym (ap (λ (b : Bool). cond (b || is_blank_or_mark c) Opening Narrow) e)

abbrev place_at : Bool → Place
place_at true = Opened
place_at false = AfterNarrow

step : (opened t : Bool) (c : ℕ) (cs : List ℕ) → are_steady_from (place_at t) cs ≡ true
    → (stays (place_at opened) (cond t Opening Narrow) && are_steady_from (next_place (place_at opened) (cond t Opening Narrow) c) cs) ≡ true
step true true c cs h = h
step true false c cs h = h
step false true c cs h = h
step false false c cs h = h

ascii_from : (opened : Bool) (cs : List ℕ) → IsAscii cs → are_steady_from (place_at opened) cs ≡ true
ascii_from true [] h = refl
ascii_from false [] h = refl
ascii_from opened (c ∷ cs) h =
    let t : Bool = is_control c || is_blank_or_mark c in
    ap (λ (k : Kind). stays (place_at opened) k && are_steady_from (next_place (place_at opened) k c) cs) (kind_by c (is_control c) refl (h 0))
    ∙ step opened t c cs (ascii_from t cs (λ i. h (suc i)))

-- a run of ASCII is steady as it is
pub ascii_run : (flags : Flags) (text : List ℕ) → IsUtf8 text → IsAscii text → record { flags = flags; text = text } ≡ steady_run (record { flags = flags; text = text })
ascii_run flags text utf8 ascii =
    ap (λ (t : List ℕ). let r : Run = record { flags = flags; text = t } in r) (whole_stays text utf8 (ap are_steady (chars-IsAscii text ascii) ∙ ascii_from true text ascii))
