-- Where no address of the web begins.
use Rattle.std.proofs.Common.{◌≡◌, ℕ, zero, suc, ◌+◌, ◌-◌, ◌<◌, ◌≤◌, ⊎_elim, Bool, true, false, cond, eqb, leb, ◌||◌, ◌&&◌, List, [], ◌∷◌, length, take, drop, get_or, refl, sym, ap, ◌∙◌, arith, Option, None, codes}
use Rattle.std.specs.Char.{to_ascii_lowercase}
use Rattle.std.proofs.lemmas.Bool.{cases_lt}
use Rattle.std.proofs.lemmas.Bool.Decides.{nat_tests}
use Rattle.std.proofs.lemmas.List.{get_or-drop, get_or-take}
use Rattle.markdown_html.specs.Names.{same_letters}
use Rattle.markdown_marks.specs.Bytes.{first}
use Rattle.markdown_addresses.specs.declared.bare.Bare.{Bare}
use Rattle.markdown_addresses.specs.Bare.{is_in_front}
use Rattle.markdown_pieces.specs.Scan.{is_w, sign_at, is_signless, AreSignless, HasNoWeb}
use Rattle.markdown_pieces.proofs.ScanLemmas.{first_drop, beyond}

same_not : (ns ws : List ℕ) (i : ℕ) → i < length ns → eqb (get_or ns i 0) (to_ascii_lowercase (get_or ws i 0)) ≡ false → same_letters ns ws ≡ false
unfolding same_letters
same_not [] ws i few h = absurd (omega (arith, few))
same_not (n ∷ ns) [] i few h = refl
same_not (n ∷ ns) (w ∷ ws) zero few h = ap (λ t. t && same_letters ns ws) h
same_not (n ∷ ns) (w ∷ ws) (suc i) few h = ap (λ t. eqb n (to_ascii_lowercase w) && t) (same_not ns ws i (omega (arith, few)) h) ∙ and_no (eqb n (to_ascii_lowercase w))
  where
    and_no : (t : Bool) → (t && false) ≡ false
    and_no true = refl
    and_no false = refl

front_not : (ns bytes : List ℕ) (i : ℕ) → i < length ns → eqb (get_or ns i 0) (to_ascii_lowercase (get_or bytes i 0)) ≡ false → is_in_front ns bytes ≡ false
front_not ns bytes i few h = same_not ns (take (length ns) bytes) i few (ap (λ b. eqb (get_or ns i 0) (to_ascii_lowercase b)) (get_or-take (length ns) bytes i 0 few) ∙ h)

no_colon : (b : ℕ) → eqb b 58 ≡ false → eqb 58 (to_ascii_lowercase b) ≡ false
no_colon b h = grind (arith, nat_tests)

no_slash : (b : ℕ) → eqb b 47 ≡ false → eqb 47 (to_ascii_lowercase b) ≡ false
no_slash b h = grind (arith, nat_tests)

no_period : (b : ℕ) → eqb b 46 ≡ false → eqb 46 (to_ascii_lowercase b) ≡ false
no_period b h = grind (arith, nat_tests)

no_letter : (b : ℕ) → is_w b ≡ false → eqb 119 (to_ascii_lowercase b) ≡ false
no_letter b h = grind (arith, nat_tests)

left_off : (t u : Bool) → (t || u) ≡ false → t ≡ false
left_off false u h = refl
left_off true u h = h

right_off : (t u : Bool) → (t || u) ≡ false → u ≡ false
right_off false u h = h
right_off true false h = refl
right_off true true h = h

-- a scheme whose colon and slash are these
no_scheme : (ns rest : List ℕ) (i : ℕ) → i + 1 < length ns → get_or ns i 0 ≡ 58 → get_or ns (i + 1) 0 ≡ 47 → (eqb (get_or rest i 0) 58 && eqb (get_or rest (i + 1) 0) 47) ≡ false → is_in_front ns rest ≡ false
no_scheme ns rest i few colon slash h = by (eqb (get_or rest i 0) 58) refl
  where
    by : (t : Bool) → eqb (get_or rest i 0) 58 ≡ t → is_in_front ns rest ≡ false
    by false off = front_not ns rest i (omega (arith, few)) (ap (λ b. eqb b (to_ascii_lowercase (get_or rest i 0))) colon ∙ no_colon (get_or rest i 0) off)
    by true on =
        front_not ns rest (i + 1) few
        (ap (λ b. eqb b (to_ascii_lowercase (get_or rest (i + 1) 0))) slash ∙ no_slash (get_or rest (i + 1) 0) (ap (λ t. t && eqb (get_or rest (i + 1) 0) 47) (sym on) ∙ h))

never : true ≡ false → ⊥
never e = cc

no_www : (rest : List ℕ) → (eqb (get_or rest 3 0) 46 && (is_w (get_or rest 2 0) && is_w (get_or rest 1 0))) ≡ false → is_in_front (codes "www.") rest ≡ false
no_www rest h = by (eqb (get_or rest 3 0) 46) (is_w (get_or rest 2 0)) (is_w (get_or rest 1 0)) refl refl refl h
  where
    by : (t u v : Bool) → eqb (get_or rest 3 0) 46 ≡ t → is_w (get_or rest 2 0) ≡ u → is_w (get_or rest 1 0) ≡ v → (t && (u && v)) ≡ false → is_in_front (codes "www.") rest ≡ false
    by false u v period e f h = front_not (codes "www.") rest 3 (omega arith) (no_period (get_or rest 3 0) period)
    by true false v p letter f h = front_not (codes "www.") rest 2 (omega arith) (no_letter (get_or rest 2 0) letter)
    by true true false p e letter h = front_not (codes "www.") rest 1 (omega arith) (no_letter (get_or rest 1 0) letter)
    by true true true p e f h = absurd (never h)

four : (t u v w : Bool) (a b c d : Option Bare) → t ≡ false → u ≡ false → v ≡ false → w ≡ false → cond t a (cond u b (cond v c (cond w d None))) ≡ None
four t u v w a b c d e f g h = ap (λ x. cond x a (cond u b (cond v c (cond w d None)))) e ∙ ap (λ x. cond x b (cond v c (cond w d None))) f ∙ ap (λ x. cond x c (cond w d None)) g ∙ ap (λ x. cond x d None) h

colon_of : (text : List ℕ) (k i : ℕ) → sign_at text (k + i) ≡ false → (eqb (get_or (drop k text) i 0) 58 && eqb (get_or (drop k text) (i + 1) 0) 47) ≡ false
colon_of text k i h =
    ap (λ b. eqb b 58 && eqb (get_or (drop k text) (i + 1) 0) 47) (get_or-drop k text i 0)
    ∙ ap (λ b. eqb (get_or text (k + i) 0) 58 && eqb b 47) (get_or-drop k text (i + 1) 0 ∙ ap (λ j. get_or text j 0) (omega arith) ∙ sym (first_drop (k + i + 1) text)) ∙ left_off _ _ h

period_of : (text : List ℕ) (k : ℕ) → sign_at text (k + 3) ≡ false → (eqb (get_or (drop k text) 3 0) 46 && (is_w (get_or (drop k text) 2 0) && is_w (get_or (drop k text) 1 0))) ≡ false
period_of text k h =
    ap (λ b. eqb b 46 && (is_w (get_or (drop k text) 2 0) && is_w (get_or (drop k text) 1 0))) (get_or-drop k text 3 0)
    ∙ ap (λ b. eqb (get_or text (k + 3) 0) 46 && (is_w b && is_w (get_or (drop k text) 1 0))) (get_or-drop k text 2 0 ∙ ap (λ j. get_or text j 0) (omega arith))
    ∙ ap (λ b. eqb (get_or text (k + 3) 0) 46 && (is_w (get_or text (k + 3 - 1) 0) && is_w b)) (get_or-drop k text 1 0 ∙ ap (λ j. get_or text j 0) (omega arith))
    ∙ ap (λ t. eqb (get_or text (k + 3) 0) 46 && (t && (is_w (get_or text (k + 3 - 1) 0) && is_w (get_or text (k + 3 - 2) 0)))) (sym (leb_two k)) ∙ right_off _ _ h
  where
    leb_two : (k : ℕ) → leb 2 (k + 3) ≡ true
    leb_two k = grind (arith, nat_tests)

-- where no sign of an address of the web is, none begins
pub no_web : (text : List ℕ) → ((k : ℕ) → k < length text → sign_at text k ≡ false) → HasNoWeb text
no_web text none k =
    four _ _ _ _ _ _ _ _ (no_www (drop k text) (period_of text k (all (k + 3)))) (no_scheme (codes "https://") (drop k text) 5 (omega arith) refl refl (colon_of text k 5 (all (k + 5))))
    (no_scheme (codes "http://") (drop k text) 4 (omega arith) refl refl (colon_of text k 4 (all (k + 4)))) (no_scheme (codes "ftp://") (drop k text) 3 (omega arith) refl refl (colon_of text k 3 (all (k + 3))))
  where
    nothing : (at : ℕ) → get_or text at 0 ≡ 0 → sign_at text at ≡ false
    nothing at e =
        ap (λ b. (eqb b 58 && eqb (first (drop (at + 1) text)) 47) || (eqb b 46 && (leb 2 at && (is_w (get_or text (at - 1) 0) && is_w (get_or text (at - 2) 0))))) e

    all : (at : ℕ) → sign_at text at ≡ false
    all at = ⊎_elim (λ (few : at < length text). none at few) (λ (over : length text ≤ at). nothing at (beyond text at over)) (cases_lt at (length text))

signless_no : (text : List ℕ) (at b : ℕ) → b ≡ get_or text at 0 → is_signless b ≡ true → sign_at text at ≡ false
signless_no text at b e h =
    ap (λ c. (eqb c 58 && eqb (first (drop (at + 1) text)) 47) || (eqb c 46 && (leb 2 at && (is_w (get_or text (at - 1) 0) && is_w (get_or text (at - 2) 0))))) (sym e)
    ∙ ap (λ t. (t && eqb (first (drop (at + 1) text)) 47) || (eqb b 46 && (leb 2 at && (is_w (get_or text (at - 1) 0) && is_w (get_or text (at - 2) 0))))) (not_colon b h)
    ∙ ap (λ t. t && (leb 2 at && (is_w (get_or text (at - 1) 0) && is_w (get_or text (at - 2) 0)))) (not_period b h)
  where
    not_colon : (b : ℕ) → is_signless b ≡ true → eqb b 58 ≡ false
    not_colon b h = grind (arith, nat_tests)

    not_period : (b : ℕ) → is_signless b ≡ true → eqb b 46 ≡ false
    not_period b h = grind (arith, nat_tests)

-- no sign in front, up to a place
abbrev pub NoSigns : List ℕ → ℕ → Type 0
NoSigns text at = (k : ℕ) → k < at → sign_at text k ≡ false

-- bytes without colons and periods have no such sign in front
pub first_signless : (text : List ℕ) (at : ℕ) → AreSignless text 0 at → NoSigns text at
first_signless text at are k few = signless_no text k (get_or text k 0) refl (are k (omega arith) few)

-- with no sign up to a place and there, and no colon or period up to another, none is up to that
pub more_signless : (text : List ℕ) (at end : ℕ) → NoSigns text at → sign_at text at ≡ false → AreSignless text (at + 1) end → NoSigns text end
more_signless text at end none here are k few =
    ⊎_elim (λ (low : k < at). none k low)
    (λ (high : at ≤ k). ⊎_elim (λ (behind : at < k). signless_no text k (get_or text k 0) refl (are k (omega (arith, behind)) few)) (λ (same : k ≤ at). ap (sign_at text) (omega (arith, high, same)) ∙ here) (cases_lt at k))
    (cases_lt k at)
