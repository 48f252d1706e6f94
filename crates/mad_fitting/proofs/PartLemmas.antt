-- Where runs are in a compound.
use Rattle.std.proofs.Common.{◌≡◌, ℕ, ◌+◌, ◌-◌, ◌<◌, inl, inr, Bool, true, false, cond, List, [], ◌∷◌, ◌++◌, length, take, drop, refl, sym, ap, ◌∙◌, arith, subst}
use Rattle.std.specs.Char.{is_whitespace}
use Rattle.std.specs.Str.{IsUtf8, IsCharBoundary, chars, trim_start, skip_leading_whitespace}
use Rattle.std.proofs.Math.Utf8.{encodes, scalars}
use Rattle.std.proofs.Math.Seq.{drop-append_seam}
use Rattle.std.proofs.lemmas.Bool.{and_parts, cases_lt, false≢true}
use Rattle.std.proofs.lemmas.List.{append_assoc, length-append, length-take, take-append-drop}
use Rattle.std.proofs.lemmas.Str.{chars-encodes, encodes-append, encodes-chars, encodes_same, IsUtf8-drop, IsCharBoundary-at_seam, IsCharBoundary-from_rest}
use Rattle.mad_fitting.specs.Pieces.{IsFrontOf, IsSolidFront}
use Rattle.mad_fitting.specs.declared.fronts.Front.{Front}
use Rattle.mad_fitting.proofs.ShorteningLemmas.{some_chars}

skip_with : (c : ℕ) (cs : List ℕ) (t : Bool) → scalars (c ∷ cs) ≡ true → ((ps : List ℕ) × (cs ≡ ps ++ skip_leading_whitespace cs) × (scalars (skip_leading_whitespace cs) ≡ true))
    → (ps : List ℕ) × (c ∷ cs ≡ ps ++ cond t (skip_leading_whitespace cs) (c ∷ cs)) × (scalars (cond t (skip_leading_whitespace cs) (c ∷ cs)) ≡ true)
skip_with c cs true s h = (c ∷ h.0, ap (λ l. c ∷ l) h.1, h.2)
skip_with c cs false s h = ([], refl, s)

skip_cuts : (cs : List ℕ) → scalars cs ≡ true → (ps : List ℕ) × (cs ≡ ps ++ skip_leading_whitespace cs) × (scalars (skip_leading_whitespace cs) ≡ true)
skip_cuts [] s = ([], refl, s)
skip_cuts (c ∷ cs) s = skip_with c cs (is_whitespace c) s (skip_cuts cs (and_parts _ (scalars cs) s).1)

-- a text without whitespace in front is its end
pub start_cuts : (text : List ℕ) → IsUtf8 text → (front : List ℕ) × (text ≡ front ++ trim_start text) × IsUtf8 (trim_start text)
unfolding trim_start
start_cuts text h =
    let own : chars text ≡ h.0 = ap chars (sym h.1.1) ∙ chars-encodes h.0 h.1.0 in
    let cut = skip_cuts h.0 h.1.0 in
    let kept : encodes (skip_leading_whitespace h.0) ≡ encodes (skip_leading_whitespace (chars text)) = ap (λ cs. encodes (skip_leading_whitespace cs)) (sym own) in (
      encodes cut.0,
      sym h.1.1 ∙ ap encodes cut.1 ∙ encodes-append cut.0 (skip_leading_whitespace h.0) ∙ ap (λ l. encodes cut.0 ++ l) kept,
      (skip_leading_whitespace h.0, (cut.2, kept)),
    )

skip_by : (x : ℕ) (cs : List ℕ) (c : ℕ) (ds : List ℕ) (t : Bool) → is_whitespace x ≡ t → cond t (skip_leading_whitespace cs) (x ∷ cs) ≡ c ∷ ds → is_whitespace c ≡ true → (skip_leading_whitespace cs ≡ c ∷ ds → ⊥) → ⊥
skip_by x cs c ds true q e w ih = ih e
skip_by x cs c ds false q e w ih = let same : x ≡ c = cc in false≢true (sym q ∙ ap is_whitespace same ∙ w)

-- what is left without whitespace in front doesn't begin with any
skip_first : (cs : List ℕ) (c : ℕ) (ds : List ℕ) → skip_leading_whitespace cs ≡ c ∷ ds → is_whitespace c ≡ true → ⊥
skip_first [] c ds e w = absurd (cc)
skip_first (x ∷ cs) c ds e w = skip_by x cs c ds (is_whitespace x) refl e w (λ f. skip_first cs c ds f w)

trimmed : (text : List ℕ) → IsUtf8 (trim_start text) → chars (trim_start text) ≡ skip_leading_whitespace (chars text)
unfolding trim_start
trimmed text utf8 = encodes_same (chars (trim_start text)) (skip_leading_whitespace (chars text)) (encodes-chars (trim_start text) utf8)

-- a list that isn't empty has a first element
pub first_of : (cs : List ℕ) → 0 < length cs → (c : ℕ) × (ds : List ℕ) × (cs ≡ c ∷ ds)
first_of [] some = absurd (omega (arith, some))
first_of (c ∷ cs) some = (c, cs, refl)

solid_some : (text rest : List ℕ) (front : Front) → rest ≡ trim_start text → IsUtf8 rest → 0 < length rest → IsSolidFront rest front → 0 < front.bytes
solid_some text rest front is utf8 some h = elim (cases_lt 0 front.bytes) as (λ _. 0 < front.bytes) [
  | inl more ↦ more
  | inr none ↦
      let zero : front.bytes ≡ 0 = omega (arith, none) in
      let (c, ds, e) = first_of (chars rest) (some_chars rest utf8 some) in
      let white = h.ended c ds (ap (λ n. chars (drop n rest)) zero ∙ e) in
      absurd (skip_first (chars text) c ds (sym (trimmed text (subst IsUtf8 is utf8)) ∙ ap chars (sym is) ∙ e) white)
]

-- where the next run is
pub next_part : (src rest : List ℕ) (at : ℕ) (front : Front) → IsUtf8 src → IsCharBoundary src at → rest ≡ trim_start (drop at src) → 0 < length rest → IsFrontOf rest front → IsSolidFront rest front
    → IsCharBoundary src (length src - length rest) × IsCharBoundary src (length src - length rest + front.bytes) × (at < length src - length rest + front.bytes) × (0 < front.bytes)
next_part src rest at front utf8 border is some own solid =
    let back = IsUtf8-drop src at utf8 border in
    let (gap, cut, trimmed_utf8) = start_cuts (drop at src) back in
    let parts : drop at src ≡ gap ++ rest = cut ∙ ap (λ l. gap ++ l) (sym is) in
    let before = take at src ++ gap in
    let all : src ≡ before ++ rest = sym (take-append-drop at src) ∙ ap (λ l. take at src ++ l) parts ∙ sym (append_assoc (take at src) gap rest) in
    let size : length before ≡ length src - length rest = omega (arith, ap length all, length-append before rest) in
    let start = length src - length rest in
    let first : IsCharBoundary src start = subst (IsCharBoundary src) size (IsCharBoundary-at_seam src before rest all own.utf8) in
    let left : drop start src ≡ rest = ap (λ n. drop n src) (sym size) ∙ ap (drop (length before)) all ∙ drop-append_seam before rest in
    let bytes = solid_some (drop at src) rest front is own.utf8 some solid in (
      first,
      IsCharBoundary-from_rest src start front.bytes first.0 (subst (λ l. IsCharBoundary l front.bytes) (sym left) own.border),
      omega (arith, bytes, size, length-append (take at src) gap, length-take at src, border.0),
      bytes,
    )
