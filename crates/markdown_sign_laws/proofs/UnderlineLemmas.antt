-- An underline is a run of one sign alone.
use Rattle.std.proofs.Common.{◌≡◌, ◌⊎◌, inl, inr, ℕ, zero, suc, ◌≤◌, Bool, true, false, cond, List, ◌++◌, replicate, Option, Some, None, refl, sym, ap, ◌∙◌, arith}
use Rattle.markdown_marks.specs.Bytes.{count_in_front, is_run_alone}
use Rattle.markdown_marks.specs.Marks.{underline_level}
use Rattle.markdown_sign_laws.specs.Underlines.{IsUnderline, UnderlinesAreSaid}
use Rattle.markdown_sign_laws.proofs.FenceLemmas.{alone_found, alone_said}
use Rattle.markdown_sign_laws.proofs.RunLemmas.{same_some}

alone_underline : (sign : ℕ) (bytes : List ℕ) → is_run_alone sign 1 bytes ≡ true → IsUnderline sign bytes
alone_underline sign bytes h = let a = alone_said sign 1 bytes h in record { count = a.count; some = a.enough; behind = a.behind; blank = a.blank; whole = a.whole }

-- the level of an underline of one sign, or else of the other
abbrev level_by : Bool → Bool → Option ℕ
level_by p q = cond p (Some 1) (cond q (Some 2) None)

said_by : (p q : Bool) (level : ℕ) (bytes : List ℕ) → is_run_alone 61 1 bytes ≡ p → is_run_alone 45 1 bytes ≡ q → level_by p q ≡ Some level → ((level ≡ 1) × IsUnderline 61 bytes) ⊎ ((level ≡ 2) × IsUnderline 45 bytes)
said_by true q level bytes e f h = inl (sym (same_some 1 level h), alone_underline 61 bytes e)
said_by false true level bytes e f h = inr (sym (same_some 2 level h), alone_underline 45 bytes f)
said_by false false level bytes e f h = let no : None ≡ Some level = h in absurd (cc)

said : (level : ℕ) (bytes : List ℕ) → underline_level bytes ≡ Some level → ((level ≡ 1) × IsUnderline 61 bytes) ⊎ ((level ≡ 2) × IsUnderline 45 bytes)
unfolding underline_level
said level bytes h = said_by (is_run_alone 61 1 bytes) (is_run_alone 45 1 bytes) level bytes refl refl h

-- hyphens aren't signs =
no_equals : (count : ℕ) (behind : List ℕ) → 1 ≤ count → is_run_alone 61 1 (replicate count 45 ++ behind) ≡ false
unfolding is_run_alone count_in_front
no_equals zero behind some = absurd (omega (arith, some))
no_equals (suc count) behind some = refl

equals_level : (bytes : List ℕ) → is_run_alone 61 1 bytes ≡ true → underline_level bytes ≡ Some 1
unfolding underline_level
equals_level bytes h = ap (λ (t : Bool). level_by t (is_run_alone 45 1 bytes)) h

hyphens_level : (bytes : List ℕ) → is_run_alone 61 1 bytes ≡ false → is_run_alone 45 1 bytes ≡ true → underline_level bytes ≡ Some 2
unfolding underline_level
hyphens_level bytes e f = ap (λ (t : Bool). level_by t (is_run_alone 45 1 bytes)) e ∙ ap (λ (t : Bool). level_by false t) f

found_by : (level : ℕ) (bytes : List ℕ) → ((level ≡ 1) × IsUnderline 61 bytes) ⊎ ((level ≡ 2) × IsUnderline 45 bytes) → underline_level bytes ≡ Some level
found_by level bytes (inl h) =
    let u = h.1 in equals_level bytes (ap (is_run_alone 61 1) u.whole ∙ alone_found 61 1 u.count u.behind refl u.some u.blank) ∙ ap (λ (n : ℕ). Some n) (sym h.0)
found_by level bytes (inr h) =
    let u = h.1 in
    hyphens_level bytes (ap (is_run_alone 61 1) u.whole ∙ no_equals u.count u.behind u.some) (ap (is_run_alone 45 1) u.whole ∙ alone_found 45 1 u.count u.behind refl u.some u.blank)
    ∙ ap (λ (n : ℕ). Some n) (sym h.0)

-- bytes underline a heading exactly where they are said to
pub underlines_said : UnderlinesAreSaid
underlines_said level bytes = (said level bytes, found_by level bytes)
