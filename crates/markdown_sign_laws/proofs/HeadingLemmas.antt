-- A heading begins with one to six signs #.
use Rattle.std.proofs.Common.{◌≡◌, ℕ, ◌≤◌, Bool, true, false, cond, not, nat_lt, ◌||◌, ◌==◌, List, ◌++◌, drop, replicate, Some, None, refl, sym, ap, subst, ◌∙◌, arith}
use Rattle.std.proofs.lemmas.Bool.{eqb-false, ltb-false, le-ltb, ne_eqb}
use Rattle.markdown_marks.specs.Bytes.{count_in_front, ends_sign}
use Rattle.markdown_marks.specs.Marks.{heading_level, level_of}
use Rattle.markdown_sign_laws.specs.Headings.{HeadingsAreSaid, IsHeading}
use Rattle.markdown_sign_laws.specs.Words.{is_apart}
use Rattle.markdown_sign_laws.proofs.RunLemmas.{apart_stops, counted, ends_said, left_behind, not_none, run, same_some}

three_parts : (a b c : Bool) → (a || b || not c) ≡ false → (a ≡ false) × (b ≡ false) × (c ≡ true)
three_parts true b c h = let no : true ≡ false = h in absurd (cc)
three_parts false true c h = let no : true ≡ false = h in absurd (cc)
three_parts false false false h = let no : true ≡ false = h in absurd (cc)
three_parts false false true h = (refl, refl, refl)

some_level : (a b c : Bool) (n : ℕ) → a ≡ false → b ≡ false → c ≡ true → cond (a || b || not c) None (Some n) ≡ Some n
some_level a b c n e f g = rw e (rw f (rw g refl))

one_least : (n : ℕ) → (n == 0) ≡ false → 1 ≤ n
one_least n h = let no : n ≡ 0 → ⊥ = eqb-false n 0 h in omega arith

said : (level : ℕ) (bytes : List ℕ) → heading_level bytes ≡ Some level → IsHeading level bytes
unfolding heading_level
said level bytes h =
    let n = count_in_front 35 bytes in
    let r = run 35 bytes in
    let found = not_none ((n == 0) || nat_lt 6 n || not (ends_sign (drop n bytes))) (Some n) level h in
    let parts = three_parts (n == 0) (nat_lt 6 n) (ends_sign (drop n bytes)) found.0 in
    subst (λ (k : ℕ). IsHeading k bytes) (same_some n level found.1) (record {
      some = one_least n parts.0;
      most = ltb-false 6 n parts.1;
      behind = r.rest;
      apart = sym (ends_said r.rest) ∙ ap (λ (xs : List ℕ). ends_sign xs) (sym r.left) ∙ parts.2;
      whole = r.whole;
    })

found_at : (level : ℕ) (behind : List ℕ) → 1 ≤ level → level ≤ 6 → is_apart behind ≡ true → heading_level (replicate level 35 ++ behind) ≡ Some level
unfolding heading_level
found_at level behind some most apart =
    let bytes = replicate level 35 ++ behind in
    ap (λ (n : ℕ). level_of n bytes) (counted 35 level behind (apart_stops 35 behind refl apart))
    ∙ some_level (level == 0) (nat_lt 6 level) (ends_sign (drop level bytes)) level (ne_eqb level 0 (λ e. omega arith)) (le-ltb 6 level most)
    (ap (λ (xs : List ℕ). ends_sign xs) (left_behind 35 level behind) ∙ ends_said behind ∙ apart)

-- bytes are a heading's exactly where they are said to be
pub headings_said : HeadingsAreSaid
headings_said level bytes = (said level bytes, λ h. ap heading_level h.whole ∙ found_at level h.behind h.some h.most h.apart)
