-- Where certain bytes aren't found.
use Rattle.std.proofs.Common.{◌≡◌, ℕ, zero, suc, ◌+◌, ◌-◌, ◌<◌, ◌≤◌, ⊎_elim, true, false, cond, List, [], ◌∷◌, length, drop, refl, sym, ap, ◌∙◌, arith, Some, None}
use Rattle.std.proofs.lemmas.Bool.{cases_lt}
use Rattle.std.proofs.lemmas.List.{drop_all, drop-drop}
use Rattle.markdown_html.specs.Starts.{begins}
use Rattle.markdown_spans.specs.Needles.{after_first, IsLast}

-- nothing is where nothing is left
begins_nothing : (needle : List ℕ) → 0 < length needle → begins [] needle ≡ false
begins_nothing [] h = absurd (omega arith)
begins_nothing (n ∷ ns) h = refl

-- past the end of a text these bytes begin nowhere
pub last_end : (needle text : List ℕ) (last : ℕ) → 0 < length needle → length text ≤ last → IsLast needle last text
last_end needle text last some h = λ at k. ap (λ (l : List ℕ). begins l needle) (drop_all at text (omega arith)) ∙ begins_nothing needle some

-- where they don't begin one place earlier, they begin nowhere from there on
pub last_step : (needle text : List ℕ) (last less : ℕ) → IsLast needle last text → last ≡ less + 1 → begins (drop less text) needle ≡ false → IsLast needle less text
last_step needle text last less none e here = λ at k.
    ⊎_elim (λ (low : at < last). let same : less ≡ at = omega (arith, e) in ap (λ i. begins (drop i text) needle) (sym same) ∙ here) (λ (high : last ≤ at). none at high) (cases_lt at last)

-- where they begin nowhere, they aren't found
none_by : (needle bs : List ℕ) → ((at : ℕ) → begins (drop at bs) needle ≡ false) → after_first needle bs ≡ None
unfolding after_first
none_by needle [] h = refl
none_by needle (b ∷ bs) h =
    ap (λ t. cond t (Some (drop (length needle) (b ∷ bs))) (after_first needle bs)) (h 0) ∙ none_by needle bs (λ at. h (suc at))

-- from where they begin nowhere on, they aren't found
pub none_from : (needle text : List ℕ) (last at skip : ℕ) → IsLast needle last text → last ≤ at + skip → None ≡ after_first needle (drop skip (drop at text))
none_from needle text last at skip none h =
    sym (none_by needle (drop skip (drop at text)) (λ i. ap (λ (l : List ℕ). begins l needle) (drop-drop i skip (drop at text) ∙ drop-drop (skip + i) at text) ∙ none (at + (skip + i)) (omega arith)))
