use Rattle.std.proofs.Common.{◌≡◌, ◌++◌, List, [], ◌∷◌, ℕ, length, map, sym, ap, ◌∙◌, arith, append-nil, eqb-true}
use Rattle.markdown_emphasis.specs.declared.runs.Pair.{Pair}
use Rattle.markdown_emphasis.specs.Matching.{matches}
use Rattle.markdown_emphasis.specs.Pieces.{moved}
use Rattle.markdown_brackets.specs.declared.brackets.Placed.{Placed}
use Rattle.markdown_brackets.specs.Brackets.{place_of, run_of, inside_pairs}
use Rattle.markdown_brackets.proofs.brackets.add_pairs.Goals as goal

-- no runs have no pairs
none_inside : (placed : List Placed) (out : List Pair) → length placed ≡ 0 → out ≡ out ++ inside_pairs placed
none_inside [] out e = sym (append-nil out)
none_inside (p ∷ placed) out e = absurd (omega (arith, e))

pub returns-then-is_empty : goal.returns-then-is_empty
returns-then-is_empty c = none_inside c.args.placed.now c.args.out.now.items (eqb-true (length c.args.placed.now) 0 (sym c.is_empty.ensures ∙ c.if-is_empty.true))

pub returns : goal.returns
returns c =
    let placed = c.args.placed.now in
    let pairs : c.deref-2.result.now ≡ matches (map run_of placed) = c.deref-2.ensures.value ∙ c.in_ok-pairs.ensures.matched ∙ ap matches (c.deref.ensures.value ∙ c.in_ok-runs.ensures) in
    let places : c.deref-3.result.now ≡ map place_of placed = c.deref-3.ensures.value ∙ c.in_ok-places.ensures in
    c.in_ok-add_moved.ensures
    ∙ ap (λ (l : List ℕ). c.args.out.now.items ++ map (moved l) c.deref-2.result.now) places
    ∙ ap (λ (l : List Pair). c.args.out.now.items ++ map (moved (map place_of placed)) l) pairs
