use Rattle.std.proofs.Common.{◌≡◌, [], ◌∷◌, ◌++◌, ap, sym, ◌∙◌, arith, append_assoc, append-nil}
use Rattle.std.specs.Vec.Iter.{into_iter_items}
use Rattle.std.proofs.lemmas.Grind.{common_steps}
use Rattle.mad_blocks.proofs.table_layout.push_rest.Goals as goal

pub loop-line-preserved : goal.loop-line-preserved
loop-line-preserved c =
    let after = into_iter_items c.next.new.self in
    ap (λ ls. ls ++ after) c.in_ok-put_line.ensures ∙ append_assoc c.loop-line.lines.items (c.in-Some.line ∷ []) after
    ∙ ap (λ ls. c.loop-line.lines.items ++ ls) (sym c.in-Some.ensures.steps.0) ∙ c.loop-line.invariant

pub returns : goal.returns
returns c =
    let none : into_iter_items c.loop-line.line-iterator ≡ [] = grind (arith, common_steps) in
    sym (append-nil c.loop-line.lines.items) ∙ ap (λ ls. c.loop-line.lines.items ++ ls) (sym none) ∙ c.loop-line.invariant
