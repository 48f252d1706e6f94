use Rattle.std.proofs.Common.{◌≡◌, [], ◌∷◌, ◌++◌, map, ap, sym, ◌∙◌, arith, append_assoc, append-nil}
use Rattle.std.specs.Vec.Iter.{into_iter_items}
use Rattle.std.proofs.lemmas.Grind.{common_steps}
use Rattle.mad_format.specs.declared.line.FmtLine.TheVariants.{TableRow}
use Rattle.mad_blocks.proofs.table_layout.push_rows.Goals as goal

pub loop-row-init : goal.loop-row-init
loop-row-init c = ap (λ rs. c.args.lines.now.items ++ map TableRow rs) c.into_iter-row-iterator.ensures.into_iter_gives.0

pub loop-row-preserved : goal.loop-row-preserved
loop-row-preserved c =
    let after = map TableRow (into_iter_items c.next.new.self) in
    ap (λ ls. ls ++ after) c.in_ok-put_line.ensures ∙ append_assoc c.loop-row.lines.items (TableRow c.in-Some.row ∷ []) after
    ∙ ap (λ rs. c.loop-row.lines.items ++ map TableRow rs) (sym c.in-Some.ensures.steps.0) ∙ c.loop-row.invariant

pub returns : goal.returns
returns c =
    let none : into_iter_items c.loop-row.row-iterator ≡ [] = grind (arith, common_steps) in
    sym (append-nil c.loop-row.lines.items) ∙ ap (λ rs. c.loop-row.lines.items ++ map TableRow rs) (sym none) ∙ c.loop-row.invariant
