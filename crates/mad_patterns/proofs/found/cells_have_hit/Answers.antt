use Rattle.std.proofs.Common.{arith, ap, sym, ◌∙◌}
use Rattle.regex.specs.Strings.{regex_pattern}
use Rattle.mad_patterns.specs.Searches.{cell_has_hit}
use Rattle.mad_patterns.proofs.FoundLemmas.{any_here, any_later, any_none}
use Rattle.mad_patterns.proofs.found.cells_have_hit.Goals as goal

pub loop-cell-preserved : goal.loop-cell-preserved
loop-cell-preserved c =
    let p = cell_has_hit (regex_pattern c.args.sought.now) in
    record {
      same = c.in_ok-has.ensures.same ∙ c.loop-cell.invariant.same;
      any = any_later p c.args.cells.now c.loop-cell.cell-index c.cell-item.result c.loop-cell-test.true (sym (c.in_ok-has.ensures.has ∙ ap p c.cell-item.is) ∙ c.if-has.false) c.loop-cell.invariant.any;
    }

pub returns-then-has-clause-has : goal.returns-then-has-clause-has
returns-then-has-clause-has c =
    let p = cell_has_hit (regex_pattern c.args.sought.now) in
    any_here p c.args.cells.now c.loop-cell.cell-index c.cell-item.result c.loop-cell-test.true (sym (c.in_ok-has.ensures.has ∙ ap p c.cell-item.is) ∙ c.if-has.true) c.loop-cell.invariant.any

pub returns-clause-has : goal.returns-clause-has
returns-clause-has c = any_none (cell_has_hit (regex_pattern c.args.sought.now)) c.args.cells.now c.loop-cell.cell-index (omega arith) c.loop-cell.invariant.any
