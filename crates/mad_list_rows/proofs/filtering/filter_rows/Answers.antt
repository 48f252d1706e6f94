use Rattle.std.proofs.Common.{Some, arith}
use Rattle.mad_list_rows.specs.Answers.{IsAnswered}
use Rattle.mad_list_rows.proofs.FilterLemmas.{filtered_more, one_more, no_more}
use Rattle.mad_list_rows.proofs.filtering.filter_rows.Goals as goal
use Rattle.mad_list_rows.proofs.filtering.filter_rows.Goals.{then-row, else-row}

pub loop-row-preserved : goal.loop-row-preserved
loop-row-preserved g c =
    let i = c.loop-row.invariant in
    filtered_more (IsAnswered g.F.RowFilter.answers (Some c.args.filter.now)) _ _ _ c.loop-row.count _ c.row-item.result c.accepts-row.result (omega (arith, c.loop-row-test.true)) c.accepts-row.ensures
    (elim c.if-row.branch [ then-row w ↦ one_more _ _ _ w.if-row.true w.count-is | else-row w ↦ no_more _ _ _ w.if-row.false w.count-is ])
    (elim c.if-row.branch [ then-row w ↦ omega arith | else-row w ↦ omega arith ]) i.0 i.2 i.3
