use Rattle.std.proofs.Common.{◌++◌, ◌∷◌, []}
use Rattle.mad_marks.specs.LineMarks.{has_mark}
use Rattle.mad_marks.specs.RowNumbers.{cells_of, row_numbers}
use Rattle.mad_marks.proofs.NumberLemmas.{holds_more, row_pushed}
use Rattle.mad_marks.proofs.numbers.RowNumbers.push_rows.Goals as goal

pub loop-row-preserved : goal.loop-row-preserved
loop-row-preserved c = λ ns held.
    let before = c.loop-row.invariant ns held in
    let row = row_numbers c.loop-row.firsts (cells_of c.row-item.result) in (
      before.0 ++ row ∷ [],
      holds_more c.loop-row.self c.push_line.new.self before.0 row before.1 c.in_ok-push_line.ensures.numbers c.in_ok-push_line.ensures.starts,
      row_pushed has_mark before.0 _ c.loop-row.firsts c.push_line.new.firsts c.args.rows.now c.loop-row.row-index c.row-item.result c.loop-row-test.true c.row-item.is c.in_ok-push_line.ensures.passed before.2,
    )
