use Rattle.std.proofs.Common.{◌≡◌, ◌++◌, drop}
use Rattle.mad_marks.specs.LineMarks.{has_mark}
use Rattle.mad_marks.specs.RowNumbers.{firsts_of, number_after}
use Rattle.mad_marks.proofs.numbers.firsts_of.Given as goal

abbrev pub invariant-loop-cell : goal.invariant-loop-cell
invariant-loop-cell l = record {
  firsts : l.firsts.items ++ firsts_of has_mark l.next (drop l.cell-index l.cells) ≡ firsts_of has_mark l.number l.cells;
  after : number_after has_mark l.next (drop l.cell-index l.cells) ≡ number_after has_mark l.number l.cells;
}
