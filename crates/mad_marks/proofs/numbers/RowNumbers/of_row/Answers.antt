use Rattle.std.proofs.Common.{◌∙◌, ap, arith, take, drop, ◌-◌}
use Rattle.mad_marks.proofs.NumberLemmas.{rows_known, row_is, row_within}
use Rattle.mad_marks.proofs.numbers.RowNumbers.of_row.Goals as goal

pub returns-then-row-len : goal.returns-then-row-len
returns-then-row-len c = λ ns held within. absurd (omega (arith, c.if-row-len.true, c.len.ensures, rows_known c.args.self.now ns held, within))

pub returns : goal.returns
returns c = λ ns held within. ap (λ l. take (c.end_of-end.result - c.index-start.result.now) (drop c.index-start.result.now l)) c.deref.ensures.value ∙ row_is c.args.self.now ns c.args.row c.index-start.result.now c.end_of-end.result held within c.index-start.ensures c.end_of-end.ensures

pub returns-then-end-start : goal.returns-then-end-start
returns-then-end-start c = λ ns held within. absurd (omega (arith, c.if-end-start.true, row_within c.args.self.now ns c.args.row c.index-start.result.now c.end_of-end.result held within c.index-start.ensures c.end_of-end.ensures))

pub returns-then-len-end : goal.returns-then-len-end
returns-then-len-end c = λ ns held within. absurd (omega (arith, c.if-len-end.true, c.len-2.ensures, row_within c.args.self.now ns c.args.row c.index-start.result.now c.end_of-end.result held within c.index-start.ensures c.end_of-end.ensures))
