use Rattle.mad_marks.specs.LineMarks.{has_mark}
use Rattle.mad_marked_rows.proofs.RowLemmas.{bare_number, counted_number}
use Rattle.mad_marked_rows.proofs.seen.push_compound.Goals as goal

pub returns-then-has_mark-clause-number : goal.returns-then-has_mark-clause-number
returns-then-has_mark-clause-number c =
    counted_number (has_mark c.args.kind) c.args.compound.now c.args.cursor.now.number c.push_counted.new.cursor.number c.has_mark.result c.has_mark.ensures c.if-has_mark.true c.in_ok-push_counted.ensures.number

pub returns-clause-number : goal.returns-clause-number
returns-clause-number c = bare_number (has_mark c.args.kind) c.args.compound.now c.args.cursor.now.number c.has_mark.result c.has_mark.ensures c.if-has_mark.false
