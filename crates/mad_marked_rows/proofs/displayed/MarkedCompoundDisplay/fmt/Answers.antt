use Rattle.std.proofs.Output.{has_written_of_eq}
use Rattle.mad_marks.specs.LineMarks.{has_mark}
use Rattle.mad_marked_rows.specs.Paints.{paint_by}
use Rattle.mad_marked_rows.proofs.DisplayLemmas.{bare_bytes, counted_bytes}
use Rattle.mad_marked_rows.proofs.displayed.MarkedCompoundDisplay.fmt.Goals as goal

pub returns-then-has_mark-clause-writes : goal.returns-then-has_mark-clause-writes
returns-then-has_mark-clause-writes g c = λ plain ok.
    let self = c.args.self.now in
    has_written_of_eq _ _ _ _ _
    (counted_bytes (paint_by self.styles.now) (has_mark self.kind) self.runs.now self.skin.now self.style.now self.number self.compound.now c.compound_style-own.result c.has_mark.result c.has_mark.ensures c.if-has_mark.true c.compound_style-own.ensures)
    (c.write_marked.ensures plain ok)

pub returns-else-has_mark-clause-writes : goal.returns-else-has_mark-clause-writes
returns-else-has_mark-clause-writes g c = λ plain ok.
    let self = c.args.self.now in
    has_written_of_eq _ _ _ _ _
    (bare_bytes (paint_by self.styles.now) (has_mark self.kind) self.runs.now self.skin.now self.style.now self.number self.compound.now c.compound_style-own.result _ _ c.has_mark.result c.has_mark.ensures c.if-has_mark.false c.compound_style-own.ensures c.apply_to-piece.ensures.style c.apply_to-piece.ensures.content)
    (c.fmt.ensures.writes plain ok)
