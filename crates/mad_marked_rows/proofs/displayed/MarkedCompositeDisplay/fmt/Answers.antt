use Rattle.std.proofs.Common.{refl}
use Rattle.std.proofs.Output.{has_written_append, has_written_of_eq}
use Rattle.mad_marks.specs.LineMarks.{has_mark}
use Rattle.mad_marked_rows.specs.Paints.{paint_by}
use Rattle.mad_marked_rows.proofs.DisplayLemmas.{composite_bytes}
use Rattle.mad_marked_rows.proofs.displayed.MarkedCompositeDisplay.fmt.Goals as goal

pub returns-clause-writes : goal.returns-clause-writes
returns-clause-writes g c = λ plain ok.
    let self = c.args.self.now in
    let front = rw c.ends.ensures.front at (c.in_ok-fmt.ensures.writes plain refl) in
    let text = c.in_ok-fmt-2.ensures.writes front.plain refl in
    let end = rw c.ends.ensures.end at (c.fmt-3.ensures.writes text.plain ok) in
    has_written_of_eq _ _ _ _ _
    (composite_bytes (paint_by self.styles.now) has_mark self.runs.now self.skin.now self.place.outer self.place.margins self.place.filled self.number self.composite.now c.line_style-style.result.now c.deref.result.now c.line_style-style.ensures c.deref.ensures.value)
    (has_written_append _ _ _ _ _ _ (has_written_append _ _ _ _ _ _ front text) end)
