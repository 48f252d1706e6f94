use Rattle.std.proofs.Common.{drop}
use Rattle.std.specs.Fmt.{IsPlainFormatter}
use Rattle.mad_draw.specs.Pieces.{pieces_bytes}
use Rattle.mad_marks.specs.LineMarks.{has_mark}
use Rattle.mad_marked_rows.specs.MarkedRows.{marked_compounds}
use Rattle.mad_marked_rows.specs.Paints.{paint_by}
use Rattle.mad_marked_rows.proofs.DisplayLemmas.{PartlyWritten}
use Rattle.mad_marked_rows.proofs.displayed.MarkedCompoundsDisplay.fmt.Given as goal

abbrev pub invariant-loop-compound : goal.invariant-loop-compound
invariant-loop-compound g l =
    IsPlainFormatter l.initial.f
    → PartlyWritten g.W.Write.write_str_gives l.initial.f (pieces_bytes (marked_compounds (paint_by l.self.styles.now) (has_mark l.self.kind) l.self.runs.now l.self.skin.now l.self.style.now l.number (drop l.compound-index l.self.compounds.now)))
    (pieces_bytes (marked_compounds (paint_by l.self.styles.now) (has_mark l.self.kind) l.self.runs.now l.self.skin.now l.self.style.now l.self.number l.self.compounds.now)) l.f
