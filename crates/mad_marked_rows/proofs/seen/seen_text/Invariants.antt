use Rattle.std.proofs.Common.{◌≡◌, ◌++◌, drop}
use Rattle.mad_marks.specs.LineMarks.{has_mark}
use Rattle.mad_marked_rows.specs.MarkedTexts.{SameFrom}
use Rattle.mad_marked_rows.specs.Paints.{paint_by}
use Rattle.mad_marked_rows.specs.Seen.{seen_compounds}
use Rattle.mad_marked_rows.proofs.seen.seen_text.Given as goal

abbrev pub invariant-loop-compound : goal.invariant-loop-compound
invariant-loop-compound l = record {
  so_far : l.text.items ++ seen_compounds (paint_by l.skin.paint.styles.now) (has_mark l.composite.kind) l.skin.runs.now l.skin.skin.now l.style l.cursor.number (drop l.compound-index l.composite.compounds.items)
      ≡ seen_compounds (paint_by l.skin.paint.styles.now) (has_mark l.composite.kind) l.skin.runs.now l.skin.skin.now l.style l.number l.composite.compounds.items;
  same : SameFrom l.skin.runs.now l.cursor.runs.now l.cursor.number;
}
