use Rattle.std.proofs.Common.{◌≡◌, None, drop}
use Rattle.std.specs.Prelude.{string_bytes}
use Rattle.mad_marks.specs.LineMarks.{has_mark}
use Rattle.mad_marked_rows.specs.LinkedTexts.{pieces_on}
use Rattle.mad_marked_rows.specs.MarkedTexts.{SameFrom}
use Rattle.mad_marked_rows.specs.Paints.{paint_by}
use Rattle.mad_marked_rows.specs.LinkedRows.{linked_compounds}
use Rattle.markdown_linked_pages.proofs.open_composites.append_open_compounds.Given as goal

abbrev pub invariant-loop-compound : goal.invariant-loop-compound
invariant-loop-compound l = record {
  so_far : pieces_on l.skin.addresses.now (string_bytes l.rows, l.link) (linked_compounds (paint_by l.skin.paint.styles.now) (has_mark l.kind) l.fn.cursor.runs.now l.skin.skin.now l.style l.cursor.number (drop l.compound-index l.compounds))
      ≡ pieces_on l.skin.addresses.now (string_bytes l.fn.rows, None) (linked_compounds (paint_by l.skin.paint.styles.now) (has_mark l.kind) l.fn.cursor.runs.now l.skin.skin.now l.style l.fn.cursor.number l.compounds);
  same : SameFrom l.fn.cursor.runs.now l.cursor.runs.now l.cursor.number;
}
