use Rattle.std.proofs.Common.{◌≡◌, ◌+◌}
use Rattle.std.specs.Prelude.{chars, string_bytes}
use Rattle.std.specs.Str.{IsUtf8}
use Rattle.std.specs.Str.Iter.{chars_rest}
use Rattle.mad_mark_runs.specs.Marks.{count_of}
use Rattle.mad_marked_rows.specs.LinkedTexts.{pieces_on, text_links}
use Rattle.mad_marked_rows.specs.MarkedTexts.{letters_of, SameFrom}
use Rattle.mad_marked_rows.specs.Paints.{paint_by}
use Rattle.mad_marked_rows.proofs.PartLemmas.{part_on}
use Rattle.mad_marked_rows.proofs.texts.append_marked_text.Given as goal

abbrev pub invariant-loop-c : goal.invariant-loop-c
invariant-loop-c l = record {
  utf8 : IsUtf8 (chars_rest l.rest);
  so_far : part_on (paint_by l.paint.styles.now) l.addresses l.style (string_bytes l.rows) l.value (letters_of l.fn.cursor.runs.now l.cursor.number (chars (chars_rest l.rest)))
      ≡ pieces_on l.addresses (string_bytes l.fn.rows, l.fn.was) (text_links (paint_by l.paint.styles.now) l.fn.cursor.runs.now l.style l.fn.cursor.number (chars l.text));
  number : l.cursor.number + count_of (chars (chars_rest l.rest)) ≡ l.fn.cursor.number + count_of (chars l.text);
  same : SameFrom l.fn.cursor.runs.now l.cursor.runs.now l.cursor.number;
}
