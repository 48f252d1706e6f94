use Rattle.std.proofs.Common.{◌≡◌, ◌+◌, ◌++◌}
use Rattle.std.specs.Prelude.{chars}
use Rattle.std.specs.Str.{IsUtf8}
use Rattle.std.specs.Str.Iter.{chars_rest}
use Rattle.mad_mark_runs.specs.Marks.{count_of}
use Rattle.mad_marked_rows.specs.MarkedTexts.{letters_of, SameFrom}
use Rattle.mad_marked_rows.specs.Paints.{paint_by}
use Rattle.mad_marked_rows.specs.Seen.{counted_text, seen_from}
use Rattle.mad_marked_rows.proofs.seen.push_counted.Given as goal

abbrev pub invariant-loop-c : goal.invariant-loop-c
invariant-loop-c l = record {
  utf8 : IsUtf8 (chars_rest l.rest);
  so_far : l.text.items ++ seen_from (paint_by l.paint.styles.now) l.style l.value (letters_of l.fn.cursor.runs.now l.cursor.number (chars (chars_rest l.rest)))
      ≡ l.fn.text.items ++ counted_text (paint_by l.paint.styles.now) l.fn.cursor.runs.now l.style l.fn.cursor.number (chars l.src);
  number : l.cursor.number + count_of (chars (chars_rest l.rest)) ≡ l.fn.cursor.number + count_of (chars l.src);
  same : SameFrom l.fn.cursor.runs.now l.cursor.runs.now l.cursor.number;
}
