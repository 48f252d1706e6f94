use Rattle.std.specs.Fmt.{IsPlainFormatter}
use Rattle.std.specs.Prelude.{chars}
use Rattle.std.specs.Str.{IsUtf8}
use Rattle.std.specs.Str.Iter.{chars_rest}
use Rattle.mad_draw.specs.Pieces.{pieces_bytes}
use Rattle.mad_marked_rows.specs.MarkedTexts.{letters_of, text_pieces, SameFrom}
use Rattle.mad_marked_rows.specs.Paints.{paint_by}
use Rattle.mad_marked_rows.proofs.DisplayLemmas.{left_of, PartlyWritten}
use Rattle.mad_marked_rows.proofs.displayed.write_marked.Given as goal

abbrev pub invariant-loop-c : goal.invariant-loop-c
invariant-loop-c g l = record {
  utf8 : IsUtf8 (chars_rest l.rest);
  same : SameFrom l.fn.runs l.cursor.runs.now l.cursor.number;
  so_far : IsPlainFormatter l.fn.f → PartlyWritten g.W.Write.write_str_gives l.fn.f (left_of (paint_by l.fn.styles) l.fn.style l.value (letters_of l.fn.runs l.cursor.number (chars (chars_rest l.rest))))
      (pieces_bytes (text_pieces (paint_by l.fn.styles) l.fn.runs l.fn.style l.fn.number (chars l.fn.text))) l.f;
}
