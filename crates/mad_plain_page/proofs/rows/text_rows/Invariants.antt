use denote.Shadow.{shadow}
use denote.Text.{Utf8}
use Rattle.std.proofs.Common.{◌≡◌, ◌++◌, chars, map}
use Rattle.std.specs.Vec.Iter.{into_iter_items}
use Rattle.mad_md.specs.Lines.{content_of}
use Rattle.mad_plain.specs.Rows.{rows_by}
use Rattle.mad_plain_page.specs.PlainTexts.{said_line, said_rows}
use Rattle.mad_plain_page.proofs.rows.text_rows.Given as goal

-- the rows so far, and those that what is left is cut into, are all
abbrev pub invariant-loop-end : goal.invariant-loop-end
invariant-loop-end l = record {
  text : shadow (Utf8 l.rest);
  so_far : map content_of l.rows.items ++ map said_line (rows_by l.at (into_iter_items l.end-iterator) (chars l.rest)) ≡ said_rows l.width (chars l.text);
}
