-- Texts of paragraphs in which each character takes columns.
use Rattle.std.specs.Prelude.{ℕ, ◌<◌, List, None}
use Rattle.std.specs.List.{AllByRecursion}
use Rattle.std.specs.Str.{chars, IsUtf8}
use Rattle.mad_characters.specs.Columns.{char_columns}
use Rattle.mad_md.specs.Parts.{AreParts, line_spans, line_text}
use Rattle.mad_md.specs.ReadByMarks.{IsParagraphText}
use Rattle.mad_term.specs.Trace.{Trace, TookWith}
use Rattle.mad_measure.specs.declared.area.Area.{Area}
use Rattle.mad_layout.specs.InArea.{IsAreaFront}
use Rattle.mad_layout.specs.Shown.{AreShownIn}
use Rattle.mad_rows.specs.declared.row_skin.RowSkin.{RowSkin}
use Rattle.mad_format.specs.declared.line.FmtLine.{FmtLine}

-- each character of the text takes columns: none is a control character, and none is joined to the one before it
pub record TakesColumns (text : List ℕ) : Type 0 where
  pub utf8 : IsUtf8 text
  pub columns : AllByRecursion (λ c. 0 < char_columns c) (chars text)

-- Each line of the source is such a text, and begins as a paragraph. A newline is in no line, nor is a carriage return in front of one.
abbrev pub LinesTakeColumns : List ℕ → Type 0
LinesTakeColumns source =
    (parts : List (List ℕ)) → AreParts source parts → AllByRecursion (λ span. TakesColumns (line_text source span) × IsParagraphText (line_text source span)) (line_spans parts)

-- What a plain terminal shows that reads what was written: the first rows of a layout of the text in the area, every other cell as
-- before, and the plain pen again.
pub record ShowsSource (skin : RowSkin) (markdown : List ℕ) (area : Area) (old new : Trace) : Type 0 where
  pub lines : List FmtLine
  pub laid_out : IsAreaFront skin markdown area lines
  pub shown : TookWith old new (AreShownIn skin None lines area 0)
