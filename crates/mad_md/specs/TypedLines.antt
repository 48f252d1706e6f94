-- What the types of a line's parts promise of it: text is UTF-8, as a `&str` is, and a number is below 2^32, as a `u32` is.
use Rattle.std.specs.Prelude.{ℕ, ◌<◌, ◌^◌, List}
use Rattle.std.specs.List.{AllByRecursion}
use Rattle.std.specs.Str.{IsUtf8}
use Rattle.mad_md.specs.Flagged.{Run}
use Rattle.mad_md.specs.Lines.{StyledRuns, LineContent, normal, table_row, table_rule, horizontal_rule}
use Rattle.mad_md.specs.Reading.{Unread, IsRead}
use Rattle.mad_md.specs.declared.composite.CompositeStyle.{CompositeStyle}
use Rattle.mad_md.specs.declared.composite.CompositeStyle.TheVariants.{OrderedListItem}

-- the number of an item, if the style has one
abbrev pub IsTypedStyle : CompositeStyle → Type 0
IsTypedStyle (OrderedListItem level index) = index < 2 ^ 32
IsTypedStyle _ = Unit {0}

-- a run's text
abbrev pub IsTypedRun : Run → Type 0
IsTypedRun run = IsUtf8 run.text

-- a line's or a cell's number, if it has one, and each of its runs
pub record IsTypedText (text : StyledRuns) : Type 0 where
  pub style : IsTypedStyle text.style
  pub runs : AllByRecursion IsTypedRun text.runs

-- each text of a line
abbrev pub IsTypedLine : LineContent → Type 0
IsTypedLine (normal text) = IsTypedText text
IsTypedLine (table_row cells) = AllByRecursion IsTypedText cells
IsTypedLine (table_rule alignments) = Unit {0}
IsTypedLine horizontal_rule = Unit {0}

-- Each line of a UTF-8 text that is read is so.
abbrev pub ReadLinesAreTyped : Type 0
ReadLinesAreTyped = (unread : Unread) (lines : List LineContent) → IsUtf8 unread.text → IsRead unread lines → AllByRecursion IsTypedLine lines
