-- The rows of a page at a width.
use Rattle.std.specs.Prelude.{◌≡◌, ℕ, Bool, true, List, Option}
use Rattle.mad_format.specs.LineRules.{LineRules}
use Rattle.mad_format.specs.Lists.{EachBecomes}
use Rattle.mad_format.specs.declared.line.FmtLine.{FmtLine}
use Rattle.mad_blocks.specs.Layouts.{IsLayoutAt}
use Rattle.mad_sections.specs.Gutters.{room, shown}
use Rattle.mad_sections.specs.Sections.{SectionContent}
use Rattle.mad_blocks.specs.Tables.{table_rules}
use Rattle.mad_sections.specs.Unfolded.{unfolded}
use Rattle.mad_pages.specs.PageRows.{RowContent, behind}

-- The rows are those of a section at a width, if there is one: its lines laid out in the room behind its gutters, behind those that are shown, with its
-- marks.
pub record IsSectionAt (rules : LineRules) (ascii : Bool) (width : Option ℕ) (section : SectionContent) (rows : List RowContent) : Type 0 where
  pub lines : List FmtLine
  pub layout : IsLayoutAt rules (room ascii width section.gutters) section.lines lines
  pub rows_are : rows ≡ behind (shown ascii width section.gutters) section.fresh section.marks 0 true lines

-- what becomes of a section: the rows of those that are shown in its place
abbrev pub BecomesAt : LineRules → Bool → Option ℕ → SectionContent → List RowContent → Type 0
BecomesAt rules ascii width section rows = EachBecomes (IsSectionAt rules ascii width) (unfolded (table_rules rules) ascii width section) rows

-- the rows are those of a page: those of its sections, in order
abbrev pub IsPageAt : LineRules → Bool → Option ℕ → List SectionContent → List RowContent → Type 0
IsPageAt rules ascii width page rows = EachBecomes (BecomesAt rules ascii width) page rows
