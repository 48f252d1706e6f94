-- A table of data, as a caller hands it.
use Rattle.std.specs.Prelude.{◌≡◌, ◌⊎◌, ℕ, ◌≤◌, ◌^◌, List, Some, IsUtf8}
use Rattle.mad_tables.specs.DataTables.{AreNoCells, AreTableLines}
use Rattle.termimad.specs.Layouts.{IsLayoutAt}
use Rattle.termimad.specs.Lines.{LineContent}
use Rattle.termimad.specs.RowSkins.{row_skin}
use Rattle.termimad.specs.RowStyles.{line_rules}
use Rattle.termimad.specs.Rows.{text_bytes}
use Rattle.termimad.specs.declared.Alignment.{Alignment}
use Rattle.termimad.specs.declared.FmtLine.{FmtLine}
use Rattle.termimad.specs.declared.MadSkin.{MadSkin}
use Rattle.termimad_c.specs.Inputs.{AreAligned, IsSkinOf}

-- what is handed is no table that can be laid out at this width
abbrev pub IsNoTable : List ℕ → List ℕ → List ℕ → ℕ → ℕ → Type 0
IsNoTable text lengths aligns columns width =
    (2 ^ 16 ≤ width) ⊎ (((made : List Alignment) → ¬ (AreAligned aligns made)) ⊎ AreNoCells text lengths columns)

-- They are the rows of the table, laid out at this width in the skin of this word, each with a newline.
pub record IsTableWritten (text lengths aligns word : List ℕ) (columns width : ℕ) (whole : List ℕ) : Type 0 where
  pub utf8 : IsUtf8 text
  pub skin : MadSkin
  pub given : IsSkinOf word skin
  pub sides : List Alignment
  pub aligned : AreAligned aligns sides
  pub table : List LineContent
  pub cells : AreTableLines text lengths columns sides table
  pub lines : List FmtLine
  pub layout : IsLayoutAt (line_rules (row_skin skin)) (Some width) table lines
  pub whole_is : whole ≡ text_bytes (row_skin skin) (Some width) lines
