-- Blanks beside the cells of tables.
use Rattle.std.specs.Prelude.{◌≡◌, ℕ, Bool, true, List, [], ◌∷◌, ◌++◌, Option}
use Rattle.mad_draw.specs.Pieces.{RowPiece}
use Rattle.mad_format.specs.declared.composite.FmtComposite.{FmtComposite}
use Rattle.mad_format.specs.declared.line.FmtLine.TheVariants.{TableRow}
use Rattle.mad_format.specs.declared.table.FmtTableRow.{FmtTableRow}
use Rattle.mad_rows.specs.declared.row_skin.RowSkin.{RowSkin}
use Rattle.mad_pages.specs.PageRows.{RowContent}
use Rattle.mad_page_rows.specs.Faces.{page_row_pieces}
use Rattle.markdown_page_laws.specs.Marks.{blank, border, mark_text, AreTextAndMarks, bytes_of, runs_of}

-- Pieces are a cell between its blanks: a border, one blank, its text with what stands in its column, and one blank.
pub record IsBetweenBlanks (skin : RowSkin) (cell : FmtComposite) (own : List RowPiece) : Type 0 where
  pub left : RowPiece
  pub before : RowPiece
  pub inside : List RowPiece
  pub after : RowPiece
  pub pieces : own ≡ left ∷ before ∷ (inside ++ after ∷ [])
  pub left_is : left.text ≡ mark_text skin border
  pub before_is : before.text ≡ mark_text skin (blank 1)
  pub after_is : after.text ≡ mark_text skin (blank 1)
  pub text : AreTextAndMarks skin (bytes_of (runs_of cell)) inside

-- pieces are cells side by side, each between its blanks, and a last border
abbrev pub AreBetweenBlanks : RowSkin → List FmtComposite → List RowPiece → Type 0
AreBetweenBlanks skin [] ps = (last : RowPiece) × (ps ≡ last ∷ []) × (last.text ≡ mark_text skin border)
AreBetweenBlanks skin (cell ∷ cells) ps =
    (own : List RowPiece) × (more : List RowPiece) × (ps ≡ own ++ more) × IsBetweenBlanks skin cell own × AreBetweenBlanks skin cells more

-- In a skin that has blanks beside cells, each row of a table is drawn so, whatever stands beside the table. Between two borders a cell's text touches neither.
abbrev pub CellsHaveBlanks : Type 0
CellsHaveBlanks = (skin : RowSkin) (outer : Option ℕ) (filled : Bool) (row : RowContent) (table : FmtTableRow) → skin.cell_blanks ≡ true → row.line ≡ TableRow table
    → (front : List RowPiece) × (cells : List RowPiece) × (back : List RowPiece) × (page_row_pieces skin outer filled row ≡ front ++ (cells ++ back)) × AreBetweenBlanks skin table.cells.items cells
