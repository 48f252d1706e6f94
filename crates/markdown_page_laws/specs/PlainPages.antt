-- Pages in the skin without styles.
use Rattle.std.specs.Prelude.{◌≡◌, ◌≢◌, ℕ, false, List, [], ◌∷◌, ◌++◌, Option}
use Rattle.std.specs.List.{AllByRecursion, flat_map}
use Rattle.mad_md.specs.Flagged.{Run}
use Rattle.mad_draw.specs.Pieces.{RowPiece}
use Rattle.mad_rows.specs.declared.row_skin.RowSkin.{RowSkin}
use Rattle.mad_pages.specs.PageRows.{RowContent}
use Rattle.mad_page_rows.specs.Faces.{page_row_pieces}
use Rattle.mad_page_skin.specs.PageSkins.{page_row_skin}
use Rattle.mad_page_skin.specs.PlainSkins.{plain_skin}
use Rattle.markdown_layout.specs.RowEnds.{ended}
use Rattle.markdown_layout.specs.WrittenPages.{dressed_bytes, row_bytes}
use Rattle.markdown_page_laws.specs.Marks.{runs_in}

-- what rows show of the skin without styles
abbrev pub plain_rows : RowSkin
plain_rows = page_row_skin plain_skin

-- the texts of pieces, one after the other
abbrev pub texts_of : List RowPiece → List ℕ
texts_of ps = flat_map (λ (p : RowPiece). p.text) ps

-- In the skin without styles a row is written as the texts of its pieces, without the blanks at their end, and a newline: no byte goes out for a style.
abbrev pub PlainIsText : Type 0
PlainIsText = (width : Option ℕ) (row : RowContent) → row_bytes plain_rows width row ≡ ended (texts_of (page_row_pieces plain_rows width false row))

-- no byte is ESC, with which each command of a terminal begins
abbrev pub HasNoEscape : List ℕ → Type 0
HasNoEscape bytes = AllByRecursion (λ byte. byte ≢ 27) bytes

-- no run of a row's line has it
abbrev pub SaysNoEscape : RowContent → Type 0
SaysNoEscape row = AllByRecursion (λ (run : Run). HasNoEscape run.text) (runs_in row.line)

-- So what is written of rows in that skin has no ESC, where the text of the rows has none.
abbrev pub PlainHasNoEscape : Type 0
PlainHasNoEscape = (width : Option ℕ) (rows : List RowContent) → AllByRecursion SaysNoEscape rows → HasNoEscape (dressed_bytes plain_skin width rows)

-- a row in bytes ends in a newline, and no blank is in front of that
abbrev pub EndsInNoBlank : List ℕ → Type 0
EndsInNoBlank row = (text : List ℕ) × (row ≡ text ++ 10 ∷ []) × ((front : List ℕ) → text ≢ front ++ 32 ∷ [])

-- So does each row that is written, in every skin. Where the row's end is in a style, the command that ends the style is in front of the newline.
abbrev pub RowsEndInNoBlank : Type 0
RowsEndInNoBlank = (skin : RowSkin) (width : Option ℕ) (row : RowContent) → EndsInNoBlank (row_bytes skin width row)
