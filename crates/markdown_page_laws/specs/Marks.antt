-- What rows show beside the text of their lines.
use Rattle.std.specs.Prelude.{◌≡◌, ◌⊎◌, ℕ, Bool, true, false, List, [], ◌∷◌, ◌++◌, map, Option, replicate, decimal, encode_utf8}
use Rattle.std.specs.List.{AllByRecursion, flat_map, repeat}
use Rattle.mad_md.specs.Flagged.{Run, run_of}
use Rattle.mad_style.specs.StyledChars.{char_alone}
use Rattle.mad_draw.specs.Pieces.{RowPiece}
use Rattle.mad_format.specs.declared.composite.FmtComposite.{FmtComposite}
use Rattle.mad_format.specs.declared.line.FmtLine.{FmtLine}
use Rattle.mad_format.specs.declared.line.FmtLine.TheVariants.{Normal, TableRow}
use Rattle.mad_format.specs.declared.table.RelativePosition.{RelativePosition}
use Rattle.mad_rows.specs.Rows.{rule_chars}
use Rattle.mad_rows.specs.RowStyles.{index_suffix}
use Rattle.mad_rows.specs.declared.row_skin.RowSkin.{RowSkin}
use Rattle.mad_sections.specs.TableTexts.{runs_text}
use Rattle.mad_sections.specs.declared.gutters.Alert.{Alert}
use Rattle.mad_pages.specs.PageRows.{RowContent}
use Rattle.mad_marked_rows.specs.RowLaws.{AreTexts}
use Rattle.mad_page_rows.specs.Faces.{alert_bar, below_char, box_piece, page_row_pieces}
use Rattle.markdown_page_laws.specs.KeptMarkdown.{texts_in}

-- All that is shown beside a text: blanks, the bar of a quote or an alert, a bullet, a number and what is after it, the box of a task, the signs of a heading, a rule
-- across the page or below a heading, and of a table the borders beside its cells and the parts of its rules.
pub data Mark : Type 0 where
  blank : ℕ → Mark
  quote_bar : Mark
  bar_of : Alert → Mark
  bullet : Mark
  number : ℕ → Mark
  after_number : ℕ → Mark
  box : Bool → Mark
  signs : ℕ → Mark
  rule : ℕ → Mark
  rule_below : ℕ → ℕ → Mark
  border : Mark
  rule_start : RelativePosition → Mark
  rule_over : RelativePosition → ℕ → Mark
  rule_between : RelativePosition → Mark
  rule_end : RelativePosition → Mark

-- the bytes of a mark in a skin
abbrev pub mark_text : RowSkin → Mark → List ℕ
mark_text skin (blank count) = replicate count 32
mark_text skin quote_bar = encode_utf8 (char_alone skin.quote_mark)
mark_text skin (bar_of alert) = encode_utf8 (char_alone (alert_bar skin.page alert))
mark_text skin bullet = encode_utf8 (char_alone skin.bullet)
mark_text skin (number n) = decimal n
mark_text skin (after_number level) = encode_utf8 (index_suffix skin level)
mark_text skin (box done) = (box_piece skin done).text
mark_text skin (signs count) = repeat count (encode_utf8 35)
mark_text skin (rule count) = repeat count (encode_utf8 (char_alone skin.horizontal_rule))
mark_text skin (rule_below level count) = repeat count (encode_utf8 (char_alone (below_char skin.page level)))
mark_text skin border = encode_utf8 skin.table_border_chars.vertical
mark_text skin (rule_start position) = encode_utf8 (rule_chars skin.table_border_chars position).left
mark_text skin (rule_over position count) = repeat count (encode_utf8 (rule_chars skin.table_border_chars position).horizontal)
mark_text skin (rule_between position) = encode_utf8 (rule_chars skin.table_border_chars position).between
mark_text skin (rule_end position) = encode_utf8 (rule_chars skin.table_border_chars position).right

-- a piece is a mark
abbrev pub IsMark : RowSkin → RowPiece → Type 0
IsMark skin p = (mark : Mark) × (p.text ≡ mark_text skin mark)

-- Pieces are a text and marks: each piece that is no mark is the next stretch of the text, in order and to its end.
abbrev pub AreTextAndMarks : RowSkin → List ℕ → List RowPiece → Type 0
AreTextAndMarks skin text [] = text ≡ []
AreTextAndMarks skin text (p ∷ ps) = (IsMark skin p × AreTextAndMarks skin text ps) ⊎ ((rest : List ℕ) × (text ≡ p.text ++ rest) × AreTextAndMarks skin rest ps)

-- the runs of a composite
abbrev pub runs_of : FmtComposite → List Run
runs_of l = map run_of l.compounds.items

-- the runs of a line, cell by cell from the left; a rule has none
abbrev pub runs_in : FmtLine → List Run
runs_in (Normal l) = runs_of l
runs_in (TableRow row) = flat_map runs_of row.cells.items
runs_in _ = []

-- the bytes of runs, one after the other
abbrev pub bytes_of : List Run → List ℕ
bytes_of runs = flat_map (λ (run : Run). run.text) runs

-- the text of a line in bytes
abbrev pub text_in : FmtLine → List ℕ
text_in line = bytes_of (runs_in line)

-- a mark that may stand in front of a text: no border, nor any rule
abbrev pub is_in_front : Mark → Bool
is_in_front (rule count) = false
is_in_front (rule_below level count) = false
is_in_front border = false
is_in_front (rule_start position) = false
is_in_front (rule_over position count) = false
is_in_front (rule_between position) = false
is_in_front (rule_end position) = false
is_in_front mark = true

-- a piece is such a mark
abbrev pub IsInFront : RowSkin → RowPiece → Type 0
IsInFront skin p = (mark : Mark) × (is_in_front mark ≡ true) × (p.text ≡ mark_text skin mark)

-- a piece is blanks
abbrev pub IsBlank : RowPiece → Type 0
IsBlank p = (count : ℕ) × (p.text ≡ replicate count 32)

-- Pieces are such marks, a text, cut or whole, and blanks. No mark is within the text.
pub record IsTextBetween (skin : RowSkin) (text : List ℕ) (pieces : List RowPiece) : Type 0 where
  pub front : List RowPiece
  pub said : List RowPiece
  pub back : List RowPiece
  pub whole : pieces ≡ front ++ (said ++ back)
  pub marks : AllByRecursion (IsInFront skin) front
  pub says : flat_map (λ (p : RowPiece). p.text) said ≡ text
  pub blanks : AllByRecursion IsBlank back

-- Pieces are cells with these texts, each behind a border, and a last border with blanks behind it.
abbrev pub AreCells : RowSkin → List (List ℕ) → List RowPiece → Type 0
AreCells skin [] pieces =
    (last : RowPiece) × (back : List RowPiece) × (pieces ≡ last ∷ back) × (last.text ≡ mark_text skin border) × AllByRecursion IsBlank back
AreCells skin (text ∷ texts) pieces =
    (left : RowPiece) × (own : List RowPiece) × (more : List RowPiece) × (pieces ≡ left ∷ (own ++ more)) × (left.text ≡ mark_text skin border) × IsTextBetween skin text own × AreCells skin texts more

-- Pieces are cells, and in front of them marks that are no borders.
pub record AreCellsBehind (skin : RowSkin) (texts : List (List ℕ)) (pieces : List RowPiece) : Type 0 where
  pub front : List RowPiece
  pub cells : List RowPiece
  pub whole : pieces ≡ front ++ cells
  pub marks : AllByRecursion (IsInFront skin) front
  pub are : AreCells skin texts cells

-- Pieces are those of a line: a text between marks, cells, or the marks of a rule.
abbrev pub ArePiecesOf : RowSkin → FmtLine → List RowPiece → Type 0
ArePiecesOf skin (Normal l) pieces = IsTextBetween skin (bytes_of (runs_of l)) pieces
ArePiecesOf skin (TableRow row) pieces = AreCellsBehind skin (map (λ (cell : FmtComposite). bytes_of (runs_of cell)) row.cells.items) pieces
ArePiecesOf skin _ pieces = AllByRecursion (IsMark skin) pieces

-- A row is the text of its line, or of its cells, between marks.
pub record IsTextAndMarks (skin : RowSkin) (outer : Option ℕ) (filled : Bool) (row : RowContent) : Type 0 where
  pub pieces : ArePiecesOf skin row.line (page_row_pieces skin outer filled row)
  pub text : runs_text (runs_in row.line) ≡ flat_map (λ text. text) (texts_in row.line)

-- So is each row of a page, whatever its skin, its width and the tones of its code, and whether it is filled up on its right.
abbrev pub OthersAreMarks : Type 0
OthersAreMarks = (skin : RowSkin) (outer : Option ℕ) (filled : Bool) (row : RowContent) → AreTexts row.line → IsTextAndMarks skin outer filled row
