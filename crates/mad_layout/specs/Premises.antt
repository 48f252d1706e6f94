-- What a text has to keep for its rows to be shown exactly.
use Rattle.std.specs.Prelude.{◌≡◌, ℕ, ◌+◌, ◌<◌, ◌≤◌, Bool, true, false, not, List, [], ◌∷◌}
use Rattle.std.specs.List.{AllByRecursion}
use Rattle.std.specs.Char.{is_whitespace}
use Rattle.std.specs.Str.{chars}
use Rattle.mad_md.specs.Flagged.{FlaggedChar, Run, flagged, is_blank}
use Rattle.mad_md.specs.Lines.{StyledRuns, LineContent, normal, table_row, table_rule, horizontal_rule}
use Rattle.mad_style.specs.declared.kinds.CompositeKind.{CompositeKind}
use Rattle.mad_style.specs.declared.kinds.CompositeKind.TheVariants.{ListItem, OrderedListItem, Quote}
use Rattle.mad_characters.specs.Columns.{char_columns}
use Rattle.mad_screen.specs.Painting.{IsPrinted}
use Rattle.mad_style.specs.Kinds.{kind_of}
use Rattle.mad_style.specs.StyledChars.{char_alone}
use Rattle.mad_measure.specs.TextColumns.{width_of}
use Rattle.mad_format.specs.Indents.{indent, room_of}
pub use Rattle.mad_layout.specs.LineTexts.{runs_text, inner_width}
pub use Rattle.mad_draw.specs.Pieces.{IsColumnChar}
use Rattle.mad_draw.specs.declared.table_rules.RuleChars.{RuleChars}
use Rattle.mad_rows.specs.Rows.{rule_chars}
use Rattle.mad_rows.specs.RowStyles.{line_rules, index_suffix}
use Rattle.mad_layout.specs.TableColumns.{kept_widths}
use Rattle.mad_blocks.specs.TextParts.{LineInPart}
use Rattle.mad_format.specs.declared.table.RelativePosition.{RelativePosition}
use Rattle.mad_wrap.specs.WrapLines.{HasRoom}
use Rattle.mad_rows.specs.declared.row_skin.RowSkin.{RowSkin}

-- Each widthless character is no whitespace and comes right after one that isn't blank; `after` says whether what comes before
-- all of them is such a one.
abbrev pub AreJoined : Bool → List FlaggedChar → Type 0
AreJoined after [] = Unit {0}
AreJoined after (x ∷ xs) = (char_columns x.char ≡ 0 → (is_whitespace x.char ≡ false) × (after ≡ true)) × AreJoined (not (is_blank x)) xs

-- A run without control characters, each widthless character after a non-blank one of the same run.
pub record IsPrintableRun (r : Run) : Type 0 where
  pub printed : IsPrinted (chars r.text)
  pub joined : AreJoined false (flagged r.flags (chars r.text))

-- The character in front of a line of this kind, if there is one, takes one column: an item's bullet, the character after its number, a quote's.
abbrev pub IsPrintablePrefix : RowSkin → CompositeKind → Type 0
IsPrintablePrefix skin (ListItem depth) = IsColumnChar (char_alone skin.bullet)
IsPrintablePrefix skin (OrderedListItem level index) = IsColumnChar (index_suffix skin level)
IsPrintablePrefix skin Quote = IsColumnChar (char_alone skin.quote_mark)
IsPrintablePrefix skin _ = Unit {0}

-- A line or a cell of this kind, its text printable, with a printable prefix, and that has room in `width` columns where it doesn't fit.
pub record IsPrintableText (skin : RowSkin) (width : ℕ) (kind : CompositeKind) (runs : List Run) : Type 0 where
  pub prefix : IsPrintablePrefix skin kind
  pub printable : AllByRecursion IsPrintableRun runs
  pub room : width < indent skin.list_items_indentation_mode kind + width_of (runs_text runs) → HasRoom (room_of (line_rules skin) kind width) (runs_text runs)

-- each character of a rule takes one column
pub record AreRuleChars (chars : RuleChars) : Type 0 where
  pub left : IsColumnChar chars.left
  pub horizontal : IsColumnChar chars.horizontal
  pub between : IsColumnChar chars.between
  pub right : IsColumnChar chars.right

-- the characters of a table's borders take one column each, wherever a rule is in its table
pub record AreBordersShown (skin : RowSkin) : Type 0 where
  pub vertical : IsColumnChar skin.table_border_chars.vertical
  pub rules : (position : RelativePosition) → AreRuleChars (rule_chars skin.table_border_chars position)

-- so are cells, each in its column of these widths; nothing is asked of cells past the last column
abbrev pub ArePrintableIn : RowSkin → List ℕ → List StyledRuns → Type 0
ArePrintableIn skin [] cells = Unit {0}
ArePrintableIn skin (w ∷ ws) [] = Unit {0}
ArePrintableIn skin (w ∷ ws) (cell ∷ cells) = IsPrintableText skin w (kind_of cell.style) cell.runs × ArePrintableIn skin ws cells

-- A line of any kind, in its part of a text. Of a line of a table: there is room for the ends of a rule, and each kept cell is printable in
-- the column that it gets.
abbrev pub IsPrintableContent : RowSkin → ℕ → List LineContent → LineContent → Type 0
IsPrintableContent skin width part (normal line) = IsPrintableText skin (inner_width skin width line) (kind_of line.style) line.runs
IsPrintableContent skin width part (table_row cells) = (2 ≤ width) × AreBordersShown skin × ArePrintableIn skin (kept_widths skin width part) cells
IsPrintableContent skin width part (table_rule aligns) = (2 ≤ width) × AreBordersShown skin
IsPrintableContent skin width part horizontal_rule = IsColumnChar (char_alone skin.horizontal_rule)

-- so is each of these lines of a text, at a layout's width
abbrev pub KeepsPremises : RowSkin → ℕ → List LineInPart → Type 0
KeepsPremises skin width lines = AllByRecursion (λ l. IsPrintableContent skin width l.part l.line) lines
