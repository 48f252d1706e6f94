-- Lines that fill a row exactly when they are drawn.
use Rattle.std.specs.Prelude.{◌≡◌, ℕ, ◌+◌, ◌≤◌, List, Some, IfSome, map}
use Rattle.std.specs.List.{AllByRecursion}
use Rattle.mad_rows.specs.declared.row_skin.RowSkin.{RowSkin}
use Rattle.mad_format.specs.declared.composite.FmtComposite.{FmtComposite}
use Rattle.mad_format.specs.declared.line.FmtLine.{FmtLine}
use Rattle.mad_format.specs.declared.line.FmtLine.TheVariants.{Normal, TableRow, TableRule, HorizontalRule}
use Rattle.mad_format.specs.declared.table.FmtTableRule.{FmtTableRule}
use Rattle.mad_format.specs.Indents.{indent}
use Rattle.mad_format.specs.FmtLines.{rule_columns}
use Rattle.mad_draw.specs.Pieces.{AreShownPieces, IsColumnPiece, char_piece, pieces_columns}
use Rattle.mad_draw.specs.TableRules.{border_piece}
use Rattle.mad_draw.specs.declared.table_rules.RuleChars.{RuleChars}
use Rattle.mad_rows.specs.Rows.{prefix_pieces, compound_piece, inner_columns, row_columns, vertical_piece, rule_chars}
use Rattle.mad_rows.specs.RowStyles.{line_rules, line_style}
use Rattle.mad_format.specs.Wraps.{columns_of}

-- A composite that fills its own place, if it has one: its cached length is right and within the place, its prefix and its compounds are
-- shown.
pub record FillsItsPlace (skin : RowSkin) (l : FmtComposite) : Type 0 where
  pub measured : l.visible_length ≡ columns_of (line_rules skin) l
  pub place : IfSome l.spacing (λ s. l.visible_length ≤ s.width)
  pub prefix : AreShownPieces (prefix_pieces skin l.kind)
  pub indent_is : pieces_columns (prefix_pieces skin l.kind) ≡ indent skin.list_items_indentation_mode l.kind
  pub text : AreShownPieces (map (compound_piece skin (line_style skin l.kind)) l.compounds.items)

-- a line that fills its own place, and fits a row of `width` columns with its margins
pub record IsDrawable (skin : RowSkin) (width : ℕ) (l : FmtComposite) : Type 0 where
  pub margins : ℕ × ℕ
  pub margins_are : l.margins ≡ Some margins
  pub fits : margins.0 + inner_columns l + margins.1 ≤ width
  pub fills : FillsItsPlace skin l

-- a row of a table that fits a row of `width` columns: each cell fills its place, and a vertical border is shown in one column
pub record IsDrawableRow (skin : RowSkin) (width : ℕ) (cells : List FmtComposite) : Type 0 where
  pub fits : row_columns skin cells ≤ width
  pub each : AllByRecursion (FillsItsPlace skin) cells
  pub border : IsColumnPiece (vertical_piece skin)

-- the characters of a rule are shown in one column each
pub record AreShownChars (skin : RowSkin) (chars : RuleChars) : Type 0 where
  pub left : IsColumnPiece (border_piece skin.table.compound_style chars.left)
  pub horizontal : IsColumnPiece (border_piece skin.table.compound_style chars.horizontal)
  pub between : IsColumnPiece (border_piece skin.table.compound_style chars.between)
  pub right : IsColumnPiece (border_piece skin.table.compound_style chars.right)

-- a rule across a table that fits so
pub record IsDrawableRule (skin : RowSkin) (width : ℕ) (rule : FmtTableRule) : Type 0 where
  pub fits : rule_columns rule.widths.items ≤ width
  pub chars : AreShownChars skin (rule_chars skin.table_border_chars rule.position)

-- a line is drawn exactly in a row of `width` columns
abbrev pub IsDrawableLine : RowSkin → ℕ → FmtLine → Type 0
IsDrawableLine skin width (Normal l) = IsDrawable skin width l
IsDrawableLine skin width (TableRow row) = IsDrawableRow skin width row.cells.items
IsDrawableLine skin width (TableRule rule) = IsDrawableRule skin width rule
IsDrawableLine skin width HorizontalRule = IsColumnPiece (char_piece skin.horizontal_rule)

-- all lines are
abbrev pub AreDrawable : RowSkin → ℕ → List FmtLine → Type 0
AreDrawable skin width lines = AllByRecursion (IsDrawableLine skin width) lines
