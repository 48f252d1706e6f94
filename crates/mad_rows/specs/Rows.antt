-- Rows: what is written of a line, piece by piece.
use Rattle.std.specs.Prelude.{ℕ, ◌+◌, ◌-◌, Bool, true, false, List, [], ◌∷◌, ◌++◌, map, Option, Some, None, unwrap_or, if◌then◌else◌, decimal}
use Rattle.std.specs.List.{flat_map, sum_by}
use Rattle.mad_md.specs.declared.alignment.Alignment.{Alignment}
use Rattle.mad_md.specs.declared.alignment.Alignment.TheVariants.{Unspecified}
use Rattle.mad_md.specs.Flagged.{Run, run_of}
use Rattle.mad_md.specs.declared.composite.Composite.{Composite}
use Rattle.mad_md.specs.declared.compound.Compound.{Compound}
use Rattle.mad_style.specs.declared.kinds.CompositeKind.{CompositeKind}
use Rattle.mad_style.specs.declared.kinds.CompositeKind.TheVariants.{ListItem, ListItemFollowUp, OrderedListItem, OrderedListItemFollowUp, Quote}
use Rattle.mad_style.specs.declared.compound_styles.CompoundStyle.{CompoundStyle}
use Rattle.mad_style.specs.declared.line_styles.LineStyle.{LineStyle}
use Rattle.mad_style.specs.declared.borders.TableBorderChars.{TableBorderChars}
use Rattle.mad_style.specs.Kinds.{kind_of}
use Rattle.mad_style.specs.LineStyles.{margins_at}
use Rattle.mad_measure.specs.declared.spacing.Spacing.{Spacing}
use Rattle.mad_measure.specs.Completions.{left_completion}
use Rattle.mad_rows.specs.declared.row_skin.RowSkin.{RowSkin}
use Rattle.mad_format.specs.declared.composite.FmtComposite.{FmtComposite}
use Rattle.mad_format.specs.declared.line.FmtLine.{FmtLine}
use Rattle.mad_format.specs.declared.line.FmtLine.TheVariants.{Normal, TableRow, TableRule, HorizontalRule}
use Rattle.mad_format.specs.declared.table.FmtTableRule.{FmtTableRule}
use Rattle.mad_format.specs.declared.table.RelativePosition.{RelativePosition}
use Rattle.mad_format.specs.declared.table.RelativePosition.TheVariants.{Top, Other, Bottom}
use Rattle.mad_style.specs.OrderedItems.{ordered_indent}
use Rattle.mad_format.specs.Indents.{later_indent}
use Rattle.mad_format.specs.FmtLines.{bordered, rule_columns}
use Rattle.mad_format.specs.LineRules.{around_cell, beside_cell}
use Rattle.mad_draw.specs.Pieces.{RowPiece, pieces_bytes, char_piece, char_repeat, spaces, single_spaces}
use Rattle.mad_draw.specs.TableRules.{border_piece, rule_pieces}
use Rattle.mad_draw.specs.declared.table_rules.RuleChars.{RuleChars}
use Rattle.mad_rows.specs.RowStyles.{line_style, compound_style, ordered_item_style}

-- ---- in front of a line's text

-- a number
abbrev pub number_piece : CompoundStyle → ℕ → RowPiece
number_piece style n = record { style = style.object_style; text = decimal n }

-- one space in the paragraph's style
abbrev pub prefix_space : RowSkin → RowPiece
prefix_space skin = record { style = skin.paragraph.compound_style.object_style; text = 32 ∷ [] }

-- the prefix of a line: an item's bullet or number after the spaces of its depth; on the item's further lines, the spaces of their
-- indent; a quote's bar
abbrev pub prefix_pieces : RowSkin → CompositeKind → List RowPiece
prefix_pieces skin (ListItem depth) = single_spaces skin.paragraph.compound_style depth ++ (char_piece skin.bullet ∷ prefix_space skin ∷ [])
prefix_pieces skin (ListItemFollowUp depth) = single_spaces skin.paragraph.compound_style (later_indent skin.list_items_indentation_mode (2 + depth))
prefix_pieces skin (OrderedListItem level index) =
    single_spaces skin.paragraph.compound_style level
    ++ (number_piece (ordered_item_style skin level).index_style index
    ∷ char_piece (ordered_item_style skin level).index_suffix ∷ prefix_space skin ∷ [])
prefix_pieces skin (OrderedListItemFollowUp level index) =
    single_spaces skin.paragraph.compound_style (later_indent skin.list_items_indentation_mode (ordered_indent level index))
prefix_pieces skin Quote = char_piece skin.quote_mark ∷ prefix_space skin ∷ []
prefix_pieces skin _ = []

-- what a compound says, in a line of this style
abbrev pub run_piece : RowSkin → LineStyle → Run → RowPiece
run_piece skin style p = record { style = (compound_style skin style p).object_style; text = p.text }

-- a compound in a line of this style
abbrev pub compound_piece : RowSkin → LineStyle → Compound → RowPiece
compound_piece skin style p = run_piece skin style (run_of p)

-- ---- beside it

-- the columns left of `inner` columns in a place; none where there is no place
abbrev pub left_of_place : Alignment → ℕ → Option ℕ → ℕ
left_of_place align inner None = 0
left_of_place align inner (Some outer) = left_completion align (outer - inner)

-- the columns right of `inner` columns in a place; none where there is no place
abbrev pub right_of_place : Alignment → ℕ → Option ℕ → ℕ
right_of_place align inner None = 0
right_of_place align inner (Some outer) = (outer - inner) - left_completion align (outer - inner)

-- the columns of a line's own place, if it has one
abbrev pub place_of : Option Spacing → Option ℕ
place_of None = None
place_of (Some s) = Some s.width

-- how a line is aligned in its own place
abbrev pub align_in : Option Spacing → Alignment
align_in None = Unspecified
align_in (Some s) = s.align

-- the blank columns left and right of a line in its own place, by its cached length
abbrev pub inner_blanks : FmtComposite → ℕ × ℕ
inner_blanks l = (
  left_of_place (align_in l.spacing) l.visible_length (place_of l.spacing),
  right_of_place (align_in l.spacing) l.visible_length (place_of l.spacing),
)

-- the columns of a line with its own place
abbrev pub inner_columns : FmtComposite → ℕ
inner_columns l = unwrap_or (place_of l.spacing) l.visible_length

-- the blank columns left and right of a line's own place at an outer width, with these margins
abbrev pub outer_blanks : Alignment → Option ℕ → ℕ × ℕ → FmtComposite → ℕ × ℕ
outer_blanks align outer margins l = (
  left_of_place align (inner_columns l + margins.0 + margins.1) outer + margins.0,
  right_of_place align (inner_columns l + margins.0 + margins.1) outer + margins.1,
)

-- the blank columns left and right of a line's own place; those on its right only where the row is filled up
abbrev pub blanks_beside : Alignment → Option ℕ → ℕ × ℕ → Bool → FmtComposite → ℕ × ℕ
blanks_beside align outer margins filled l =
    let blanks = outer_blanks align outer margins l in
    (blanks.0, if filled then blanks.1 else 0)

-- the margins of a line: those of its layout, else those of its style at the outer width
abbrev pub margins_of : RowSkin → Option ℕ → FmtComposite → ℕ × ℕ
margins_of skin outer l = unwrap_or l.margins (margins_at (line_style skin l.kind) outer)

-- ---- a line

-- The pieces of a composite at an outer width with these margins. From left to right: blanks in the paragraph's style, blanks of its own
-- place in its style, its prefix, its compounds, blanks of its place. Last come blanks in the paragraph's style, where the row is filled up.
abbrev pub composite_pieces : RowSkin → Option ℕ → ℕ × ℕ → Bool → FmtComposite → List RowPiece
composite_pieces skin outer margins filled l =
    let style = line_style skin l.kind in
    let blanks = outer_blanks style.align outer margins l in
    spaces skin.paragraph.compound_style blanks.0
    ++ (spaces style.compound_style (inner_blanks l).0
    ++ (prefix_pieces skin l.kind
    ++ (map (compound_piece skin style) l.compounds.items
    ++ (spaces style.compound_style (inner_blanks l).1
    ++ (if filled then spaces skin.paragraph.compound_style blanks.1 else [])))))

-- the pieces of a composite by itself: its style's left margin, its prefix, and what its compounds say
abbrev pub free_pieces : RowSkin → CompositeKind → List Run → List RowPiece
free_pieces skin kind runs =
    spaces skin.paragraph.compound_style (line_style skin kind).left_margin ++ (prefix_pieces skin kind ++ map (run_piece skin (line_style skin kind)) runs)

-- ---- a line of a table

-- pieces that take `columns`, between the blanks that the table's alignment gives them in a wider place; those right of them only where
-- the row is filled up
abbrev pub placed_pieces : RowSkin → Option ℕ → Bool → ℕ → List RowPiece → List RowPiece
placed_pieces skin outer filled columns ps =
    spaces skin.paragraph.compound_style (left_of_place skin.table.align columns outer)
    ++ (ps ++ (if filled then spaces skin.paragraph.compound_style (right_of_place skin.table.align columns outer) else []))

-- a vertical border, in the table's style
abbrev pub vertical_piece : RowSkin → RowPiece
vertical_piece skin = border_piece skin.table.compound_style skin.table_border_chars.vertical

-- the blank columns left and right of a cell
abbrev pub cell_margins : RowSkin → ℕ × ℕ
cell_margins skin = (beside_cell skin.cell_blanks, beside_cell skin.cell_blanks)

-- a border, and after it a cell in its own place, between its blanks
abbrev pub cell_pieces : RowSkin → FmtComposite → List RowPiece
cell_pieces skin cell = vertical_piece skin ∷ composite_pieces skin None (cell_margins skin) true cell

-- the columns of a cell in its row: those of its own place, and its blanks
abbrev pub cell_columns : RowSkin → FmtComposite → ℕ
cell_columns skin cell = inner_columns cell + around_cell skin.cell_blanks

-- the columns of a row of cells: each has a border before it, and one more is the last
abbrev pub row_columns : RowSkin → List FmtComposite → ℕ
row_columns skin cells = 1 + bordered (map (cell_columns skin) cells)

-- a row of a table: its cells, and a last border
abbrev pub table_row_pieces : RowSkin → Option ℕ → Bool → List FmtComposite → List RowPiece
table_row_pieces skin outer filled cells = placed_pieces skin outer filled (row_columns skin cells) (flat_map (cell_pieces skin) cells ++ vertical_piece skin ∷ [])

-- the characters of a rule, by its position in its table: corners or junctions at its ends, a junction or a cross between two columns
abbrev pub rule_chars : TableBorderChars → RelativePosition → RuleChars
rule_chars b Top = record { left = b.top_left_corner; horizontal = b.horizontal; between = b.top_junction; right = b.top_right_corner }
rule_chars b Other = record { left = b.left_junction; horizontal = b.horizontal; between = b.cross; right = b.right_junction }
rule_chars b Bottom = record { left = b.bottom_left_corner; horizontal = b.horizontal; between = b.bottom_junction; right = b.bottom_right_corner }

-- a rule across a table
abbrev pub table_rule_pieces : RowSkin → Option ℕ → Bool → FmtTableRule → List RowPiece
table_rule_pieces skin outer filled rule =
    placed_pieces skin outer filled (rule_columns rule.widths.items) (rule_pieces skin.table.compound_style (rule_chars skin.table_border_chars rule.position) rule.widths.items)

-- ---- any line

-- The pieces of a line at an outer width, with its margins. A rule across the page fills the outer width.
abbrev pub line_pieces : RowSkin → Option ℕ → Bool → FmtLine → List RowPiece
line_pieces skin outer filled (Normal l) = composite_pieces skin outer (margins_of skin outer l) filled l
line_pieces skin outer filled (TableRow row) = table_row_pieces skin outer filled row.cells.items
line_pieces skin outer filled (TableRule rule) = table_rule_pieces skin outer filled rule
line_pieces skin outer filled HorizontalRule = char_repeat skin.horizontal_rule (unwrap_or outer 0)

-- what a place of `width` columns shows: a line, filled up on its right; or, past the last line, spaces in the
-- paragraph's style
abbrev pub row_pieces : RowSkin → ℕ → Option FmtLine → List RowPiece
row_pieces skin width (Some line) = line_pieces skin (Some width) true line
row_pieces skin width None = spaces skin.paragraph.compound_style width

-- ---- the columns that no text fills

-- those of a composite in its own place
abbrev pub own_blanks : FmtComposite → ℕ
own_blanks l = (inner_blanks l).0 + (inner_blanks l).1

-- those of a cell, in its own place and beside it
abbrev pub cell_blanks : RowSkin → FmtComposite → ℕ
cell_blanks skin l = own_blanks l + around_cell skin.cell_blanks

-- those of a composite, in its own place and beside it; those right of the place only where the row is filled up
abbrev pub composite_blanks : RowSkin → Option ℕ → ℕ × ℕ → Bool → FmtComposite → ℕ
composite_blanks skin outer margins filled l =
    let blanks = blanks_beside (line_style skin l.kind).align outer margins filled l in
    own_blanks l + (blanks.0 + blanks.1)

-- those left and right of a line of a table that takes `columns`; those right of it only where the row is filled up
abbrev pub table_blanks : RowSkin → Option ℕ → Bool → ℕ → ℕ × ℕ
table_blanks skin outer filled columns = (
  left_of_place skin.table.align columns outer,
  if filled then right_of_place skin.table.align columns outer else 0,
)

-- those of a line: its blanks, and the columns of a rule
abbrev pub line_blanks : RowSkin → Option ℕ → Bool → FmtLine → ℕ
line_blanks skin outer filled (Normal l) = composite_blanks skin outer (margins_of skin outer l) filled l
line_blanks skin outer filled (TableRow row) =
    let beside = table_blanks skin outer filled (row_columns skin row.cells.items) in
    sum_by (cell_blanks skin) row.cells.items + (beside.0 + beside.1)
line_blanks skin outer filled (TableRule rule) =
    let beside = table_blanks skin outer filled (rule_columns rule.widths.items) in
    rule_columns rule.widths.items + (beside.0 + beside.1)
line_blanks skin outer filled HorizontalRule = unwrap_or outer 0

-- those of a row of `width` columns; past the last line, all of them
abbrev pub row_blanks : RowSkin → ℕ → Option FmtLine → ℕ
row_blanks skin width (Some line) = line_blanks skin (Some width) true line
row_blanks skin width None = width

-- ---- as bytes

-- a line at an outer width, and a newline; what is right of it isn't filled up
abbrev pub line_bytes : RowSkin → Option ℕ → FmtLine → List ℕ
line_bytes skin width line = pieces_bytes (line_pieces skin width false line) ++ 10 ∷ []

-- the lines of a text, one after another
abbrev pub text_bytes : RowSkin → Option ℕ → List FmtLine → List ℕ
text_bytes skin width lines = flat_map (line_bytes skin width) lines

-- a composite by itself
abbrev pub composite_bytes : RowSkin → Composite → List ℕ
composite_bytes skin composite = pieces_bytes (free_pieces skin (kind_of composite.style) (map run_of composite.compounds.items))
