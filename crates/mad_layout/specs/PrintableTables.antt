-- Tables that fit their place when they are drawn.
use Rattle.std.specs.Prelude.{◌≡◌, ℕ, ◌-◌, ◌<◌, ◌≤◌, ◌^◌, List, [], ◌∷◌, map}
use Rattle.std.specs.List.{AllByRecursion}
use Rattle.mad_md.specs.Flagged.{run_of}
use Rattle.mad_md.specs.TypedLines.{IsTypedRun}
use Rattle.mad_style.specs.declared.kinds.CompositeKind.{CompositeKind}
use Rattle.mad_style.specs.declared.kinds.CompositeKind.TheVariants.{OrderedListItem}
use Rattle.mad_layout.specs.Drawable.{AreDrawable}
use Rattle.mad_layout.specs.Premises.{AreBordersShown, IsPrintableText}
use Rattle.mad_blocks.specs.Tables.{AreSetWidths, IsTableLaidOutBy, columns_count}
use Rattle.mad_format.specs.WrappedLines.{Wrap}
use Rattle.mad_format.specs.Wraps.{IsMeasured}
use Rattle.mad_rows.specs.declared.row_skin.RowSkin.{RowSkin}
use Rattle.mad_format.specs.declared.composite.FmtComposite.{FmtComposite}
use Rattle.mad_format.specs.declared.line.FmtLine.{FmtLine}
use Rattle.mad_format.specs.declared.line.FmtLine.TheVariants.{TableRow, TableRule}
use Rattle.mad_rows.specs.RowStyles.{line_rules}

-- the number of an item, if the kind has one
abbrev pub IsTypedKind : CompositeKind → Type 0
IsTypedKind (OrderedListItem level index) = index < 2 ^ 32
IsTypedKind _ = Unit {0}

-- what types promise of a cell: its number, if it has one, is below 2^32, and each of its runs UTF-8
abbrev pub IsTypedCell : FmtComposite → Type 0
IsTypedCell cell = IsTypedKind cell.kind × AllByRecursion IsTypedRun (map run_of cell.compounds.items)

-- cells of any kind, measured and printable, each with room in its column of these where it doesn't fit; nothing is asked of cells past the
-- last column
abbrev pub ArePrintableCells : RowSkin → List ℕ → List FmtComposite → Type 0
ArePrintableCells skin [] cells = Unit {0}
ArePrintableCells skin (w ∷ ws) [] = Unit {0}
ArePrintableCells skin (w ∷ ws) (cell ∷ cells) = IsMeasured (line_rules skin) cell × IsTypedCell cell × IsPrintableText skin w cell.kind (map run_of cell.compounds.items) × ArePrintableCells skin ws cells

-- a line of a table, not yet laid out, whose cells are so in columns of these widths
abbrev pub IsPrintableTableLine : RowSkin → List ℕ → FmtLine → Type 0
IsPrintableTableLine skin ws (TableRow row) = ArePrintableCells skin ws row.cells.items
IsPrintableTableLine skin ws (TableRule rule) = rule.widths.items ≡ []
IsPrintableTableLine skin ws _ = ⊥

-- A table that is laid out at a width, also one without columns, is drawn exactly in a row at least as wide: its borders are shown, and in
-- the columns that it has at that width its cells have room.
abbrev pub TablesFit : Wrap → Type 0
TablesFit wraps =
    (skin : RowSkin) (width drawn : ℕ) (table lines : List FmtLine) → 2 ≤ width → width ≤ drawn → drawn < 2 ^ 64 - 1 → AreBordersShown skin
    → AllByRecursion (IsPrintableTableLine skin []) table → ((ws : List ℕ) → AreSetWidths skin.whole_words skin.cell_blanks (columns_count table) width table ws → AllByRecursion (IsPrintableTableLine skin ws) table)
    → IsTableLaidOutBy wraps (line_rules skin) (columns_count table) width table lines → AreDrawable skin drawn lines
