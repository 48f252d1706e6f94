-- The premises of a text, with what types promise of it.
use Rattle.std.proofs.Common.{◌≡◌, ℕ, ◌+◌, ◌^◌, ◌<◌, ◌≤◌, false, List, [], ◌∷◌, map}
use Rattle.std.specs.List.{AllByRecursion}
use Rattle.std.specs.Str.{chars, IsUtf8}
use Rattle.mad_md.specs.Flagged.{Run, run_of, flagged}
use Rattle.mad_md.specs.Lines.{StyledRuns, LineContent, normal, table_row, table_rule, horizontal_rule}
use Rattle.mad_md.specs.TypedLines.{IsTypedStyle, IsTypedRun, IsTypedText, IsTypedLine}
use Rattle.mad_md.specs.declared.composite.CompositeStyle.{CompositeStyle}
use Rattle.mad_md.specs.declared.composite.CompositeStyle.TheVariants as style
use Rattle.mad_screen.specs.Painting.{IsPrinted}
use Rattle.mad_style.specs.Kinds.{kind_of}
use Rattle.mad_style.specs.StyledChars.{char_alone}
use Rattle.mad_style.specs.declared.kinds.CompositeKind.{CompositeKind}
use Rattle.mad_style.specs.declared.kinds.CompositeKind.TheVariants.{ListItem, OrderedListItem, Quote}
use Rattle.mad_measure.specs.TextColumns.{width_of}
use Rattle.mad_format.specs.Indents.{indent, room_of}
use Rattle.mad_format.specs.Wraps.{IsMeasured}
use Rattle.mad_format.specs.declared.composite.FmtComposite.{FmtComposite}
use Rattle.mad_format.specs.declared.line.FmtLine.{FmtLine}
use Rattle.mad_format.specs.declared.line.FmtLine.TheVariants.{TableRow, TableRule}
use Rattle.mad_wrap.specs.WrapLines.{HasRoom}
use Rattle.mad_rows.specs.RowStyles.{line_rules, index_suffix}
use Rattle.mad_rows.specs.declared.row_skin.RowSkin.{RowSkin}
use Rattle.mad_blocks.specs.TextParts.{LineInPart}
use Rattle.mad_layout.specs.Premises.{AreJoined, IsColumnChar, IsPrintableRun, IsPrintablePrefix, IsPrintableText, AreBordersShown, ArePrintableIn, IsPrintableContent, KeepsPremises, inner_width, runs_text}
use Rattle.mad_layout.specs.PrintableTables.{IsTypedKind, ArePrintableCells, IsPrintableTableLine}
use Rattle.mad_layout.specs.TableColumns.{kept_widths}

-- ---- a printable text that is as its types promise

-- A printable run, whose text is UTF-8.
pub record IsSoundRun (r : Run) : Type 0 where
  pub utf8 : IsUtf8 r.text
  pub printed : IsPrinted (chars r.text)
  pub joined : AreJoined false (flagged r.flags (chars r.text))

-- The prefix of a line of this kind is printable, and an item's number is below 2^32.
abbrev pub IsSoundPrefix : RowSkin → CompositeKind → Type 0
IsSoundPrefix skin (ListItem depth) = IsColumnChar (char_alone skin.bullet)
IsSoundPrefix skin (OrderedListItem level index) = (index < 2 ^ 32) × IsColumnChar (index_suffix skin level)
IsSoundPrefix skin Quote = IsColumnChar (char_alone skin.quote_mark)
IsSoundPrefix skin _ = Unit {0}

-- A line or a cell of this kind, whose prefix and runs are so, and that has room in `width` columns where it doesn't fit.
pub record IsSoundText (skin : RowSkin) (width : ℕ) (kind : CompositeKind) (runs : List Run) : Type 0 where
  pub prefix : IsSoundPrefix skin kind
  pub printable : AllByRecursion IsSoundRun runs
  pub room : width < indent skin.list_items_indentation_mode kind + width_of (runs_text runs) → HasRoom (room_of (line_rules skin) kind width) (runs_text runs)

-- so are cells, each in its column of these widths
abbrev pub AreSoundIn : RowSkin → List ℕ → List StyledRuns → Type 0
AreSoundIn skin [] cells = Unit {0}
AreSoundIn skin (w ∷ ws) [] = Unit {0}
AreSoundIn skin (w ∷ ws) (cell ∷ cells) = IsSoundText skin w (kind_of cell.style) cell.runs × AreSoundIn skin ws cells

-- a line of any kind that is so, in its part of a text
abbrev pub IsSoundContent : RowSkin → ℕ → List LineContent → LineContent → Type 0
IsSoundContent skin width part (normal line) = IsSoundText skin (inner_width skin width line) (kind_of line.style) line.runs
IsSoundContent skin width part (table_row cells) = (2 ≤ width) × AreBordersShown skin × AreSoundIn skin (kept_widths skin width part) cells
IsSoundContent skin width part (table_rule aligns) = (2 ≤ width) × AreBordersShown skin
IsSoundContent skin width part horizontal_rule = IsColumnChar (char_alone skin.horizontal_rule)

-- so is each of these lines of a text
abbrev pub AreSoundLines : RowSkin → ℕ → List LineInPart → Type 0
AreSoundLines skin width lines = AllByRecursion (λ l. IsSoundContent skin width l.part l.line) lines

-- so are cells that were read, and measured, each in its column of these widths
abbrev pub AreSoundCells : RowSkin → List ℕ → List FmtComposite → Type 0
AreSoundCells skin [] cells = Unit {0}
AreSoundCells skin (w ∷ ws) [] = Unit {0}
AreSoundCells skin (w ∷ ws) (cell ∷ cells) = IsMeasured (line_rules skin) cell × IsSoundText skin w cell.kind (map run_of cell.compounds.items) × AreSoundCells skin ws cells

-- a line of a table, not yet laid out, whose cells are so
abbrev pub IsSoundTableLine : RowSkin → List ℕ → FmtLine → Type 0
IsSoundTableLine skin ws (TableRow row) = AreSoundCells skin ws row.cells.items
IsSoundTableLine skin ws (TableRule rule) = rule.widths.items ≡ []
IsSoundTableLine skin ws _ = ⊥

-- ---- of premises and types

kind_typed : (s : CompositeStyle) → IsTypedStyle s → IsTypedKind (kind_of s)
kind_typed (style.OrderedListItem level index) h = h
kind_typed _ h = tt

sound_runs : (runs : List Run) → AllByRecursion IsTypedRun runs → AllByRecursion IsPrintableRun runs → AllByRecursion IsSoundRun runs
sound_runs [] typed keeps = tt
sound_runs (r ∷ rs) typed keeps = (record { utf8 = typed.0; printed = keeps.0.printed; joined = keeps.0.joined }, sound_runs rs typed.1 keeps.1)

sound_prefix : (skin : RowSkin) (kind : CompositeKind) → IsTypedKind kind → IsPrintablePrefix skin kind → IsSoundPrefix skin kind
sound_prefix skin (ListItem depth) typed keeps = keeps
sound_prefix skin (OrderedListItem level index) typed keeps = (typed, keeps)
sound_prefix skin Quote typed keeps = keeps
sound_prefix skin _ typed keeps = tt

sound_text : (skin : RowSkin) (width : ℕ) (kind : CompositeKind) (runs : List Run) → IsTypedKind kind → AllByRecursion IsTypedRun runs → IsPrintableText skin width kind runs → IsSoundText skin width kind runs
sound_text skin width kind runs number typed keeps = record { prefix = sound_prefix skin kind number keeps.prefix; printable = sound_runs runs typed keeps.printable; room = keeps.room }

sound_said : (skin : RowSkin) (width : ℕ) (said : StyledRuns) → IsTypedText said → IsPrintableText skin width (kind_of said.style) said.runs → IsSoundText skin width (kind_of said.style) said.runs
sound_said skin width said typed keeps = sound_text skin width (kind_of said.style) said.runs (kind_typed said.style typed.style) typed.runs keeps

sound_in : (skin : RowSkin) (ws : List ℕ) (cells : List StyledRuns) → AllByRecursion IsTypedText cells → ArePrintableIn skin ws cells → AreSoundIn skin ws cells
sound_in skin [] cells typed keeps = tt
sound_in skin (w ∷ ws) [] typed keeps = tt
sound_in skin (w ∷ ws) (cell ∷ cells) typed keeps = (sound_said skin w cell typed.0 keeps.0, sound_in skin ws cells typed.1 keeps.1)

sound_content : (skin : RowSkin) (width : ℕ) (part : List LineContent) (line : LineContent) → IsTypedLine line → IsPrintableContent skin width part line → IsSoundContent skin width part line
sound_content skin width part (normal said) typed keeps = sound_said skin (inner_width skin width said) said typed keeps
sound_content skin width part (table_row cells) typed keeps = (keeps.0, keeps.1, sound_in skin (kept_widths skin width part) cells typed keeps.2)
sound_content skin width part (table_rule aligns) typed keeps = keeps
sound_content skin width part horizontal_rule typed keeps = keeps

-- these lines of a text are as their types promise
abbrev pub AreTyped : List LineInPart → Type 0
AreTyped lines = AllByRecursion (λ l. IsTypedLine l.line) lines

-- lines that are as types promise, and keep the premises, are so
pub sound_lines : (skin : RowSkin) (width : ℕ) (lines : List LineInPart) → AreTyped lines → KeepsPremises skin width lines → AreSoundLines skin width lines
sound_lines skin width [] typed keeps = tt
sound_lines skin width (l ∷ ls) typed keeps = (sound_content skin width l.part l.line typed.0 keeps.0, sound_lines skin width ls typed.1 keeps.1)

sound_cells : (skin : RowSkin) (ws : List ℕ) (cells : List FmtComposite) → ArePrintableCells skin ws cells → AreSoundCells skin ws cells
sound_cells skin [] cells keeps = tt
sound_cells skin (w ∷ ws) [] keeps = tt
sound_cells skin (w ∷ ws) (cell ∷ cells) (measured, typed, keeps, more) =
    (measured, sound_text skin w cell.kind (map run_of cell.compounds.items) typed.0 typed.1 keeps, sound_cells skin ws cells more)

sound_table_line : (skin : RowSkin) (ws : List ℕ) (l : FmtLine) → IsPrintableTableLine skin ws l → IsSoundTableLine skin ws l
sound_table_line skin ws (TableRow row) keeps = sound_cells skin ws row.cells.items keeps
sound_table_line skin ws (TableRule rule) keeps = keeps
sound_table_line skin ws _ keeps = absurd keeps

-- printable lines of a table are so
pub sound_table : (skin : RowSkin) (ws : List ℕ) (table : List FmtLine) → AllByRecursion (IsPrintableTableLine skin ws) table → AllByRecursion (IsSoundTableLine skin ws) table
sound_table skin ws [] keeps = tt
sound_table skin ws (l ∷ ls) keeps = (sound_table_line skin ws l keeps.0, sound_table skin ws ls keeps.1)
