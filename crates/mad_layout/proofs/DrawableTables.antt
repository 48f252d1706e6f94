-- A table that is laid out is drawn exactly.
use Rattle.std.proofs.Common.{◌≡◌, ℕ, zero, suc, ◌+◌, ◌-◌, ◌^◌, ◌<◌, ◌≤◌, Bool, true, false, inl, inr, List, [], ◌∷◌, ◌++◌, map, max, Option, None, Contains, length, take, refl, ap, sym, ◌∙◌, subst, arith, append_assoc}
use Rattle.std.specs.Prelude.{IfSome, unwrap_or, ◌==◌}
use Rattle.std.specs.List.{AllByRecursion}
use Rattle.mad_characters.specs.Columns.{char_columns}
use Rattle.mad_md.specs.Flagged.{FlaggedChar, Run, run_of, flagged_text}
use Rattle.mad_md.specs.Lines.{StyledRuns, LineContent, normal, table_row, table_rule, horizontal_rule}
use Rattle.mad_md.specs.declared.alignment.Alignment.{Alignment}
use Rattle.mad_md.specs.declared.compound.Compound.{Compound}
use Rattle.mad_style.specs.Kinds.{kind_of}
use Rattle.mad_style.specs.declared.kinds.CompositeKind.{CompositeKind}
use Rattle.mad_measure.specs.TextColumns.{width_of}
use Rattle.mad_measure.specs.Tokens.{token_run}
use Rattle.mad_measure.specs.declared.spacing.Spacing.{Spacing}
use Rattle.mad_measure.specs.declared.tokens.Token.{Token}
use Rattle.mad_measure.proofs.AllLemmas.{all_joined, all_each}
use Rattle.mad_measure.proofs.ExistLemmas.{tokens_of_all}
use Rattle.mad_wrap.specs.Rooms.{most_indent, token_limit}
use Rattle.mad_wrap.specs.WrapLines.{HasRoom, LinesFit, IsMadeOf}
use Rattle.mad_wrap.specs.declared.room.Room.{Room}
use Rattle.mad_draw.specs.Pieces.{AreShownPieces, pieces_columns}
use Rattle.mad_format.specs.CompositeWraps.{line_compounds, HaveKinds}
use Rattle.mad_layout.specs.Drawable.{FillsItsPlace, IsDrawableRow, IsDrawableRule, IsDrawableLine, AreDrawable}
use Rattle.mad_blocks.specs.FittingLayouts.{IsFittingWrap}
use Rattle.mad_format.specs.Indents.{indent, follow_up, room_of}
use Rattle.mad_blocks.specs.Layouts.{AreRead}
use Rattle.mad_format.specs.FmtLines.{bordered, rule_columns, AreCompositesRead, IsLineRead, is_table_line}
use Rattle.mad_layout.specs.Premises.{runs_text, AreBordersShown}
use Rattle.mad_rows.specs.Rows.{compound_piece, inner_columns, prefix_pieces, place_of, row_columns, rule_chars}
use Rattle.mad_rows.specs.RowStyles.{line_rules, line_style}
use Rattle.mad_blocks.specs.Tables.{AreSetWidths, rule_width, with_blanks, in_column, IsBlankIn, columns_with, centered, columns_from, columns_count, columns_in, position_at, IsTop, IsLineAcross, AreDown, below, IsCellLaidOut, AreCellsLaidOut, IsRuleLaidOut, IsTableLineBy, AreTableLinesBy, IsTableLaidOutBy}
use Rattle.mad_layout.specs.TableColumns.{kept_widths}
use Rattle.mad_blocks.specs.TextParts.{LineInPart, aligns_at, lines_in}
use Rattle.mad_format.specs.Wraps.{text_of, columns_of, IsMeasured}
use Rattle.mad_rows.specs.declared.row_skin.RowSkin.{RowSkin}
use Rattle.mad_format.specs.declared.composite.FmtComposite.{FmtComposite}
use Rattle.mad_format.specs.declared.line.FmtLine.{FmtLine}
use Rattle.mad_format.specs.declared.line.FmtLine.TheVariants.{Normal, TableRow, TableRule, HorizontalRule}
use Rattle.mad_format.specs.declared.table.FmtTableRow.{FmtTableRow}
use Rattle.mad_format.specs.declared.table.FmtTableRule.{FmtTableRule}
use Rattle.mad_format.specs.declared.table.RelativePosition.{RelativePosition}
use Rattle.mad_layout.proofs.DrawnParts.{each_of, pieces_shown, runs_are, some_joined, utf8_of}
use Rattle.mad_layout.proofs.PrefixLemmas.{prefix_shown, prefix_columns, follow_up_printable}
use Rattle.mad_blocks.proofs.PartRuns.{AllTableLines}
use Rattle.mad_blocks.proofs.TableLemmas.{top_spacing}
use Rattle.mad_blocks.proofs.TableWidths.{blanked_first, blanked_least, blanked_none, rule_widths}
use Rattle.mad_layout.proofs.KeptWidths.{AreTableRead, widths_kept}
use Rattle.mad_layout.proofs.ReadParts.{table_raw}
use Rattle.mad_layout.proofs.ColumnChars.{column_border, column_rule}
use Rattle.mad_layout.proofs.WholeTokens.{IsShownRun, printable_is_shown, tokens_shown}
use Rattle.mad_layout.specs.PrintableTables.{IsPrintableTableLine}
use Rattle.mad_layout.proofs.SoundLines.{sound_table, AreSoundCells, IsSoundTableLine, IsSoundRun, IsSoundPrefix, IsSoundText, AreSoundIn, IsSoundContent, AreSoundLines}

-- ---- a line of a cell

-- lines of a cell, each of which fills its place in a column
abbrev FillColumn : RowSkin → Spacing → List FmtComposite → Type 0
FillColumn skin c ls = AllByRecursion (λ l. FillsItsPlace skin (in_column c l)) ls

fills_column : (skin : RowSkin) (c : Spacing) (l : FmtComposite) → c.width < 2 ^ 64 - 1 → IsSoundPrefix skin l.kind → IsMeasured (line_rules skin) l → columns_of (line_rules skin) l ≤ c.width
    → AllByRecursion IsShownRun (map run_of l.compounds.items) → FillsItsPlace skin (in_column c l)
fills_column skin c l bound prefix measured fits shown =
    let same : l.visible_length ≡ columns_of (line_rules skin) l = omega (arith, measured, fits, bound) in
    record {
      measured = same;
      place = omega (arith, same, fits);
      prefix = prefix_shown skin l.kind prefix;
      indent_is = prefix_columns skin l.kind prefix;
      text = pieces_shown skin (line_style skin l.kind) l.compounds.items shown;
    }

wrapped_fill : (skin : RowSkin) (c : Spacing) (first : ℕ) (kind other : CompositeKind) (r : Room) (ps : List Compound) (ts : List Token) (wrap : List FmtComposite) → c.width < 2 ^ 64 - 1 → r.width ≡ c.width
    → first ≡ indent skin.list_items_indentation_mode kind → r.other ≡ indent skin.list_items_indentation_mode other → IsSoundPrefix skin kind → IsSoundPrefix skin other
    → AllByRecursion IsShownRun (map run_of ps ++ map token_run ts) → HaveKinds kind other wrap → AllByRecursion (IsMeasured (line_rules skin)) wrap → LinesFit first r (map flagged_text (line_compounds wrap))
    → AllByRecursion (IsMadeOf ps ts) (line_compounds wrap) → FillColumn skin c wrap
wrapped_fill skin c first kind other r ps ts [] bound width first_is other_is prefix follow shown kinds measured fits parts = tt
wrapped_fill skin c first kind other r ps ts (l ∷ ls) bound width first_is other_is prefix follow shown kinds measured fits parts =
    let runs = map run_of ps ++ map token_run ts in
    let own : indent skin.list_items_indentation_mode l.kind ≡ first = ap (indent skin.list_items_indentation_mode) kinds.0 ∙ sym first_is in
    let columns : columns_of (line_rules skin) l ≤ c.width = omega (arith, own, width, fits.0) in (
      fills_column skin c l bound (subst (IsSoundPrefix skin) (sym kinds.0) prefix) measured.0 columns
          (all_each (Contains runs) IsShownRun (λ x has. each_of IsShownRun runs x shown has) (map run_of l.compounds.items) parts.0),
      wrapped_fill skin c r.other other other r ps ts ls bound width other_is other_is follow follow shown kinds.1 measured.1 fits.1 parts.1,
    )

cell_fills : (skin : RowSkin) (c : Spacing) (cell : FmtComposite) (ls : List FmtComposite) → c.width < 2 ^ 64 - 1 → IsMeasured (line_rules skin) cell → IsSoundText skin c.width cell.kind (map run_of cell.compounds.items)
    → IsCellLaidOut IsFittingWrap (line_rules skin) c.width cell ls → FillColumn skin c ls
cell_fills skin c cell ls bound measured printable (inl (fits, same)) =
    let columns : columns_of (line_rules skin) cell ≤ c.width = omega (arith, measured, fits, bound) in
    let one = fills_column skin c cell bound printable.prefix measured columns (all_each IsSoundRun IsShownRun printable_is_shown (map run_of cell.compounds.items) printable.printable) in
    subst (FillColumn skin c) (sym same) (one, tt)
cell_fills skin c cell ls bound measured printable (inr (wide, wraps)) =
    let ps = cell.compounds.items in
    let r : Room = room_of (line_rules skin) cell.kind c.width in
    let text : runs_text (map run_of ps) ≡ text_of cell = runs_are ps in
    let premise = λ (t : List FlaggedChar). c.width < indent skin.list_items_indentation_mode cell.kind + width_of t → HasRoom r t in
    let room_where : premise (text_of cell) = subst premise text printable.room in
    let room : HasRoom r (text_of cell) = room_where (omega (arith, measured, wide)) in
    let narrow : AllByRecursion (λ x. char_columns x.char ≤ token_limit r) (flagged_text ps) =
    all_each (λ x. most_indent r + char_columns x.char ≤ r.width) (λ x. char_columns x.char ≤ token_limit r) (λ x h. omega (arith, h)) (flagged_text ps) room.each in
    let tokens = tokens_of_all (token_limit r) ps (utf8_of ps printable.printable) in
    let shown = all_joined IsShownRun (map run_of ps) (map token_run tokens.0) (all_each IsSoundRun IsShownRun printable_is_shown (map run_of ps) printable.printable)
    (tokens_shown (token_limit r) ps tokens.0 printable.printable narrow tokens.1) in
    wrapped_fill skin c r.first cell.kind (follow_up cell.kind) r ps tokens.0 ls bound refl refl refl printable.prefix (follow_up_printable skin cell.kind printable.prefix) shown wraps.made.kinds wraps.made.measured (wraps.fits room)
    (wraps.parts tokens.0 tokens.1)

-- ---- a row

-- the widths of columns
abbrev pub widths_of : List Spacing → List ℕ
widths_of cs = map (λ c. c.width) cs

-- the lines of each cell fill their places in its column
abbrev FillColumns : RowSkin → List Spacing → List (List FmtComposite) → Type 0
FillColumns skin [] lines = Unit {0}
FillColumns skin (c ∷ cs) [] = Unit {0}
FillColumns skin (c ∷ cs) (ls ∷ lines) = FillColumn skin c ls × FillColumns skin cs lines

no_cells : (skin : RowSkin) (ws : List ℕ) → AreSoundCells skin ws []
no_cells skin [] = tt
no_cells skin (w ∷ ws) = tt

cells_fill : (skin : RowSkin) (cs : List Spacing) (cells : List FmtComposite) (lines : List (List FmtComposite)) → AllByRecursion (λ c. c.width < 2 ^ 64 - 1) cs → AreSoundCells skin (widths_of cs) cells
    → AreCellsLaidOut IsFittingWrap (line_rules skin) cs cells lines → FillColumns skin cs lines
cells_fill skin [] cells lines bound printable laid = tt
cells_fill skin (c ∷ cs) cells [] bound printable laid = tt
cells_fill skin (c ∷ cs) [] (ls ∷ lines) bound printable laid = (subst (FillColumn skin c) (sym laid.0) tt, cells_fill skin cs [] lines bound.1 (no_cells skin (widths_of cs)) laid.1)
cells_fill skin (c ∷ cs) (cell ∷ cells) (ls ∷ lines) bound printable laid = (cell_fills skin c cell ls bound.0 printable.0 printable.1 laid.0, cells_fill skin cs cells lines bound.1 printable.2 laid.1)

-- an empty paragraph fills its place
blank_fills : (skin : RowSkin) (c : Spacing) (x : FmtComposite) → IsBlankIn c x → FillsItsPlace skin x
blank_fills skin c x h =
    let none : indent skin.list_items_indentation_mode x.kind ≡ 0 = ap (indent skin.list_items_indentation_mode) h.kind in
    let text : width_of (text_of x) ≡ 0 = ap (λ (ps : List Compound). width_of (flagged_text ps)) h.empty in
    let zero_is : x.visible_length ≡ 0 = h.length_is in
    record {
      measured = omega (arith, zero_is, none, text);
      place = subst (λ (s : Option Spacing). IfSome s (λ p. x.visible_length ≤ p.width)) (sym h.spacing) (omega (arith, zero_is));
      prefix = subst (λ (k : CompositeKind). AreShownPieces (prefix_pieces skin k)) (sym h.kind) tt;
      indent_is = subst (λ (k : CompositeKind). pieces_columns (prefix_pieces skin k) ≡ indent skin.list_items_indentation_mode k) (sym h.kind) refl;
      text = subst (λ (ps : List Compound). AreShownPieces (map (compound_piece skin (line_style skin x.kind)) ps)) (sym h.empty) tt;
    }

top_fills : (skin : RowSkin) (c : Spacing) (ls : List FmtComposite) (x : FmtComposite) → FillColumn skin c ls → IsTop c ls x → FillsItsPlace skin x
top_fills skin c [] x h top = blank_fills skin c x top
top_fills skin c (l ∷ ls) x h top = subst (FillsItsPlace skin) (sym top) h.0

across_fill : (skin : RowSkin) (cs : List Spacing) (lines : List (List FmtComposite)) (xs : List FmtComposite) → FillColumns skin cs lines → IsLineAcross cs lines xs → AllByRecursion (FillsItsPlace skin) xs
across_fill skin [] [] [] h across = tt
across_fill skin (c ∷ cs) (ls ∷ lines) (x ∷ xs) h across = (top_fills skin c ls x h.0 across.0, across_fill skin cs lines xs h.1 across.1)
across_fill skin _ _ _ h across = absurd across

-- a row across columns takes their widths, its blanks and its borders
pub across_columns : (skin : RowSkin) (cs : List Spacing) (lines : List (List FmtComposite)) (xs : List FmtComposite) → IsLineAcross cs lines xs → row_columns skin xs ≡ 1 + bordered (with_blanks skin.cell_blanks (widths_of cs))
across_columns skin [] [] [] across = let none = blanked_none skin.cell_blanks in omega (arith, none)
across_columns skin (c ∷ cs) (ls ∷ lines) (x ∷ xs) across =
    let rest : row_columns skin xs ≡ 1 + bordered (with_blanks skin.cell_blanks (widths_of cs)) = across_columns skin cs lines xs across.1 in
    let own : inner_columns x ≡ c.width = ap (λ s. unwrap_or (place_of s) x.visible_length) (top_spacing c ls x across.0) in
    let first = blanked_first skin.cell_blanks c.width (widths_of cs) in
    omega (arith, rest, own, first)
across_columns skin _ _ _ across = absurd across

below_fill : (skin : RowSkin) (cs : List Spacing) (lines : List (List FmtComposite)) → FillColumns skin cs lines → FillColumns skin cs (map below lines)
below_fill skin [] lines h = tt
below_fill skin (c ∷ cs) [] h = tt
below_fill skin (c ∷ cs) ([] ∷ lines) h = (tt, below_fill skin cs lines h.1)
below_fill skin (c ∷ cs) ((l ∷ ls) ∷ lines) h = (h.0.1, below_fill skin cs lines h.1)

rows_drawable : (skin : RowSkin) (drawn : ℕ) (cs : List Spacing) (lines : List (List FmtComposite)) (rows : List FmtTableRow) → 1 + bordered (with_blanks skin.cell_blanks (widths_of cs)) ≤ drawn → AreBordersShown skin
    → FillColumns skin cs lines → AreDown cs lines rows → AreDrawable skin drawn (map TableRow rows)
rows_drawable skin drawn cs lines [] fit borders h down = tt
rows_drawable skin drawn cs lines (row ∷ rows) fit borders h down = (
  record {
    fits = let columns_are : row_columns skin row.cells.items ≡ 1 + bordered (with_blanks skin.cell_blanks (widths_of cs)) = across_columns skin cs lines row.cells.items down.0 in omega (arith, columns_are, fit);
    each = across_fill skin cs lines row.cells.items h down.0;
    border = column_border skin.table.compound_style skin.table_border_chars.vertical borders.vertical;
  },
  rows_drawable skin drawn cs (map below lines) rows fit borders (below_fill skin cs lines h) down.1,
)

-- ---- a rule

widths_mapped : (b : Bool) (cs : List Spacing) → map (λ (c : Spacing). rule_width b c.width) cs ≡ map (rule_width b) (widths_of cs)
widths_mapped b [] = refl
widths_mapped b (c ∷ cs) = ap (λ (ws : List ℕ). rule_width b c.width ∷ ws) (widths_mapped b cs)

-- a rule across columns that fit is as wide as these with their blanks
pub rule_across_columns : (b : Bool) (drawn : ℕ) (cs : List Spacing) → drawn < 2 ^ 64 - 1 → 1 + bordered (with_blanks b (widths_of cs)) ≤ drawn → map (λ (c : Spacing). rule_width b c.width) cs ≡ with_blanks b (widths_of cs)
rule_across_columns b drawn cs bound fit = widths_mapped b cs ∙ rule_widths b (widths_of cs) (omega (arith, bound, fit))

rule_fits : (ws : List ℕ) (drawn : ℕ) → 2 ≤ drawn → 1 + bordered ws ≤ drawn → rule_columns ws ≤ drawn
rule_fits [] drawn two fit = two
rule_fits (w ∷ ws) drawn two fit = fit

rule_drawable : (skin : RowSkin) (drawn : ℕ) (position : RelativePosition) (cs : List Spacing) (rule : FmtTableRule) → 2 ≤ drawn → drawn < 2 ^ 64 - 1 → 1 + bordered (with_blanks skin.cell_blanks (widths_of cs)) ≤ drawn
    → AreBordersShown skin → IsRuleLaidOut skin.cell_blanks position cs rule → IsDrawableRule skin drawn rule
rule_drawable skin drawn position cs rule two bound fit borders h = record {
  fits = subst (λ ws. rule_columns ws ≤ drawn) (sym (h.widths_are ∙ rule_across_columns skin.cell_blanks drawn cs bound fit)) (rule_fits (with_blanks skin.cell_blanks (widths_of cs)) drawn two fit);
  chars = column_rule skin (rule_chars skin.table_border_chars rule.position) (borders.rules rule.position);
}

-- ---- a line of a table

-- the columns of a table have these widths, and fit with their blanks
record FitColumns (b : Bool) (drawn : ℕ) (ws : List ℕ) (cs : List Spacing) : Type 0 where
  two : 2 ≤ drawn
  bound : drawn < 2 ^ 64 - 1
  fit : 1 + bordered (with_blanks b ws) ≤ drawn
  are : widths_of cs ≡ ws

-- columns that were given widths have these
pub columns_with-widths : (ws : List ℕ) (aligns : List Alignment) → widths_of (columns_with ws aligns) ≡ ws
columns_with-widths [] aligns = refl
columns_with-widths (w ∷ ws) [] = ap (λ vs. w ∷ vs) (columns_with-widths ws [])
columns_with-widths (w ∷ ws) (a ∷ aligns) = ap (λ vs. w ∷ vs) (columns_with-widths ws aligns)

-- so have columns of centered cells
pub centered-widths : (ws : List ℕ) → widths_of (centered ws) ≡ ws
centered-widths [] = refl
centered-widths (w ∷ ws) = ap (λ vs. w ∷ vs) (centered-widths ws)

from-widths : (ws : List ℕ) (cs : List Spacing) (l : FmtLine) → widths_of cs ≡ ws → widths_of (columns_from ws cs l) ≡ ws
from-widths ws cs (TableRule rule) h = columns_with-widths ws rule.aligns.items
from-widths ws cs _ h = h

fit_from : (b : Bool) (drawn : ℕ) (ws : List ℕ) (cs : List Spacing) (l : FmtLine) → FitColumns b drawn ws cs → FitColumns b drawn ws (columns_from ws cs l)
fit_from b drawn ws cs l h = record { two = h.two; bound = h.bound; fit = h.fit; are = from-widths ws cs l h.are }

-- the columns of a table that fits can be counted
pub widths_small : (drawn : ℕ) (cs : List Spacing) → drawn < 2 ^ 64 - 1 → 1 + bordered (widths_of cs) ≤ drawn → AllByRecursion (λ c. c.width < 2 ^ 64 - 1) cs
widths_small drawn [] bound fit = tt
widths_small drawn (c ∷ cs) bound fit = (omega (arith, bound, fit), widths_small drawn cs bound (omega (arith, fit)))

-- some rows are some lines
pub map_some : (rows : List FmtTableRow) → 0 < length rows → 0 < length (map TableRow rows)
map_some [] h = absurd (omega (arith, h))
map_some (row ∷ rows) h = omega arith

table_line_drawable : (skin : RowSkin) (drawn : ℕ) (ws : List ℕ) (cs : List Spacing) (position : RelativePosition) (l : FmtLine) (own : List FmtLine) → FitColumns skin.cell_blanks drawn ws cs
    → AreBordersShown skin → IsSoundTableLine skin ws l → IsTableLineBy IsFittingWrap (line_rules skin) cs position l own → (0 < length own) × AreDrawable skin drawn own
table_line_drawable skin drawn ws cs position (TableRow row) own fit borders printable (rows, is, laid) =
    let inside : 1 + bordered (with_blanks skin.cell_blanks (widths_of cs)) ≤ drawn = subst (λ vs. 1 + bordered (with_blanks skin.cell_blanks vs) ≤ drawn) (sym fit.are) fit.fit in
    let without : 1 + bordered (widths_of cs) ≤ drawn = let least = blanked_least skin.cell_blanks (widths_of cs) in omega (arith, inside, least) in
    let cells : AreSoundCells skin (widths_of cs) row.cells.items = subst (λ vs. AreSoundCells skin vs row.cells.items) (sym fit.are) printable in
    let fill : FillColumns skin cs laid.lines = cells_fill skin cs row.cells.items laid.lines (widths_small drawn cs fit.bound without) cells laid.laid_out in
    let count : length rows ≡ max _ 1 = laid.count in
    subst (λ (ls : List FmtLine). (0 < length ls) × AreDrawable skin drawn ls) (sym is) (map_some rows (omega (arith, count)), rows_drawable skin drawn cs laid.lines rows inside borders fill laid.rows_are)
table_line_drawable skin drawn ws cs position (TableRule source) own fit borders printable (rule, is, laid) =
    subst (λ (ls : List FmtLine). (0 < length ls) × AreDrawable skin drawn ls) (sym is)
    (omega arith, (rule_drawable skin drawn position cs rule fit.two fit.bound (subst (λ vs. 1 + bordered (with_blanks skin.cell_blanks vs) ≤ drawn) (sym fit.are) fit.fit) borders laid, tt))
table_line_drawable skin drawn ws cs position _ own fit borders printable _ = absurd printable

-- ---- lines without columns

no_row : (cells : List FmtComposite) → length cells ≡ 0 → cells ≡ []
no_row [] h = refl
no_row (cell ∷ cells) h = absurd (omega (arith, h))

-- a line of a table without columns stays, and is drawn exactly
bare_drawable : (skin : RowSkin) (drawn : ℕ) (l : FmtLine) → 2 ≤ drawn → AreBordersShown skin → IsSoundTableLine skin [] l → columns_in l ≡ 0 → IsDrawableLine skin drawn l
bare_drawable skin drawn (TableRow row) two borders printable none =
    subst (IsDrawableRow skin drawn) (sym (no_row row.cells.items none)) (record { fits = omega (arith, two); each = tt; border = column_border skin.table.compound_style skin.table_border_chars.vertical borders.vertical })
bare_drawable skin drawn (TableRule rule) two borders printable none = record { fits = subst (λ (ws : List ℕ). rule_columns ws ≤ drawn) (sym printable) two; chars = column_rule skin (rule_chars skin.table_border_chars rule.position) (borders.rules rule.position) }
bare_drawable skin drawn _ two borders printable none = absurd printable

-- ---- lines of a text

cells_printable : (skin : RowSkin) (ws : List ℕ) (said : List StyledRuns) (cells : List FmtComposite) → AreSoundIn skin ws said → AreCompositesRead (line_rules skin) said cells → AreSoundCells skin ws cells
cells_printable skin [] said cells printable read = tt
cells_printable skin (w ∷ ws) [] [] printable read = tt
cells_printable skin (w ∷ ws) (s ∷ ss) (l ∷ ls) printable read = (
  read.0.measured,
  subst (λ (k : CompositeKind). IsSoundText skin w k (map run_of l.compounds.items)) (sym read.0.kind) (subst (λ (rs : List Run). IsSoundText skin w (kind_of s.style) rs) (sym read.0.text) printable.0),
  cells_printable skin ws ss ls printable.1 read.1,
)
cells_printable skin _ _ _ printable read = absurd read

-- what a line of a table says that keeps the premises
pub record TableContent (skin : RowSkin) (width : ℕ) (ws : List ℕ) (l : FmtLine) : Type 0 where
  pub two : 2 ≤ width
  pub borders : AreBordersShown skin
  pub printable : IsSoundTableLine skin ws l

-- cells that keep the premises of a part are printable in these columns
abbrev pub ArePartColumns : RowSkin → ℕ → List LineContent → List ℕ → Type 0
ArePartColumns skin width part ws = (cells : List StyledRuns) → AreSoundIn skin (kept_widths skin width part) cells → AreSoundIn skin ws cells

-- the kept widths of a part are such columns
pub kept_columns : (skin : RowSkin) (width : ℕ) (part : List LineContent) (ws : List ℕ) → ws ≡ kept_widths skin width part → ArePartColumns skin width part ws
kept_columns skin width part ws is cells given = subst (λ vs. AreSoundIn skin vs cells) (sym is) given

-- what is read of a line of a table keeps the premises, where the line does
pub content_printable : (skin : RowSkin) (width : ℕ) (part : List LineContent) (ws : List ℕ) (c : LineContent) (l : FmtLine) → ArePartColumns skin width part ws → IsSoundContent skin width part c → IsLineRead (line_rules skin) c l → is_table_line l ≡ true
    → TableContent skin width ws l
content_printable skin width part ws (normal said) (Normal l) columns printable read is = absurd (cc)
content_printable skin width part ws (table_row cells) (TableRow row) columns printable read is = record { two = printable.0; borders = printable.1; printable = cells_printable skin ws cells row.cells.items (columns cells printable.2) read }
content_printable skin width part ws (table_rule aligns) (TableRule rule) columns printable read is = record { two = printable.0; borders = printable.1; printable = read.widths }
content_printable skin width part ws horizontal_rule HorizontalRule columns printable read is = absurd (cc)
content_printable skin width part ws _ _ columns printable read is = absurd read

-- of lines of a text that come after a part, those that are drawn are drawn exactly
abbrev pub Later : RowSkin → ℕ → ℕ → List LineInPart → List FmtLine → Type 0
Later skin width drawn xs others = (m : ℕ) → AreSoundLines skin width (take m xs) → AreDrawable skin drawn (take m others)

laid_drawable : (skin : RowSkin) (width drawn n : ℕ) (part : List LineContent) (above : Option (List Alignment)) (text : List LineContent) (xs : List LineInPart) (ws : List ℕ) (cs : List Spacing) (first : Bool) (table own others : List FmtLine) → 1 + bordered (with_blanks skin.cell_blanks ws) ≤ width → width ≤ drawn → drawn < 2 ^ 64 - 1
    → widths_of cs ≡ ws → ArePartColumns skin width part ws → Later skin width drawn xs others → AreSoundLines skin width (take n (lines_in part above first text ++ xs)) → AreRead (line_rules skin) text table → AllTableLines table
    → AreTableLinesBy IsFittingWrap (line_rules skin) ws cs first table own → AreDrawable skin drawn (take n (own ++ others))
laid_drawable skin width drawn zero part above text xs ws cs first table own others fit narrower bound are columns later keeps reads lines laid = tt
laid_drawable skin width drawn (suc n) part above [] xs ws cs first [] own others fit narrower bound are columns later keeps reads lines laid =
    subst (λ (ls : List FmtLine). AreDrawable skin drawn (take (suc n) (ls ++ others))) (sym laid) (later (suc n) keeps)
laid_drawable skin width drawn (suc n) part above (c ∷ text) xs ws cs first (l ∷ ls) own others fit narrower bound are columns later keeps reads lines (front, more, joins, here, below_it) =
    let content : TableContent skin width ws l = content_printable skin width part ws c l columns keeps.0 reads.0 lines.0 in
    let two : 2 ≤ width = content.two in
    let columns_fit : FitColumns skin.cell_blanks drawn ws cs = record { two = omega (arith, two, narrower); bound = bound; fit = omega (arith, fit, narrower); are = are } in
    let one = table_line_drawable skin drawn ws (columns_from ws cs l) (position_at first (length ls == 0)) l front (fit_from skin.cell_blanks drawn ws cs l columns_fit) content.borders content.printable here in
    subst (λ (xs : List FmtLine). AreDrawable skin drawn (take (suc n) xs)) (sym (ap (λ xs. xs ++ others) joins ∙ append_assoc front more others))
    (some_joined skin drawn front (more ++ others) n one.0 one.1
    (laid_drawable skin width drawn n part (aligns_at above c) text xs ws (columns_from ws cs l) false ls more others fit narrower bound (from-widths ws cs l are) columns later keeps.1 reads.1 lines.1 below_it))
laid_drawable skin width drawn _ part above _ xs ws cs first _ own others fit narrower bound are columns later keeps reads lines _ = absurd reads

bare_lines : (skin : RowSkin) (width drawn n : ℕ) (part : List LineContent) (above : Option (List Alignment)) (first : Bool) (text : List LineContent) (xs : List LineInPart) (table others : List FmtLine) → width ≤ drawn → columns_count table ≡ 0 → Later skin width drawn xs others
    → AreSoundLines skin width (take n (lines_in part above first text ++ xs)) → AreRead (line_rules skin) text table → AllTableLines table → AreDrawable skin drawn (take n (table ++ others))
bare_lines skin width drawn zero part above first text xs table others narrower none later keeps reads lines = tt
bare_lines skin width drawn (suc n) part above first [] xs [] others narrower none later keeps reads lines = later (suc n) keeps
bare_lines skin width drawn (suc n) part above first (c ∷ text) xs (l ∷ ls) others narrower none later keeps reads lines =
    let content : TableContent skin width [] l = content_printable skin width part [] c l (λ cells given. tt) keeps.0 reads.0 lines.0 in
    let two : 2 ≤ width = content.two in
    let own : columns_in l ≡ 0 = omega (arith, none) in
    (bare_drawable skin drawn l (omega (arith, two, narrower)) content.borders content.printable own, bare_lines skin width drawn n part (aligns_at above c) false text xs ls others narrower (omega (arith, none)) later keeps.1 reads.1 lines.1)
bare_lines skin width drawn _ part above first _ xs _ others narrower none later keeps reads lines = absurd reads

-- The lines of a table, which is a part of a text, and those after it.
pub table_drawable : (skin : RowSkin) (width drawn n : ℕ) (c : LineContent) (text : List LineContent) (xs : List LineInPart) (l : FmtLine) (ls own others : List FmtLine) → width ≤ drawn → drawn < 2 ^ 64 - 1 → Later skin width drawn xs others
    → AreSoundLines skin width (take (suc n) (lines_in (c ∷ text) None true (c ∷ text) ++ xs)) → AreTableRead skin (c ∷ text) (l ∷ ls) → AllTableLines (l ∷ ls)
    → IsTableLaidOutBy IsFittingWrap (line_rules skin) (columns_count (l ∷ ls)) width (l ∷ ls) own → AreDrawable skin drawn (take (suc n) (own ++ others))
table_drawable skin width drawn n c text xs l ls own others narrower bound later keeps reads lines (inl (inl none, stays)) =
    subst (λ (xs : List FmtLine). AreDrawable skin drawn (take (suc n) (xs ++ others))) (sym stays) (bare_lines skin width drawn (suc n) (c ∷ text) None true (c ∷ text) xs (l ∷ ls) others narrower none later keeps (table_raw skin (c ∷ text) (l ∷ ls) reads) lines)
table_drawable skin width drawn n c text xs l ls own others narrower bound later keeps reads lines (inl (inr none, stays)) =
    let content : TableContent skin width [] l = content_printable skin width (c ∷ text) [] c l (λ cells given. tt) keeps.0 reads.0.read lines.0 in
    let two : 2 ≤ width = content.two in
    absurd (omega (arith, none, two))
table_drawable skin width drawn n c text xs l ls own others narrower bound later keeps reads lines (inr (some, place, (ws, kept, laid))) =
    let fit : 1 + bordered (with_blanks skin.cell_blanks ws) ≤ width = let inside : bordered (with_blanks skin.cell_blanks ws) + 1 ≤ width = kept.fit in omega (arith, inside) in
    laid_drawable skin width drawn (suc n) (c ∷ text) None (c ∷ text) xs ws (centered ws) true (l ∷ ls) own others fit narrower bound (centered-widths ws) (kept_columns skin width (c ∷ text) ws (widths_kept skin width (c ∷ text) (l ∷ ls) ws reads kept)) later keeps (table_raw skin (c ∷ text) (l ∷ ls) reads) lines laid

-- ---- a table by itself

alone_drawable : (skin : RowSkin) (drawn : ℕ) (ws : List ℕ) (cs : List Spacing) (first : Bool) (table own : List FmtLine) → FitColumns skin.cell_blanks drawn ws cs → AreBordersShown skin
    → AllByRecursion (IsSoundTableLine skin ws) table → AreTableLinesBy IsFittingWrap (line_rules skin) ws cs first table own → AreDrawable skin drawn own
alone_drawable skin drawn ws cs first [] own fit borders printable laid = subst (AreDrawable skin drawn) (sym laid) tt
alone_drawable skin drawn ws cs first (l ∷ ls) own fit borders printable (front, more, joins, here, below_it) =
    let below_fit : FitColumns skin.cell_blanks drawn ws (columns_from ws cs l) = fit_from skin.cell_blanks drawn ws cs l fit in
    let one = table_line_drawable skin drawn ws (columns_from ws cs l) (position_at first (length ls == 0)) l front below_fit borders printable.0 here in
    subst (AreDrawable skin drawn) (sym joins) (all_joined (IsDrawableLine skin drawn) front more one.1 (alone_drawable skin drawn ws (columns_from ws cs l) false ls more below_fit borders printable.1 below_it))

bare_alone : (skin : RowSkin) (drawn : ℕ) (table : List FmtLine) → 2 ≤ drawn → AreBordersShown skin → columns_count table ≡ 0 → AllByRecursion (IsSoundTableLine skin []) table → AreDrawable skin drawn table
bare_alone skin drawn [] two borders none printable = tt
bare_alone skin drawn (l ∷ ls) two borders none printable =
    let own : columns_in l ≡ 0 = omega (arith, none) in (bare_drawable skin drawn l two borders printable.0 own, bare_alone skin drawn ls two borders (omega (arith, none)) printable.1)

-- A table's lines fit where its columns do with their borders.
pub tables_fitting : (skin : RowSkin) (width drawn : ℕ) (table lines : List FmtLine) → 2 ≤ width → width ≤ drawn → drawn < 2 ^ 64 - 1 → AreBordersShown skin
    → AllByRecursion (IsPrintableTableLine skin []) table → ((ws : List ℕ) → AreSetWidths skin.whole_words skin.cell_blanks (columns_count table) width table ws → AllByRecursion (IsPrintableTableLine skin ws) table)
    → IsTableLaidOutBy IsFittingWrap (line_rules skin) (columns_count table) width table lines → AreDrawable skin drawn lines
tables_fitting skin width drawn table lines two narrower bound borders bare printable (inl (inl none, stays)) =
    subst (AreDrawable skin drawn) (sym stays) (bare_alone skin drawn table (omega (arith, two, narrower)) borders none (sound_table skin [] table bare))
tables_fitting skin width drawn table lines two narrower bound borders bare printable (inl (inr none, stays)) = absurd (omega (arith, none, two))
tables_fitting skin width drawn table lines two narrower bound borders bare printable (inr (some, place, (ws, kept, laid))) =
    let inside : bordered (with_blanks skin.cell_blanks ws) + 1 ≤ width = kept.fit in
    alone_drawable skin drawn ws (centered ws) true table lines (record { two = omega (arith, two, narrower); bound = bound; fit = omega (arith, inside, narrower); are = centered-widths ws }) borders (sound_table skin ws table (printable ws kept)) laid
