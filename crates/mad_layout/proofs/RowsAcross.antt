-- From a layout's lines to the rows of a text's lines across the columns that are drawn.
use Rattle.std.proofs.Common.{◌≡◌, ℕ, zero, suc, ◌+◌, ◌-◌, ◌<◌, ◌≤◌, inl, inr, true, List, [], ◌∷◌, ◌++◌, map, length, take, chars, Option, Some, refl, ap, sym, ◌∙◌, subst, arith, append_assoc}
use Rattle.std.specs.Prelude.{min, max, IfSome}
use Rattle.std.specs.List.{AllByRecursion, repeat}
use Rattle.std.proofs.lemmas.List.{map-append, length-map}
use Rattle.mad_md.specs.Flagged.{FlaggedChar, Run, flagged, run_of, flagged_of, flagged_text}
use Rattle.mad_md.specs.Lines.{StyledRuns, LineContent, normal, table_row, table_rule, horizontal_rule}
use Rattle.mad_md.specs.declared.compound.Compound.{Compound}
use Rattle.mad_style.specs.Kinds.{kind_of}
use Rattle.mad_style.specs.LineStyles.{margins_at}
use Rattle.mad_style.specs.declared.kinds.CompositeKind.{CompositeKind}
use Rattle.mad_style.specs.declared.kinds.CompositeKind.TheVariants.{Paragraph, Header, Code}
use Rattle.mad_measure.specs.TextColumns.{width_of}
use Rattle.mad_measure.specs.declared.spacing.Spacing.{Spacing}
use Rattle.mad_wrap.proofs.WrapModes.{by_fits, by_keeps}
use Rattle.mad_wrap.specs.Keeps.{Keeps}
use Rattle.mad_wrap.specs.WrapLines.{HasRoom, LinesFit}
use Rattle.mad_wrap.specs.declared.room.Room.{Room}
use Rattle.mad_format.specs.CompositeWraps.{line_compounds, HaveKinds, IsCompositeWrap}
use Rattle.mad_style.specs.StyledChars.{char_alone}
use Rattle.mad_layout.specs.FlaggedLines.{widest_in, skin_char, row_across, rows_across, marked_parts}
use Rattle.mad_layout.specs.FlaggedTexts.{IsAcross, AreAcross}
use Rattle.mad_layout.specs.FlaggedRows.{AreRowsOf}
use Rattle.mad_layout.specs.FlaggedTables.{kept_widths, columns_below, rows_in_column, CellInColumn, AreInColumns, rows_down, most_rows, table_across, IsRowAcross, rule_across}
use Rattle.mad_format.specs.Indents.{indent, follow_up, room_of}
use Rattle.mad_format.specs.FmtLines.{bordered}
use Rattle.mad_blocks.specs.Tables.{with_blanks}
use Rattle.mad_blocks.specs.LayoutParts.{is_code_kind, IsLineAt, AreLinesAt}
use Rattle.mad_layout.specs.Premises.{inner_width, runs_text}
use Rattle.mad_rows.specs.RowStyles.{line_rules, line_style}
use Rattle.mad_blocks.specs.TextParts.{LineInPart}
use Rattle.mad_format.specs.WrappedLines.{style_margins, line_with, IsLaidOutBy}
use Rattle.mad_format.specs.Wraps.{text_of, columns_of, IsMeasured}
use Rattle.mad_rows.specs.declared.row_skin.RowSkin.{RowSkin}
use Rattle.mad_format.specs.declared.composite.FmtComposite.{FmtComposite}
use Rattle.mad_format.specs.declared.line.FmtLine.{FmtLine}
use Rattle.mad_format.specs.declared.line.FmtLine.TheVariants.{Normal, HorizontalRule}
use Rattle.mad_layout.proofs.DrawableLemmas.{IsPlacedFor, has_room}
use Rattle.mad_format.proofs.ReadWraps.{margins-le}
use Rattle.mad_layout.proofs.DrawnParts.{runs_are}
use Rattle.mad_layout.proofs.PrefixLemmas.{follow_up_printable}
use Rattle.mad_layout.proofs.RowChars.{AreWidths, place_for, line_chars, row_chars, run_chars}
use Rattle.mad_blocks.proofs.LayoutJoins.{by_bool}
use Rattle.mad_layout.proofs.RowsExist.{rows_of, rows_exist}
use Rattle.mad_layout.proofs.ColumnChars.{column_piece}
use Rattle.mad_layout.proofs.WrapRows.{whole_parts, kept_rows, wrapped_rows}
use Rattle.mad_layout.proofs.SoundLines.{IsSoundPrefix, IsSoundText, IsSoundContent, AreSoundLines}

-- ---- a line in its place

-- The composite is what was read of a line, in the place of its block, if it is one of code.
pub record IsPlacedIn (skin : RowSkin) (width : ℕ) (part : List LineContent) (said : StyledRuns) (l : FmtComposite) : Type 0 where
  pub kind : l.kind ≡ kind_of said.style
  pub text : map run_of l.compounds.items ≡ said.runs
  pub measured : IsMeasured (line_rules skin) l
  pub spacing : l.spacing ≡ place_for (is_code_kind (kind_of said.style)) (min (widest_in part) (inner_width skin width said))
  pub widest : is_code_kind (kind_of said.style) ≡ true → width_of (runs_text said.runs) ≤ widest_in part

as_kind : (l : FmtComposite) (k : CompositeKind) → l.kind ≡ k → l ≡ record l { kind = k }
as_kind l k e = ap (λ (x : CompositeKind). record l { kind = x }) e

code_follows : (k : CompositeKind) → is_code_kind (follow_up k) ≡ is_code_kind k
code_follows Code = refl
code_follows _ = refl

style_follows : (skin : RowSkin) (k : CompositeKind) → line_style skin (follow_up k) ≡ line_style skin k
style_follows skin Code = refl
style_follows skin _ = refl

-- a line of code has no indent
pub code_indent : (skin : RowSkin) (k : CompositeKind) → is_code_kind k ≡ true → indent skin.list_items_indentation_mode k ≡ 0
code_indent skin Paragraph e = refl
code_indent skin (Header level) e = refl
code_indent skin Code e = refl
code_indent skin _ e = absurd (cc)

-- the flagged texts of runs are those of their compounds
pub parts_are : (ps : List Compound) → map (λ (r : Run). flagged r.flags (chars r.text)) (map run_of ps) ≡ map flagged_of ps
parts_are [] = refl
parts_are (p ∷ ps) = ap (λ l. flagged_of p ∷ l) (parts_are ps)

-- ---- the rows of one line

-- what is known of a line of a layout that is a row of what was read
record IsRowLine (skin : RowSkin) (width : ℕ) (part : List LineContent) (said : StyledRuns) (l : FmtComposite) : Type 0 where
  measured : IsMeasured (line_rules skin) l
  spacing : l.spacing ≡ place_for (is_code_kind (kind_of said.style)) (min (widest_in part) (inner_width skin width said))
  inside : columns_of (line_rules skin) l ≤ inner_width skin width said
  holds : is_code_kind (kind_of said.style) ≡ true → columns_of (line_rules skin) l ≤ widest_in part

one_row : (skin : RowSkin) (width drawn : ℕ) (part : List LineContent) (said : StyledRuns) (k : CompositeKind) (l : FmtComposite) → AreWidths width drawn → l.kind ≡ k → IsSoundPrefix skin k
    → is_code_kind k ≡ is_code_kind (kind_of said.style) → line_style skin k ≡ line_style skin (kind_of said.style) → IsRowLine skin width part said l
    → line_chars skin drawn (line_with (margins_at (line_style skin (kind_of said.style)) (Some width)) l) ≡ row_across skin width drawn part said k (text_of l)
one_row skin width drawn part said k l bound kind prefix code style facts =
    let place : ℕ = min (widest_in part) (inner_width skin width said) in
    let inner : inner_width skin width said ≡ width - (margins_at (line_style skin k) (Some width)).0 - (margins_at (line_style skin k) (Some width)).1 = ap (λ s. width - (margins_at s (Some width)).0 - (margins_at s (Some width)).1) (sym style) in
    subst (λ (x : FmtComposite). IsRowLine skin width part said x → line_chars skin drawn (line_with (margins_at (line_style skin (kind_of said.style)) (Some width)) x) ≡ row_across skin width drawn part said k (text_of x)) (sym (as_kind l k kind))
    (λ f. ap (λ s. line_chars skin drawn (line_with (margins_at s (Some width)) (record l { kind = k }))) (sym style)
    ∙ row_chars skin width drawn part said (record l { kind = k }) bound prefix f.measured (f.spacing ∙ ap (λ b. place_for b place) (sym code)) inner f.inside (λ on. f.holds (sym code ∙ on))) facts

-- of the lines of a wrap, those after the first
others_across : (skin : RowSkin) (width drawn : ℕ) (part : List LineContent) (said : StyledRuns) (wrap : List FmtComposite) → AreWidths width drawn → IsSoundPrefix skin (kind_of said.style)
    → (is_code_kind (kind_of said.style) ≡ true → inner_width skin width said ≤ widest_in part) → HaveKinds (follow_up (kind_of said.style)) (follow_up (kind_of said.style)) wrap
    → AllByRecursion (λ (l : FmtComposite). l.spacing ≡ place_for (is_code_kind (kind_of said.style)) (min (widest_in part) (inner_width skin width said))) wrap → AllByRecursion (IsMeasured (line_rules skin)) wrap
    → LinesFit (indent skin.list_items_indentation_mode (follow_up (kind_of said.style))) (room_of (line_rules skin) (kind_of said.style) (inner_width skin width said)) (map flagged_text (line_compounds wrap))
    → map (line_chars skin drawn) (map (line_with (margins_at (line_style skin (kind_of said.style)) (Some width))) wrap)
    ≡ map (row_across skin width drawn part said (follow_up (kind_of said.style))) (map flagged_text (line_compounds wrap))
others_across skin width drawn part said [] bound prefix most kinds spacing measured fits = refl
others_across skin width drawn part said (l ∷ ls) bound prefix most kinds spacing measured fits =
    let k : CompositeKind = kind_of said.style in
    let own : indent skin.list_items_indentation_mode l.kind ≡ indent skin.list_items_indentation_mode (follow_up k) = ap (indent skin.list_items_indentation_mode) kinds.0 in
    let inside : columns_of (line_rules skin) l ≤ inner_width skin width said = omega (arith, own, fits.0) in
    let facts : IsRowLine skin width part said l = record { measured = measured.0; spacing = spacing.0; inside = inside; holds = λ on. omega (arith, inside, most on) } in
    let first = one_row skin width drawn part said (follow_up k) l bound kinds.0 (follow_up_printable skin k prefix) (code_follows k) (style_follows skin k) facts in
    let rest = others_across skin width drawn part said ls bound prefix most kinds.1 spacing.1 measured.1 fits.1 in
    ap (λ x. x ∷ map (line_chars skin drawn) (map (line_with (margins_at (line_style skin k) (Some width))) ls)) first ∙ ap (λ xs. row_across skin width drawn part said (follow_up k) (text_of l) ∷ xs) rest

wrap_across : (skin : RowSkin) (width drawn : ℕ) (part : List LineContent) (said : StyledRuns) (wrap : List FmtComposite) → AreWidths width drawn → IsSoundPrefix skin (kind_of said.style)
    → (is_code_kind (kind_of said.style) ≡ true → inner_width skin width said ≤ widest_in part) → HaveKinds (kind_of said.style) (follow_up (kind_of said.style)) wrap
    → AllByRecursion (λ (l : FmtComposite). l.spacing ≡ place_for (is_code_kind (kind_of said.style)) (min (widest_in part) (inner_width skin width said))) wrap → AllByRecursion (IsMeasured (line_rules skin)) wrap
    → LinesFit (indent skin.list_items_indentation_mode (kind_of said.style)) (room_of (line_rules skin) (kind_of said.style) (inner_width skin width said)) (map flagged_text (line_compounds wrap))
    → map (line_chars skin drawn) (map (line_with (margins_at (line_style skin (kind_of said.style)) (Some width))) wrap) ≡ rows_across skin width drawn part said (map flagged_text (line_compounds wrap))
wrap_across skin width drawn part said [] bound prefix most kinds spacing measured fits = refl
wrap_across skin width drawn part said (l ∷ ls) bound prefix most kinds spacing measured fits =
    let k : CompositeKind = kind_of said.style in
    let own : indent skin.list_items_indentation_mode l.kind ≡ indent skin.list_items_indentation_mode k = ap (indent skin.list_items_indentation_mode) kinds.0 in
    let inside : columns_of (line_rules skin) l ≤ inner_width skin width said = omega (arith, own, fits.0) in
    let facts : IsRowLine skin width part said l = record { measured = measured.0; spacing = spacing.0; inside = inside; holds = λ on. omega (arith, inside, most on) } in
    let first = one_row skin width drawn part said k l bound kinds.0 prefix refl refl facts in
    let rest = others_across skin width drawn part said ls bound prefix most kinds.1 spacing.1 measured.1 fits.1 in
    ap (λ x. x ∷ map (line_chars skin drawn) (map (line_with (margins_at (line_style skin k) (Some width))) ls)) first ∙ ap (λ xs. row_across skin width drawn part said k (text_of l) ∷ xs) rest

-- the composite is placed as a line that was read
placed_for : (skin : RowSkin) (width : ℕ) (part : List LineContent) (said : StyledRuns) (l : FmtComposite) → IsPlacedIn skin width part said (record l { kind = kind_of said.style })
    → IsPlacedFor skin width said (record l { kind = kind_of said.style })
placed_for skin width part said l read =
    let k : CompositeKind = kind_of said.style in
    let inner : ℕ = inner_width skin width said in
    let text : width_of (runs_text said.runs) ≡ width_of (text_of l) = ap width_of (ap runs_text (sym read.text) ∙ runs_are l.compounds.items) in
    let place : IfSome (place_for (is_code_kind k) (min (widest_in part) inner)) (λ s. (s.width ≤ inner) × (min l.visible_length inner ≤ s.width)) =
    by_bool (λ b. is_code_kind k ≡ b → IfSome (place_for b (min (widest_in part) inner)) (λ s. (s.width ≤ inner) × (min l.visible_length inner ≤ s.width))) (is_code_kind k)
    (λ on e. (omega arith, omega (arith, read.measured, text, read.widest on, code_indent skin k on))) (λ off e. tt) refl in
    record { kind = refl; text = read.text; measured = read.measured; place = subst (λ (o : Option Spacing). IfSome o (λ s. (s.width ≤ inner) × (min l.visible_length inner ≤ s.width))) (sym read.spacing) place }

abbrev AreRowsIn : RowSkin → ℕ → ℕ → List LineContent → StyledRuns → List FmtLine → Type 0
AreRowsIn skin width drawn part said own =
    (0 < length own) × ((rows : List (List FlaggedChar)) × AreRowsOf (room_of (line_rules skin) (kind_of said.style) (inner_width skin width said)) (marked_parts said) rows
    × (map (line_chars skin drawn) own ≡ rows_across skin width drawn part said rows))

not_none : (ws : List FmtComposite) → (ws ≡ [] → ⊥) → 0 < length ws
not_none [] h = absurd (h refl)
not_none (w ∷ ws) h = omega arith

kind_rows : (skin : RowSkin) (width drawn : ℕ) (part : List LineContent) (said : StyledRuns) (l : FmtComposite) (own : List FmtLine) → AreWidths width drawn → IsSoundText skin (inner_width skin width said) (kind_of said.style) said.runs
    → IsPlacedIn skin width part said (record l { kind = kind_of said.style }) → IsLaidOutBy IsCompositeWrap (line_rules skin) width (record l { kind = kind_of said.style }) own → AreRowsIn skin width drawn part said own
kind_rows skin width drawn part said l own bound printable read (inl (fits, same)) =
    let k : CompositeKind = kind_of said.style in
    let source : FmtComposite = record l { kind = k } in
    let inside : columns_of (line_rules skin) source ≤ inner_width skin width said = omega (arith, fits, read.measured, bound.narrower, bound.small, margins-le (line_style skin k) width) in
    let text : width_of (runs_text said.runs) ≡ width_of (text_of l) = ap width_of (ap runs_text (sym read.text) ∙ runs_are l.compounds.items) in
    let facts : IsRowLine skin width part said source = record { measured = read.measured; spacing = read.spacing; inside = inside; holds = λ on. omega (arith, text, read.widest on, code_indent skin k on) } in
    let one : length own ≡ 1 = ap length same in
    let parts : marked_parts said ≡ map flagged_of l.compounds.items = ap (map (λ (r : Run). flagged r.flags (chars r.text))) (sym read.text) ∙ parts_are l.compounds.items in
    let rows = kept_rows (room_of (line_rules skin) k (inner_width skin width said)) (text_of source) (map flagged_of l.compounds.items) (whole_parts l.compounds.items) inside in (
      omega (arith, one),
      (
        text_of source ∷ [],
        subst (λ (ps : List (List FlaggedChar)). AreRowsOf (room_of (line_rules skin) k (inner_width skin width said)) ps (text_of source ∷ [])) (sym parts) rows,
        ap (map (line_chars skin drawn)) same ∙ ap (λ x. x ∷ []) (one_row skin width drawn part said k source bound refl printable.prefix refl refl facts),
      ),
    )
kind_rows skin width drawn part said l own bound printable read (inr (wide, (wrap, wraps, same))) =
    let k : CompositeKind = kind_of said.style in
    let source : FmtComposite = record l { kind = k } in
    let inner : ℕ = inner_width skin width said in
    let r : Room = room_of (line_rules skin) k inner in
    let room : HasRoom r (text_of source) = has_room skin width said source printable (placed_for skin width part said l read) wide in
    let passes : r.width < r.first + width_of (flagged_text l.compounds.items) = omega (arith, wide, read.measured, margins-le (line_style skin k) width) in
    let fits : LinesFit r.first r (map flagged_text (line_compounds wrap)) = by_fits r.whole_words r l.compounds.items (line_compounds wrap) wraps.wrap room in
    let text : width_of (runs_text said.runs) ≡ width_of (text_of l) = ap width_of (ap runs_text (sym read.text) ∙ runs_are l.compounds.items) in
    let most : is_code_kind k ≡ true → inner ≤ widest_in part = λ on. omega (arith, text, read.widest on, code_indent skin k on, read.measured, wide, margins-le (line_style skin k) width) in
    let spacing : AllByRecursion (λ (x : FmtComposite). x.spacing ≡ place_for (is_code_kind k) (min (widest_in part) inner)) wrap =
    subst (λ (s : Option Spacing). AllByRecursion (λ (x : FmtComposite). x.spacing ≡ s) wrap) read.spacing wraps.made.spacing in
    let parts : marked_parts said ≡ map flagged_of l.compounds.items = ap (map (λ (r : Run). flagged r.flags (chars r.text))) (sym read.text) ∙ parts_are l.compounds.items in
    let some : 0 < length wrap = not_none wrap (λ e.
    let none : flagged_text l.compounds.items ≡ [] = subst (λ (xs : List FmtComposite). Keeps (flagged_text l.compounds.items) (map flagged_text (line_compounds xs))) e (by_keeps r.whole_words r l.compounds.items (line_compounds wrap) wraps.wrap) in
    omega (arith, wide, read.measured, room.indent, ap width_of none, margins-le (line_style skin k) width)) in
    let count : length own ≡ length (map (line_with (style_margins (line_rules skin) width source)) wrap) = ap length same in (
      omega (arith, count, some, length-map wrap (line_with (style_margins (line_rules skin) width source))),
      (
        map flagged_text (line_compounds wrap),
        subst (λ (ps : List (List FlaggedChar)). AreRowsOf r ps (map flagged_text (line_compounds wrap))) (sym parts) (wrapped_rows r l.compounds.items (line_compounds wrap) passes wraps.wrap),
        ap (map (line_chars skin drawn)) same ∙ wrap_across skin width drawn part said wrap bound printable.prefix most wraps.made.kinds spacing wraps.made.measured fits,
      ),
    )

-- the lines that a composite becomes are rows of what was read
pub said_rows : (skin : RowSkin) (width drawn : ℕ) (part : List LineContent) (said : StyledRuns) (l : FmtComposite) (own : List FmtLine) → AreWidths width drawn → IsSoundText skin (inner_width skin width said) (kind_of said.style) said.runs
    → IsPlacedIn skin width part said l → IsLaidOutBy IsCompositeWrap (line_rules skin) width l own → AreRowsIn skin width drawn part said own
said_rows skin width drawn part said l own bound printable read laid =
    let same : l ≡ record l { kind = kind_of said.style } = as_kind l (kind_of said.style) read.kind in
    kind_rows skin width drawn part said l own bound printable (subst (IsPlacedIn skin width part said) same read) (subst (λ (x : FmtComposite). IsLaidOutBy IsCompositeWrap (line_rules skin) width x own) same laid)

-- ---- the rows of all lines

-- the line of a layout is what was read, in its place, and none of a table
abbrev pub IsReadIn : RowSkin → ℕ → List LineContent → LineContent → FmtLine → Type 0
IsReadIn skin width part (normal said) (Normal l) = IsPlacedIn skin width part said l
IsReadIn skin width part horizontal_rule HorizontalRule = Unit {0}
IsReadIn skin width part _ _ = ⊥

-- so is each of the lines
abbrev pub AreReadIn : RowSkin → ℕ → List LineInPart → List FmtLine → Type 0
AreReadIn skin width [] [] = Unit {0}
AreReadIn skin width (x ∷ xs) (l ∷ ls) = IsReadIn skin width x.part x.line l × AreReadIn skin width xs ls
AreReadIn skin width _ _ = ⊥

content_rows : (skin : RowSkin) (width drawn : ℕ) (x : LineInPart) (line : LineContent) (l : FmtLine) (own : List FmtLine) → AreWidths width drawn → IsSoundContent skin width x.part line
    → IsReadIn skin width x.part line l → IsLineAt IsCompositeWrap (line_rules skin) (Some width) l own → (0 < length own) × IsAcross skin width drawn x line (map (line_chars skin drawn) own)
content_rows skin width drawn x (normal said) (Normal l) own bound printable read laid = said_rows skin width drawn x.part said l own bound printable read laid
content_rows skin width drawn x horizontal_rule HorizontalRule own bound printable read laid =
    let one : length own ≡ 1 = ap length laid in
    (omega (arith, one), ap (map (line_chars skin drawn)) laid ∙ ap (λ (t : List ℕ). t ∷ []) (run_chars skin.horizontal_rule drawn (column_piece skin.horizontal_rule printable)))
content_rows skin width drawn x _ _ own bound printable read laid = absurd read

-- cells have rows in any columns
cells_exist : (skin : RowSkin) (cs : List Spacing) (cells : List StyledRuns) → (placed : List CellInColumn) × AreInColumns skin cs cells placed
cells_exist skin [] cells = ([], refl)
cells_exist skin (c ∷ cs) [] = let more = cells_exist skin cs [] in (record { width = c.width; rows = [] } ∷ more.0, (more.0, refl, more.1))
cells_exist skin (c ∷ cs) (cell ∷ cells) =
    let more = cells_exist skin cs cells in
    let k : CompositeKind = kind_of cell.style in
    let r : Room = room_of (line_rules skin) k c.width in
    let rows : List (List FlaggedChar) = rows_of r (marked_parts cell) in
    (record { width = c.width; rows = rows_in_column skin c k rows } ∷ more.0, (rows, more.0, rows_exist r (marked_parts cell), refl, more.1))

row_exists : (skin : RowSkin) (drawn : ℕ) (cs : List Spacing) (cells : List StyledRuns) → (across : List (List ℕ)) × IsRowAcross skin drawn cs cells across
row_exists skin drawn cs cells =
    let placed = cells_exist skin cs cells in
    (map (table_across skin drawn (1 + bordered (with_blanks skin.cell_blanks (map (λ (c : Spacing). c.width) cs)))) (rows_down skin (max (most_rows placed.0) 1) placed.0), (placed.0, placed.1, refl))

line_across : (skin : RowSkin) (width drawn : ℕ) (x : LineInPart) (line : LineContent) → (across : List (List ℕ)) × IsAcross skin width drawn x line across
line_across skin width drawn x (normal said) =
    let r : Room = room_of (line_rules skin) (kind_of said.style) (inner_width skin width said) in
    (rows_across skin width drawn x.part said (rows_of r (marked_parts said)), (rows_of r (marked_parts said), rows_exist r (marked_parts said), refl))
line_across skin width drawn x (table_row cells) = row_exists skin drawn (columns_below (kept_widths skin width x.part) x.aligns) cells
line_across skin width drawn x (table_rule aligns) = (rule_across skin drawn x.position (kept_widths skin width x.part) ∷ [], refl)
line_across skin width drawn x horizontal_rule = (repeat drawn (skin_char (char_alone skin.horizontal_rule)) ∷ [], refl)

-- every line has rows across an area
pub across_exist : (skin : RowSkin) (width drawn : ℕ) (xs : List LineInPart) → (across : List (List ℕ)) × AreAcross skin width drawn xs across
across_exist skin width drawn [] = ([], refl)
across_exist skin width drawn (x ∷ xs) =
    let own = line_across skin width drawn x x.line in
    let more = across_exist skin width drawn xs in
    (own.0 ++ more.0, (own.0, more.0, refl, own.1, more.1))

-- The lines have rows across the area, and the first of these are those of the layout's lines.
abbrev pub HaveFirstRows : RowSkin → ℕ → ℕ → ℕ → List LineInPart → List FmtLine → Type 0
HaveFirstRows skin width drawn n xs lines = (across : List (List ℕ)) × AreAcross skin width drawn xs across × (take n across ≡ take n (map (line_chars skin drawn) lines))

-- lists that are the same so far
take_less : (n : ℕ) (xs : List (List ℕ)) → take n (take (suc n) xs) ≡ take n xs
take_less zero xs = refl
take_less (suc n) [] = refl
take_less (suc n) (x ∷ xs) = ap (λ (l : List (List ℕ)). x ∷ l) (take_less n xs)

less_same : (xs ys : List (List ℕ)) (n : ℕ) → take (suc n) xs ≡ take (suc n) ys → take n xs ≡ take n ys
less_same xs ys n e = sym (take_less n xs) ∙ ap (take n) e ∙ take_less n ys

first_same : (own xs ys : List (List ℕ)) (n : ℕ) → take n xs ≡ take n ys → take n (own ++ xs) ≡ take n (own ++ ys)
first_same own xs ys zero e = refl
first_same [] xs ys (suc n) e = e
first_same (o ∷ own) xs ys (suc n) e = ap (λ (l : List (List ℕ)). o ∷ l) (first_same own xs ys n (less_same xs ys n e))

-- after the same front they are the same one element further, where the front has one
pub some_same : (own xs ys : List (List ℕ)) (n : ℕ) → 0 < length own → take n xs ≡ take n ys → take (suc n) (own ++ xs) ≡ take (suc n) (own ++ ys)
some_same [] xs ys n some e = absurd (omega (arith, some))
some_same (o ∷ own) xs ys n some e = ap (λ (l : List (List ℕ)). o ∷ l) (first_same own xs ys n e)

-- The first rows of these lines and of those after them, whose rows are there for any number of lines that keep the premises.
pub front_across : (skin : RowSkin) (width drawn : ℕ) (n : ℕ) (xs ys : List LineInPart) (placed own others : List FmtLine) → AreWidths width drawn
    → ((m : ℕ) → AreSoundLines skin width (take m ys) → HaveFirstRows skin width drawn m ys others)
    → AreSoundLines skin width (take n (xs ++ ys)) → AreReadIn skin width xs placed → AreLinesAt IsCompositeWrap (line_rules skin) (Some width) placed own
    → HaveFirstRows skin width drawn n (xs ++ ys) (own ++ others)
front_across skin width drawn zero xs ys placed own others bound later keeps reads laid = let all = across_exist skin width drawn (xs ++ ys) in (all.0, all.1, refl)
front_across skin width drawn (suc n) [] ys [] own others bound later keeps reads laid = subst (λ (ls : List FmtLine). HaveFirstRows skin width drawn (suc n) ys (ls ++ others)) (sym laid) (later (suc n) keeps)
front_across skin width drawn (suc n) (x ∷ xs) ys (l ∷ ls) own others bound later keeps reads (here, there, joins, first_laid, more) =
    let chars : List FmtLine → List (List ℕ) = map (line_chars skin drawn) in
    let first = content_rows skin width drawn x x.line l here bound keeps.0 reads.0 first_laid in
    let rest = front_across skin width drawn n xs ys ls there others bound later keeps.1 reads.1 more in
    let count : 0 < length (chars here) = omega (arith, first.0, length-map here (line_chars skin drawn)) in
    let lines : own ++ others ≡ here ++ (there ++ others) = ap (λ (ls : List FmtLine). ls ++ others) joins ∙ append_assoc here there others in (
      chars here ++ rest.0,
      (chars here, rest.0, refl, first.1, rest.1),
      some_same (chars here) rest.0 (chars (there ++ others)) n count rest.2 ∙ ap (take (suc n)) (sym (ap chars lines ∙ map-append (line_chars skin drawn) here (there ++ others))),
    )
front_across skin width drawn _ _ ys _ own others bound later keeps reads _ = absurd reads
