-- From a table's layout to the rows of its lines across the columns that are drawn.
use Rattle.std.proofs.Common.{◌≡◌, ℕ, zero, suc, ◌+◌, ◌-◌, ◌*◌, ◌/◌, ◌^◌, ◌<◌, ◌≤◌, ◌==◌, Bool, true, false, inl, inr, max, List, [], ◌∷◌, ◌++◌, map, length, take, replicate, sum, chars, Option, Some, None, if◌then◌else◌, nat_le, refl, ap, sym, ◌∙◌, subst, arith, append_assoc}
use Rattle.std.specs.List.{AllByRecursion}
use Rattle.std.proofs.lemmas.Bool.Decides.{nat_tests}
use Rattle.std.proofs.lemmas.List.{map-append, length-map}
use Rattle.mad_md.specs.Flagged.{FlaggedChar, Run, flagged, run_of, flagged_of, flagged_text}
use Rattle.mad_md.specs.Lines.{StyledRuns, LineContent, normal, table_row, table_rule, horizontal_rule}
use Rattle.mad_md.specs.declared.alignment.Alignment.{Alignment}
use Rattle.mad_style.specs.Kinds.{kind_of}
use Rattle.mad_style.specs.declared.kinds.CompositeKind.{CompositeKind}
use Rattle.mad_widths.specs.ColumnWidths.{narrowed, second_requests, column_widths, after_second}
use Rattle.mad_widths.specs.WordWidths.{raised, counted_from, word_widths}
use Rattle.mad_widths.specs.Turns.{grants}
use Rattle.mad_measure.specs.TextColumns.{width_of}
use Rattle.mad_measure.specs.declared.spacing.Spacing.{Spacing}
use Rattle.mad_wrap.proofs.WrapModes.{by_fits}
use Rattle.mad_wrap.specs.WrapLines.{HasRoom, LinesFit}
use Rattle.mad_wrap.specs.declared.room.Room.{Room}
use Rattle.mad_format.specs.CompositeWraps.{line_compounds, HaveKinds, IsCompositeWrap}
use Rattle.mad_layout.specs.FlaggedLines.{marked_parts}
use Rattle.mad_layout.specs.FlaggedRows.{AreRowsOf}
use Rattle.mad_layout.specs.FlaggedTables.{columns_among, cells_among, words_among, kept_widths, columns_below, row_in_column, rows_in_column, CellInColumn, AreInColumns, rows_down, most_rows, table_across, IsRowAcross, rule_across}
use Rattle.mad_layout.specs.FlaggedTexts.{LineInPart, aligns_at, position_in, lines_in, IsAcross}
use Rattle.mad_format.specs.Indents.{indent, follow_up, room_of}
use Rattle.mad_format.specs.FmtLines.{bordered, IsCompositeRead, AreCompositesRead, IsLineRead, is_table_line}
use Rattle.mad_blocks.specs.Tables.{first_columns, least_room, most_columns, widths_by, with_blanks, without_blanks, in_column, IsCellLaidOut, AreCellsLaidOut, below, tallest, IsRowLaidOutBy, columns_with, columns_from, columns_count, columns_in, position_at, IsTableLineBy, AreTableLinesBy, IsTableLaidOutBy}
use Rattle.mad_blocks.specs.Tables as tables
use Rattle.mad_format.specs.Wraps.{text_of, columns_of, IsMeasured}
use Rattle.mad_rows.specs.declared.row_skin.RowSkin.{RowSkin}
use Rattle.mad_format.specs.declared.composite.FmtComposite.{FmtComposite}
use Rattle.mad_format.specs.declared.line.FmtLine.{FmtLine}
use Rattle.mad_format.specs.declared.line.FmtLine.TheVariants.{Normal, TableRow, TableRule, HorizontalRule}
use Rattle.mad_format.specs.declared.table.FmtTableRow.{FmtTableRow}
use Rattle.mad_format.specs.declared.table.RelativePosition.{RelativePosition}
use Rattle.mad_format.specs.declared.table.RelativePosition.TheVariants.{Other}
use Rattle.mad_layout.proofs.CellChars.{cell_chars, column_chars, lines_rows, placed_lines, down_chars, rule_line_chars}
use Rattle.mad_layout.proofs.DrawableTables.{TableContent, content_printable, kept_columns, rule_across_columns, widths_of, centered-widths, columns_with-widths, widths_small, map_some}
use Rattle.mad_layout.proofs.DrawnParts.{runs_are}
use Rattle.mad_blocks.proofs.TableWidths.{blanked_least, blanked_none, least_none}
use Rattle.mad_layout.proofs.KeptWidths.{AreTableRead, count_read, widths_kept}
use Rattle.mad_layout.proofs.PrefixLemmas.{follow_up_printable}
use Rattle.mad_layout.proofs.RowChars.{AreWidths, line_chars}
use Rattle.mad_layout.proofs.RowsAcross.{parts_are, HaveFirstRows, across_exist, some_same}
use Rattle.mad_layout.proofs.ColumnChars.{column_rule}
use Rattle.mad_rows.specs.Rows.{rule_chars}
use Rattle.mad_layout.proofs.WrapRows.{whole_parts, kept_rows, wrapped_rows}
use Rattle.mad_rows.specs.RowStyles.{line_rules}
use Rattle.mad_layout.proofs.SoundLines.{AreSoundCells, IsSoundPrefix, IsSoundText, AreSoundLines}

-- ---- a cell in its column

one_in_column : (skin : RowSkin) (c : Spacing) (k : CompositeKind) (l : FmtComposite) → c.width < 2 ^ 64 - 1 → IsSoundPrefix skin k → l.kind ≡ k → IsMeasured (line_rules skin) l → columns_of (line_rules skin) l ≤ c.width
    → cell_chars skin (in_column c l) ≡ row_in_column skin c k (text_of l)
one_in_column skin c k l bound prefix kind measured fits =
    let same : l.visible_length ≡ columns_of (line_rules skin) l = omega (arith, measured, fits, bound) in
    column_chars skin c l (subst (IsSoundPrefix skin) (sym kind) prefix) same ∙ ap (λ (x : CompositeKind). row_in_column skin c x (text_of l)) kind

others_in_column : (skin : RowSkin) (c : Spacing) (k : CompositeKind) (ls : List FmtComposite) → c.width < 2 ^ 64 - 1 → IsSoundPrefix skin (follow_up k) → HaveKinds (follow_up k) (follow_up k) ls → AllByRecursion (IsMeasured (line_rules skin)) ls
    → LinesFit (indent skin.list_items_indentation_mode (follow_up k)) (room_of (line_rules skin) k c.width) (map flagged_text (line_compounds ls)) → lines_rows skin c ls ≡ map (row_in_column skin c (follow_up k)) (map flagged_text (line_compounds ls))
others_in_column skin c k [] bound prefix kinds measured fits = refl
others_in_column skin c k (l ∷ ls) bound prefix kinds measured fits =
    let own : indent skin.list_items_indentation_mode l.kind ≡ indent skin.list_items_indentation_mode (follow_up k) = ap (indent skin.list_items_indentation_mode) kinds.0 in
    let first = one_in_column skin c (follow_up k) l bound prefix kinds.0 measured.0 (omega (arith, own, fits.0)) in
    let rest = others_in_column skin c k ls bound prefix kinds.1 measured.1 fits.1 in
    ap (λ x. x ∷ lines_rows skin c ls) first ∙ ap (λ xs. row_in_column skin c (follow_up k) (text_of l) ∷ xs) rest

wrap_in_column : (skin : RowSkin) (c : Spacing) (k : CompositeKind) (ls : List FmtComposite) → c.width < 2 ^ 64 - 1 → IsSoundPrefix skin k → HaveKinds k (follow_up k) ls → AllByRecursion (IsMeasured (line_rules skin)) ls
    → LinesFit (indent skin.list_items_indentation_mode k) (room_of (line_rules skin) k c.width) (map flagged_text (line_compounds ls)) → lines_rows skin c ls ≡ rows_in_column skin c k (map flagged_text (line_compounds ls))
wrap_in_column skin c k [] bound prefix kinds measured fits = refl
wrap_in_column skin c k (l ∷ ls) bound prefix kinds measured fits =
    let own : indent skin.list_items_indentation_mode l.kind ≡ indent skin.list_items_indentation_mode k = ap (indent skin.list_items_indentation_mode) kinds.0 in
    let first = one_in_column skin c k l bound prefix kinds.0 measured.0 (omega (arith, own, fits.0)) in
    let rest = others_in_column skin c k ls bound (follow_up_printable skin k prefix) kinds.1 measured.1 fits.1 in
    ap (λ x. x ∷ lines_rows skin c ls) first ∙ ap (λ xs. row_in_column skin c k (text_of l) ∷ xs) rest

-- the lines of a cell are rows of it
abbrev HasRowsIn : RowSkin → Spacing → CompositeKind → List (List FlaggedChar) → List FmtComposite → Type 0
HasRowsIn skin c k parts ls = (rows : List (List FlaggedChar)) × AreRowsOf (room_of (line_rules skin) k c.width) parts rows × (lines_rows skin c ls ≡ rows_in_column skin c k rows)

cell_rows : (skin : RowSkin) (c : Spacing) (cell : FmtComposite) (ls : List FmtComposite) → c.width < 2 ^ 64 - 1 → IsMeasured (line_rules skin) cell → IsSoundText skin c.width cell.kind (map run_of cell.compounds.items)
    → IsCellLaidOut IsCompositeWrap (line_rules skin) c.width cell ls → HasRowsIn skin c cell.kind (map flagged_of cell.compounds.items) ls
cell_rows skin c cell ls bound measured printable (inl (fits, same)) =
    let inside : columns_of (line_rules skin) cell ≤ c.width = omega (arith, measured, fits, bound) in (
      text_of cell ∷ [],
      kept_rows (room_of (line_rules skin) cell.kind c.width) (text_of cell) (map flagged_of cell.compounds.items) (whole_parts cell.compounds.items) inside,
      ap (lines_rows skin c) same ∙ ap (λ x. x ∷ []) (one_in_column skin c cell.kind cell bound printable.prefix refl measured inside),
    )
cell_rows skin c cell ls bound measured printable (inr (wide, wraps)) =
    let ps = cell.compounds.items in
    let r : Room = room_of (line_rules skin) cell.kind c.width in
    let premise = λ (t : List FlaggedChar). c.width < indent skin.list_items_indentation_mode cell.kind + width_of t → HasRoom r t in
    let room_where : premise (text_of cell) = subst premise (runs_are ps) printable.room in
    let room : HasRoom r (text_of cell) = room_where (omega (arith, measured, wide)) in
    let passes : r.width < r.first + width_of (flagged_text ps) = omega (arith, measured, wide) in
    (map flagged_text (line_compounds ls), wrapped_rows r ps (line_compounds ls) passes wraps.wrap, wrap_in_column skin c cell.kind ls bound printable.prefix wraps.made.kinds wraps.made.measured (by_fits r.whole_words r ps (line_compounds ls) wraps.wrap room))

said_cell : (skin : RowSkin) (c : Spacing) (said : StyledRuns) (cell : FmtComposite) (ls : List FmtComposite) → IsCompositeRead (line_rules skin) said cell → HasRowsIn skin c cell.kind (map flagged_of cell.compounds.items) ls
    → HasRowsIn skin c (kind_of said.style) (marked_parts said) ls
said_cell skin c said cell ls read h =
    let parts : map flagged_of cell.compounds.items ≡ marked_parts said = sym (ap (map (λ (r : Run). flagged r.flags (chars r.text))) (sym read.text) ∙ parts_are cell.compounds.items) in
    subst (λ (k : CompositeKind). HasRowsIn skin c k (marked_parts said) ls) read.kind (subst (λ (ps : List (List FlaggedChar)). HasRowsIn skin c cell.kind ps ls) parts h)

-- ---- a row

none_printable : (skin : RowSkin) (ws : List ℕ) → AreSoundCells skin ws []
none_printable skin [] = tt
none_printable skin (w ∷ ws) = tt

cells_in_columns : (skin : RowSkin) (cs : List Spacing) (said : List StyledRuns) (cells : List FmtComposite) (lines : List (List FmtComposite)) → AllByRecursion (λ c. c.width < 2 ^ 64 - 1) cs → AreCompositesRead (line_rules skin) said cells
    → AreSoundCells skin (widths_of cs) cells → AreCellsLaidOut IsCompositeWrap (line_rules skin) cs cells lines → AreInColumns skin cs said (placed_lines skin cs lines)
cells_in_columns skin [] said cells lines bound read printable laid = refl
cells_in_columns skin (c ∷ cs) said cells [] bound read printable laid = absurd laid
cells_in_columns skin (c ∷ cs) [] [] (ls ∷ lines) bound read printable laid =
    let rest : List CellInColumn = placed_lines skin cs lines in (
      rest,
      ap (λ (xs : List FmtComposite). record { width = c.width; rows = lines_rows skin c xs } ∷ rest) laid.0,
      cells_in_columns skin cs [] [] lines bound.1 tt (none_printable skin (widths_of cs)) laid.1,
    )
cells_in_columns skin (c ∷ cs) (s ∷ ss) (cell ∷ cells) (ls ∷ lines) bound read printable laid =
    let rest : List CellInColumn = placed_lines skin cs lines in
    let own = said_cell skin c s cell ls read.0 (cell_rows skin c cell ls bound.0 printable.0 printable.1 laid.0) in (
      own.0,
      rest,
      own.1,
      ap (λ (xs : List (List ℕ)). record { width = c.width; rows = xs } ∷ rest) own.2,
      cells_in_columns skin cs ss cells lines bound.1 read.1 printable.2 laid.1,
    )
cells_in_columns skin _ _ _ _ bound read printable laid = absurd read

as_tall : (skin : RowSkin) (cs : List Spacing) (cells : List FmtComposite) (lines : List (List FmtComposite)) → AreCellsLaidOut IsCompositeWrap (line_rules skin) cs cells lines → most_rows (placed_lines skin cs lines) ≡ tallest lines
as_tall skin [] cells [] laid = refl
as_tall skin (c ∷ cs) cells (ls ∷ lines) laid =
    let rest : most_rows (placed_lines skin cs lines) ≡ tallest lines = as_tall skin cs (below cells) lines laid.1 in
    let own : length (lines_rows skin c ls) ≡ length ls = length-map ls (λ l. cell_chars skin (in_column c l)) in
    omega (arith, rest, own)
as_tall skin _ cells _ laid = absurd laid

row_is_across : (skin : RowSkin) (drawn : ℕ) (cs : List Spacing) (said : List StyledRuns) (cells : List FmtComposite) (rows : List FmtTableRow) → AllByRecursion (λ c. c.width < 2 ^ 64 - 1) cs → AreCompositesRead (line_rules skin) said cells
    → AreSoundCells skin (widths_of cs) cells → IsRowLaidOutBy IsCompositeWrap (line_rules skin) cs cells rows → IsRowAcross skin drawn cs said (map (line_chars skin drawn) (map TableRow rows))
row_is_across skin drawn cs said cells rows bound read printable laid =
    let placed : List CellInColumn = placed_lines skin cs laid.lines in
    let same : most_rows placed ≡ tallest laid.lines = as_tall skin cs cells laid.lines laid.laid_out in
    let tall : length rows ≡ max (tallest laid.lines) 1 = laid.count in
    let count : length rows ≡ max (most_rows placed) 1 = omega (arith, tall, same) in (
      placed,
      cells_in_columns skin cs said cells laid.lines bound read printable laid.laid_out,
      down_chars skin drawn cs laid.lines rows laid.rows_are ∙ ap (λ n. map (table_across skin drawn (1 + bordered (with_blanks skin.cell_blanks (widths_of cs)))) (rows_down skin n placed)) count,
    )

-- ---- a line in its table

below-widths : (ws : List ℕ) (aligns : Option (List Alignment)) → widths_of (columns_below ws aligns) ≡ ws
below-widths ws None = centered-widths ws
below-widths ws (Some aligns) = columns_with-widths ws aligns

-- a line of a table that was laid out in its part, in columns of these widths
pub record IsLaidIn (skin : RowSkin) (width : ℕ) (ws : List ℕ) (x : LineInPart) (l : FmtLine) (own : List FmtLine) : Type 0 where
  pub widths : ws ≡ kept_widths skin width x.part
  pub table : is_table_line l ≡ true
  pub read : IsLineRead (line_rules skin) x.line l
  pub laid : IsTableLineBy IsCompositeWrap (line_rules skin) (columns_below ws x.aligns) x.position l own

line_rows : (skin : RowSkin) (width drawn : ℕ) (ws : List ℕ) (x : LineInPart) (c : LineContent) (l : FmtLine) (own : List FmtLine) → AreWidths width drawn → 1 + bordered (with_blanks skin.cell_blanks ws) ≤ width → ws ≡ kept_widths skin width x.part
    → TableContent skin width ws l → IsLineRead (line_rules skin) c l → is_table_line l ≡ true → IsTableLineBy IsCompositeWrap (line_rules skin) (columns_below ws x.aligns) x.position l own
    → (0 < length own) × IsAcross skin width drawn x c (map (line_chars skin drawn) own)
line_rows skin width drawn ws x (normal said) (Normal l) own bound fit is content read table laid = absurd (cc)
line_rows skin width drawn ws x (table_row cells) (TableRow row) own bound fit is content read table (rows, same, laid) =
    let cs : List Spacing = columns_below ws x.aligns in
    let widths : widths_of cs ≡ ws = below-widths ws x.aligns in
    let inside : 1 + bordered (with_blanks skin.cell_blanks (widths_of cs)) ≤ width = subst (λ vs. 1 + bordered (with_blanks skin.cell_blanks vs) ≤ width) (sym widths) fit in
    let without : 1 + bordered (widths_of cs) ≤ width = let least = blanked_least skin.cell_blanks (widths_of cs) in omega (arith, inside, least) in
    let printable : AreSoundCells skin (widths_of cs) row.cells.items = subst (λ vs. AreSoundCells skin vs row.cells.items) (sym widths) content.printable in
    let across = row_is_across skin drawn cs cells row.cells.items rows (widths_small width cs (omega (arith, bound.narrower, bound.small)) without) read printable laid in
    let count : length rows ≡ max _ 1 = laid.count in
    subst (λ (ls : List FmtLine). (0 < length ls) × IsAcross skin width drawn x (table_row cells) (map (line_chars skin drawn) ls)) (sym same)
    (map_some rows (omega (arith, count)), subst (λ vs. IsRowAcross skin drawn (columns_below vs x.aligns) cells (map (line_chars skin drawn) (map TableRow rows))) is across)
line_rows skin width drawn ws x (table_rule aligns) (TableRule source) own bound fit is content read table (rule, same, laid) =
    let cs : List Spacing = columns_below ws x.aligns in
    let widths : widths_of cs ≡ ws = below-widths ws x.aligns in
    let inside : 1 + bordered (with_blanks skin.cell_blanks (widths_of cs)) ≤ width = subst (λ vs. 1 + bordered (with_blanks skin.cell_blanks vs) ≤ width) (sym widths) fit in
    let small : width < 2 ^ 64 - 1 = omega (arith, bound.narrower, bound.small) in
    let wide = laid.widths_are ∙ rule_across_columns skin.cell_blanks width cs small inside ∙ ap (with_blanks skin.cell_blanks) widths in
    let chars = rule_line_chars skin drawn x.position ws rule (column_rule skin (rule_chars skin.table_border_chars x.position) (content.borders.rules x.position)) laid.position_is wide in
    subst (λ (ls : List FmtLine). (0 < length ls) × IsAcross skin width drawn x (table_rule aligns) (map (line_chars skin drawn) ls)) (sym same)
    (omega arith, ap (λ (t : List ℕ). t ∷ []) (chars ∙ ap (rule_across skin drawn x.position) is))
line_rows skin width drawn ws x horizontal_rule HorizontalRule own bound fit is content read table laid = absurd (cc)
line_rows skin width drawn ws x _ _ own bound fit is content read _ _ = absurd read

-- ---- the lines of a table

-- so was each of the lines, one after the other
abbrev pub AreLaidIn : RowSkin → ℕ → List ℕ → List LineInPart → List FmtLine → List FmtLine → Type 0
AreLaidIn skin width ws [] [] lines = lines ≡ []
AreLaidIn skin width ws (x ∷ xs) (l ∷ ls) lines = (own : List FmtLine) × (others : List FmtLine) × (lines ≡ own ++ others) × IsLaidIn skin width ws x l own × AreLaidIn skin width ws xs ls others
AreLaidIn skin width ws _ _ lines = ⊥

-- The first rows of these lines and of those after them, whose rows are there for any number of lines that keep the premises.
pub table_front : (skin : RowSkin) (width drawn : ℕ) (n : ℕ) (ws : List ℕ) (xs ys : List LineInPart) (read own others : List FmtLine) → AreWidths width drawn → 1 + bordered (with_blanks skin.cell_blanks ws) ≤ width
    → ((m : ℕ) → AreSoundLines skin width (take m ys) → HaveFirstRows skin width drawn m ys others)
    → AreSoundLines skin width (take n (xs ++ ys)) → AreLaidIn skin width ws xs read own → HaveFirstRows skin width drawn n (xs ++ ys) (own ++ others)
table_front skin width drawn zero ws xs ys read own others bound fit later keeps laid = let all = across_exist skin width drawn (xs ++ ys) in (all.0, all.1, refl)
table_front skin width drawn (suc n) ws [] ys [] own others bound fit later keeps laid = subst (λ (ls : List FmtLine). HaveFirstRows skin width drawn (suc n) ys (ls ++ others)) (sym laid) (later (suc n) keeps)
table_front skin width drawn (suc n) ws (x ∷ xs) ys (l ∷ ls) own others bound fit later keeps (here, there, joins, h, more) =
    let chars_of : List FmtLine → List (List ℕ) = map (line_chars skin drawn) in
    let content : TableContent skin width ws l = content_printable skin width x.part ws x.line l (kept_columns skin width x.part ws h.widths) keeps.0 h.read h.table in
    let first = line_rows skin width drawn ws x x.line l here bound fit h.widths content h.read h.table h.laid in
    let rest = table_front skin width drawn n ws xs ys ls there others bound fit later keeps.1 more in
    let count : 0 < length (chars_of here) = omega (arith, first.0, length-map here (line_chars skin drawn)) in
    let lines : own ++ others ≡ here ++ (there ++ others) = ap (λ (ls : List FmtLine). ls ++ others) joins ∙ append_assoc here there others in (
      chars_of here ++ rest.0,
      (chars_of here, rest.0, refl, first.1, rest.1),
      some_same (chars_of here) rest.0 (chars_of (there ++ others)) n count rest.2 ∙ ap (take (suc n)) (sym (ap chars_of lines ∙ map-append (line_chars skin drawn) here (there ++ others))),
    )
table_front skin width drawn _ ws _ ys _ own others bound fit later keeps laid = absurd laid

-- ---- lines of a table in their part

as_long : (skin : RowSkin) (cs : List LineContent) (ls : List FmtLine) → AreTableRead skin cs ls → length ls ≡ length cs
as_long skin [] [] h = refl
as_long skin (c ∷ cs) (l ∷ ls) h = let rest : length ls ≡ length cs = as_long skin cs ls h.1 in omega (arith, rest)
as_long skin _ _ h = absurd h

columns_at : (skin : RowSkin) (ws : List ℕ) (above : Option (List Alignment)) (c : LineContent) (l : FmtLine) → IsLineRead (line_rules skin) c l → is_table_line l ≡ true → columns_from ws (columns_below ws above) l ≡ columns_below ws (aligns_at above c)
columns_at skin ws above (normal said) (Normal l) read table = refl
columns_at skin ws above (table_row cells) (TableRow row) read table = refl
columns_at skin ws above (table_rule aligns) (TableRule rule) read table = ap (columns_with ws) read.aligns_are
columns_at skin ws above horizontal_rule HorizontalRule read table = refl
columns_at skin ws above _ _ read _ = absurd read

laid_in : (skin : RowSkin) (width : ℕ) (ws : List ℕ) (part : List LineContent) (above : Option (List Alignment)) (first : Bool) (cs : List LineContent) (ls own : List FmtLine) → ws ≡ kept_widths skin width part → (columns_among part == 0) ≡ false
    → AreTableRead skin cs ls → AreTableLinesBy IsCompositeWrap (line_rules skin) ws (columns_below ws above) first ls own → AreLaidIn skin width ws (lines_in part above first cs) ls own
laid_in skin width ws part above first [] [] own is some reads laid = laid
laid_in skin width ws part above first (c ∷ cs) (l ∷ ls) own is some reads (here, there, joins, one, more) =
    let columns = columns_at skin ws above c l reads.0.read reads.0.line in
    let place : position_at first (length ls == 0) ≡ position_in part first (length cs == 0) =
    ap (λ n. position_at first (n == 0)) (as_long skin cs ls reads.1) ∙ ap (λ (b : Bool). if b then Other else position_at first (length cs == 0)) (sym some) in (
      here,
      there,
      joins,
      record {
        widths = is;
        table = reads.0.line;
        read = reads.0.read;
        laid = subst (λ (p : RelativePosition). IsTableLineBy IsCompositeWrap (line_rules skin) (columns_below ws (aligns_at above c)) p l here) place
            (subst (λ (xs : List Spacing). IsTableLineBy IsCompositeWrap (line_rules skin) xs (position_at first (length ls == 0)) l here) columns one);
      },
      laid_in skin width ws part (aligns_at above c) false cs ls there is some reads.1 (subst (λ (xs : List Spacing). AreTableLinesBy IsCompositeWrap (line_rules skin) ws xs false ls there) columns more),
    )
laid_in skin width ws part above first _ _ own is some reads _ = absurd reads

-- ---- a table without columns

no_columns_shared : (available : ℕ) → column_widths available [] ≡ []
unfolding column_widths
no_columns_shared available = let test : nat_le 0 available ≡ true = grind (arith, nat_tests) in ap (λ (b : Bool). if b then [] else after_second available []) test

no_columns : (whole_words : Bool) (available : ℕ) → widths_by whole_words available [] [] ≡ []
unfolding word_widths
no_columns true available =
    let test : nat_le 0 available ≡ true = grind (arith, nat_tests) in
    let given : List ℕ → List ℕ = λ ws. narrowed (raised ws []) (grants [] (second_requests (sum (raised ws []) - available) (counted_from (raised ws []) [])) (sum (raised ws []) - available)) in
    ap (λ (ws : List ℕ). if nat_le 0 available then given ws else ws) (no_columns_shared available) ∙ ap (λ (b : Bool). if b then [] else []) test
no_columns false available = no_columns_shared available

no_widths : (skin : RowSkin) (width : ℕ) (part : List LineContent) → 0 < width → columns_among part ≡ 0 → [] ≡ kept_widths skin width part
no_widths skin width part some none =
    let blanks : Bool = skin.cell_blanks in
    let left : ℕ → ℕ = λ n. without_blanks blanks n width - 1 - n in
    let fits : ℕ → Bool = λ n. nat_le (least_room blanks n) width in
    let narrow : List ℕ = replicate (most_columns blanks width) 3 in
    let one : nat_le 1 width ≡ true = grind (arith, nat_tests) in
    let test : fits 0 ≡ true = ap (λ k. nat_le k width) (least_none blanks) ∙ one in
    sym (ap (λ n. if fits n then widths_by skin.whole_words (left n) (first_columns n (cells_among skin part)) (first_columns n (words_among skin part)) else narrow) none
    ∙ ap (λ (b : Bool). if b then widths_by skin.whole_words (left 0) [] [] else narrow) test
    ∙ no_columns skin.whole_words (left 0))

none_below : (aligns : Option (List Alignment)) → columns_below [] aligns ≡ []
none_below None = refl
none_below (Some aligns) = refl

no_items : {A : Type 0} (xs : List A) → length xs ≡ 0 → xs ≡ []
no_items {A} [] h = refl
no_items {A} (x ∷ xs) h = absurd (omega (arith, h))

bare_line : (skin : RowSkin) (position : RelativePosition) (c : LineContent) (l : FmtLine) → position ≡ Other → IsLineRead (line_rules skin) c l → is_table_line l ≡ true → columns_in l ≡ 0 → IsTableLineBy IsCompositeWrap (line_rules skin) [] position l (l ∷ [])
bare_line skin position (normal said) (Normal l) other read table none = refl
bare_line skin position (table_row cells) (TableRow row) other read table none =
    (row ∷ [], refl, record { lines = []; laid_out = tt; count = refl; rows_are = (subst (tables.IsLineAcross [] []) (sym (no_items row.cells.items none)) tt, tt) })
bare_line skin position (table_rule aligns) (TableRule rule) other read table none =
    (rule, refl, record { position_is = read.position ∙ sym other; widths_are = read.widths; aligns_are = no_items rule.aligns.items none })
bare_line skin position horizontal_rule HorizontalRule other read table none = refl
bare_line skin position _ _ other read _ none = absurd read

bare_in : (skin : RowSkin) (width : ℕ) (part : List LineContent) (above : Option (List Alignment)) (first : Bool) (cs : List LineContent) (ls : List FmtLine) → [] ≡ kept_widths skin width part → columns_among part ≡ 0 → columns_count ls ≡ 0
    → AreTableRead skin cs ls → AreLaidIn skin width [] (lines_in part above first cs) ls ls
bare_in skin width part above first [] [] is none empty reads = refl
bare_in skin width part above first (c ∷ cs) (l ∷ ls) is none empty reads =
    let aligns = aligns_at above c in
    let place : RelativePosition = position_in part first (length cs == 0) in
    let other : place ≡ Other = ap (λ n. if n == 0 then Other else position_at first (length cs == 0)) none in
    let own : columns_in l ≡ 0 = omega (arith, empty) in (
      l ∷ [],
      ls,
      refl,
      record {
        widths = is;
        table = reads.0.line;
        read = reads.0.read;
        laid = subst (λ (xs : List Spacing). IsTableLineBy IsCompositeWrap (line_rules skin) xs place l (l ∷ [])) (sym (none_below aligns)) (bare_line skin place c l other reads.0.read reads.0.line own);
      },
      bare_in skin width part aligns false cs ls is none (omega (arith, empty)) reads.1,
    )
bare_in skin width part above first _ _ is none empty reads = absurd reads

-- ---- a table

-- The first rows of a table and of the lines after it.
pub table_rows_across : (skin : RowSkin) (width drawn : ℕ) (n : ℕ) (part : List LineContent) (ys : List LineInPart) (read own others : List FmtLine) → AreWidths width drawn → 3 ≤ width
    → ((m : ℕ) → AreSoundLines skin width (take m ys) → HaveFirstRows skin width drawn m ys others)
    → AreSoundLines skin width (take n (lines_in part None true part ++ ys)) → AreTableRead skin part read
    → IsTableLaidOutBy IsCompositeWrap (line_rules skin) (columns_count read) width read own → HaveFirstRows skin width drawn n (lines_in part None true part ++ ys) (own ++ others)
table_rows_across skin width drawn n part ys read own others bound wide later keeps reads (inl (inl none, stays)) =
    let empty : columns_among part ≡ 0 = sym (count_read skin part read reads) ∙ none in
    subst (λ (ls : List FmtLine). HaveFirstRows skin width drawn n (lines_in part None true part ++ ys) (ls ++ others)) (sym stays)
    (table_front skin width drawn n [] (lines_in part None true part) ys read read others bound (let none_wide = blanked_none skin.cell_blanks in omega (arith, none_wide, wide)) later keeps
    (bare_in skin width part None true part read (no_widths skin width part (omega (arith, wide)) empty) empty none reads))
table_rows_across skin width drawn n part ys read own others bound wide later keeps reads (inl (inr none, stays)) = absurd (omega (arith, none, wide))
table_rows_across skin width drawn n part ys read own others bound wide later keeps reads (inr (some, place, (ws, kept, laid))) =
    let fit : 1 + bordered (with_blanks skin.cell_blanks ws) ≤ width = let inside : bordered (with_blanks skin.cell_blanks ws) + 1 ≤ width = kept.fit in omega (arith, inside) in
    let count : columns_count read ≡ columns_among part = count_read skin part read reads in
    let columns : (columns_among part == 0) ≡ false = grind (arith, nat_tests) in
    table_front skin width drawn n ws (lines_in part None true part) ys read own others bound fit later keeps
    (laid_in skin width ws part None true part read own (widths_kept skin width part read ws reads kept) columns reads laid)
