-- The kept widths of a table are those that its text says.
use Rattle.std.proofs.Common.{◌≡◌, ℕ, ◌+◌, ◌-◌, ◌*◌, ◌/◌, ◌<◌, ◌≤◌, Bool, true, false, List, [], ◌∷◌, map, length, replicate, if◌then◌else◌, nat_le, refl, ap, ap₂, sym, ◌∙◌, subst, arith}
use Rattle.std.proofs.lemmas.Bool.Decides.{nat_tests}
use Rattle.mad_md.specs.Flagged.{FlaggedChar}
use Rattle.mad_md.specs.Lines.{StyledRuns, LineContent, normal, table_row, table_rule, horizontal_rule}
use Rattle.mad_style.specs.Kinds.{kind_of}
use Rattle.mad_style.specs.declared.kinds.CompositeKind.{CompositeKind}
use Rattle.mad_sections.specs.CellWords.{longest_word}
use Rattle.mad_measure.specs.TextColumns.{width_of}
use Rattle.mad_wrap.specs.WrapLines.{capped}
use Rattle.mad_blocks.specs.TextParts.{is_table}
use Rattle.mad_layout.specs.FlaggedTables.{count_in, columns_among, kept_widths}
use Rattle.mad_layout.specs.TableColumns.{measure_among, measures_among, cells_among, words_among}
use Rattle.mad_format.specs.Indents.{indent}
use Rattle.mad_format.specs.FmtLines.{AreCompositesRead, IsCompositeRead, IsLineRead, is_table_line}
use Rattle.mad_layout.specs.Premises.{runs_text}
use Rattle.mad_blocks.proofs.TableWidths.{room_left}
use Rattle.mad_blocks.specs.Tables.{rows_among, first_columns, measure_of, lengths_in, words_in, widths_by, least_room, most_columns, without_blanks, AreSetWidths, columns_count, columns_in}
use Rattle.mad_format.specs.Wraps.{text_of}
use Rattle.mad_rows.specs.declared.row_skin.RowSkin.{RowSkin}
use Rattle.mad_format.specs.declared.composite.FmtComposite.{FmtComposite}
use Rattle.mad_format.specs.declared.line.FmtLine.{FmtLine}
use Rattle.mad_format.specs.declared.line.FmtLine.TheVariants.{Normal, TableRow, TableRule, HorizontalRule}
use Rattle.mad_layout.proofs.DrawnParts.{runs_are}
use Rattle.mad_blocks.proofs.LayoutJoins.{by_bool}
use Rattle.mad_rows.specs.RowStyles.{line_rules}

-- ---- what was read of a table

-- a line of a table, and what was read of it
pub record IsTableLineRead (skin : RowSkin) (c : LineContent) (l : FmtLine) : Type 0 where
  pub table : is_table c ≡ true
  pub line : is_table_line l ≡ true
  pub read : IsLineRead (line_rules skin) c l

-- the lines of a table, and what was read of each
abbrev pub AreTableRead : RowSkin → List LineContent → List FmtLine → Type 0
AreTableRead skin [] [] = Unit {0}
AreTableRead skin (c ∷ cs) (l ∷ ls) = IsTableLineRead skin c l × AreTableRead skin cs ls
AreTableRead skin _ _ = ⊥

-- ---- the widths

counts_read : (skin : RowSkin) (said : List StyledRuns) (cells : List FmtComposite) → AreCompositesRead (line_rules skin) said cells → length cells ≡ length said
counts_read skin [] [] h = refl
counts_read skin (s ∷ ss) (l ∷ ls) h = let rest : length ls ≡ length ss = counts_read skin ss ls h.1 in omega (arith, rest)
counts_read skin _ _ h = absurd h

measure_read : (b : Bool) (skin : RowSkin) (s : StyledRuns) (l : FmtComposite) → IsCompositeRead (line_rules skin) s l → measure_of b l ≡ measure_among b skin s
measure_read true skin s l h =
    let text : text_of l ≡ runs_text s.runs = sym (ap runs_text (sym h.text) ∙ runs_are l.compounds.items) in
    ap (λ (t : List FlaggedChar). capped (longest_word t)) text
measure_read false skin s l h =
    let text : text_of l ≡ runs_text s.runs = sym (ap runs_text (sym h.text) ∙ runs_are l.compounds.items) in
    h.measured ∙ ap (λ (k : CompositeKind). capped (indent skin.list_items_indentation_mode k + width_of (text_of l))) h.kind ∙ ap (λ (t : List FlaggedChar). capped (indent skin.list_items_indentation_mode (kind_of s.style) + width_of t)) text

measures_read : (b : Bool) (skin : RowSkin) (said : List StyledRuns) (cells : List FmtComposite) → AreCompositesRead (line_rules skin) said cells → map (measure_of b) cells ≡ map (measure_among b skin) said
measures_read b skin [] [] h = refl
measures_read b skin (s ∷ ss) (l ∷ ls) h =
    ap (λ n. n ∷ map (measure_of b) ls) (measure_read b skin s l h.0) ∙ ap (λ ns. measure_among b skin s ∷ ns) (measures_read b skin ss ls h.1)
measures_read b skin _ _ h = absurd h

line_count : (skin : RowSkin) (c : LineContent) (l : FmtLine) → IsLineRead (line_rules skin) c l → columns_in l ≡ count_in c
line_count skin (normal said) (Normal l) read = refl
line_count skin (table_row cells) (TableRow row) read = counts_read skin cells row.cells.items read
line_count skin (table_rule aligns) (TableRule rule) read = ap length read.aligns_are
line_count skin horizontal_rule HorizontalRule read = refl
line_count skin _ _ read = absurd read

-- what was read of a table has as many columns as its text says
pub count_read : (skin : RowSkin) (cs : List LineContent) (ls : List FmtLine) → AreTableRead skin cs ls → columns_count ls ≡ columns_among cs
count_read skin [] [] h = refl
count_read skin (c ∷ cs) (l ∷ ls) h =
    let own : columns_in l ≡ count_in c = line_count skin c l h.0.read in
    let rest : columns_count ls ≡ columns_among cs = count_read skin cs ls h.1 in
    omega (arith, own, rest)
count_read skin _ _ h = absurd h

cells_read : (b : Bool) (skin : RowSkin) (cs : List LineContent) (ls : List FmtLine) → AreTableRead skin cs ls → map (λ cells. map (measure_of b) cells) (rows_among ls) ≡ measures_among b skin cs
cells_read b skin [] [] h = refl
cells_read b skin (normal said ∷ cs) (Normal l ∷ ls) h = cells_read b skin cs ls h.1
cells_read b skin (normal said ∷ cs) (TableRow row ∷ ls) h = absurd h.0.read
cells_read b skin (normal said ∷ cs) (TableRule rule ∷ ls) h = absurd h.0.read
cells_read b skin (normal said ∷ cs) (HorizontalRule ∷ ls) h = absurd h.0.read
cells_read b skin (table_row cells ∷ cs) (Normal l ∷ ls) h = absurd h.0.read
cells_read b skin (table_row cells ∷ cs) (TableRow row ∷ ls) h =
    ap (λ (r : List ℕ). r ∷ map (λ cells. map (measure_of b) cells) (rows_among ls)) (measures_read b skin cells row.cells.items h.0.read) ∙ ap (λ rs. map (measure_among b skin) cells ∷ rs) (cells_read b skin cs ls h.1)
cells_read b skin (table_row cells ∷ cs) (TableRule rule ∷ ls) h = absurd h.0.read
cells_read b skin (table_row cells ∷ cs) (HorizontalRule ∷ ls) h = absurd h.0.read
cells_read b skin (table_rule aligns ∷ cs) (Normal l ∷ ls) h = absurd h.0.read
cells_read b skin (table_rule aligns ∷ cs) (TableRow row ∷ ls) h = absurd h.0.read
cells_read b skin (table_rule aligns ∷ cs) (TableRule rule ∷ ls) h = cells_read b skin cs ls h.1
cells_read b skin (table_rule aligns ∷ cs) (HorizontalRule ∷ ls) h = absurd h.0.read
cells_read b skin (horizontal_rule ∷ cs) (Normal l ∷ ls) h = absurd h.0.read
cells_read b skin (horizontal_rule ∷ cs) (TableRow row ∷ ls) h = absurd h.0.read
cells_read b skin (horizontal_rule ∷ cs) (TableRule rule ∷ ls) h = absurd h.0.read
cells_read b skin (horizontal_rule ∷ cs) (HorizontalRule ∷ ls) h = cells_read b skin cs ls h.1
cells_read b skin _ _ h = absurd h

-- the kept widths of what was read of a table are those that its text says
pub widths_kept : (skin : RowSkin) (width : ℕ) (cs : List LineContent) (ls : List FmtLine) (ws : List ℕ) → AreTableRead skin cs ls → AreSetWidths skin.whole_words skin.cell_blanks (columns_count ls) width ls ws → ws ≡ kept_widths skin width cs
widths_kept skin width cs ls ws reads set =
    let b : Bool = skin.cell_blanks in
    let n : ℕ = columns_among cs in
    let count : columns_count ls ≡ n = count_read skin cs ls reads in
    let shared : List ℕ = widths_by skin.whole_words (without_blanks b n width - 1 - n) (first_columns n (cells_among skin cs)) (first_columns n (words_among skin cs)) in
    let narrow : List ℕ = replicate (most_columns b width) 3 in
    by_bool (λ t. nat_le (least_room b n) width ≡ t → ws ≡ (if t then shared else narrow)) (nat_le (least_room b n) width)
    (λ on e. let room : least_room b n ≤ width = grind (arith, nat_tests) in
    let fits : least_room b (columns_count ls) ≤ width = subst (λ (k : ℕ). least_room b k ≤ width) (sym count) room in
    (set.wide fits).are (room_left b (columns_count ls) width fits) ∙ ap (λ k. widths_by skin.whole_words (without_blanks b k width - 1 - k) (lengths_in k (rows_among ls)) (words_in k (rows_among ls))) count
    ∙ ap₂ (λ cells words. widths_by skin.whole_words (without_blanks b n width - 1 - n) cells words) (ap (first_columns n) (cells_read false skin cs ls reads)) (ap (first_columns n) (cells_read true skin cs ls reads)))
    (λ off e. let less : width < least_room b n = grind (arith, nat_tests) in set.narrow (subst (λ (k : ℕ). width < least_room b k) (sym count) less)) refl
