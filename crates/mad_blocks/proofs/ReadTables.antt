-- Tables as they were read: the columns of their cells, and what their lines become one after another.
use Rattle.std.proofs.Common.{◌≡◌, ℕ, zero, suc, ◌+◌, ◌-◌, ◌/◌, ◌^◌, ◌<◌, ◌≤◌, ◌⊎◌, inl, inr, Bool, true, false, ◌==◌, List, [], ◌∷◌, ◌++◌, map, length, drop, replicate, max, refl, ap, sym, ◌∙◌, subst, arith, add-one, Result, Ok, Err, IfOk}
use Rattle.std.specs.Global.{Vec}
use Rattle.std.specs.List.{flat_map}
use Rattle.std.specs.Str.{chars}
use Rattle.std.proofs.lemmas.List.{length-map}
use Rattle.mad_md.specs.Flagged.{FlaggedChar, flagged, flagged_of, flagged_text, run_of}
use Rattle.mad_md.specs.Lines.{StyledRuns, LineContent, content_of, normal, styled_runs, table_row, table_rule, horizontal_rule}
use Rattle.mad_md.specs.declared.composite.Composite.{Composite}
use Rattle.mad_md.specs.declared.compound.Compound.{Compound}
use Rattle.mad_md.specs.declared.line.Line.{Line}
use Rattle.mad_md.specs.declared.line.Line.TheVariants as read
use Rattle.mad_md.specs.declared.line.TableRow.{TableRow as ReadRow}
use Rattle.mad_style.specs.Kinds.{kind_of}
use Rattle.mad_style.specs.declared.kinds.CompositeKind.{CompositeKind}
use Rattle.mad_measure.specs.TextColumns.{width_of}
use Rattle.mad_measure.specs.declared.spacing.Spacing.{Spacing}
use Rattle.mad_wrap.specs.WrapLines.{capped}
use Rattle.mad_widths.specs.SeenCells.{TableHasSeen, cell_added}
use Rattle.mad_widths.specs.declared.tbl_fit.TblFit.{TblFit}
use Rattle.mad_format.specs.CompositeWraps.{IsCompositeWrap}
use Rattle.mad_format.specs.FmtLines.{AreCompositesRead, IsCompositeRead, IsLineRead}
use Rattle.mad_format.specs.Indents.{indent}
use Rattle.mad_format.specs.LineRules.{LineRules}
use Rattle.mad_format.specs.Wraps.{text_of}
use Rattle.mad_format.specs.declared.composite.FmtComposite.{FmtComposite}
use Rattle.mad_format.specs.declared.line.FmtLine.{FmtLine}
use Rattle.mad_format.specs.declared.line.FmtLine.TheVariants.{Normal, TableRow, TableRule, HorizontalRule}
use Rattle.mad_format.specs.declared.table.FmtTableRow.{FmtTableRow}
use Rattle.mad_format.specs.declared.table.RelativePosition.{RelativePosition}
use Rattle.mad_sections.specs.CellWords.{longest_word}
use Rattle.mad_blocks.specs.Layouts.{AreRead}
use Rattle.mad_blocks.specs.TableCursors.{BecomesBy}
use Rattle.mad_blocks.specs.Tables.{columns_count, columns_from, columns_in, measure_of, measures_in, position_at, most_columns, without_blanks, AreKeptWidths, AreSetWidths, AreTableLinesBy, IsTableLineBy, IsTableLaidOutBy, centered}
use Rattle.mad_blocks.specs.TextParts.{columns_among, count_in}
use Rattle.mad_blocks.proofs.TableWidths.{CellsSeen, RowsSeen, set_narrow, set_wide, rows_seen_more, rows_seen_other, seen_more}

-- ---- what was read, one by one

-- as many lines as were read
pub read_length : (skin : LineRules) (cs : List LineContent) (ls : List FmtLine) → AreRead skin cs ls → length ls ≡ length cs
read_length skin [] [] h = refl
read_length skin (c ∷ cs) (l ∷ ls) h = ap suc (read_length skin cs ls h.1)
read_length skin _ _ h = absurd h

-- the line at a place is what was read there
read_at : (skin : LineRules) (cs : List LineContent) (ls : List FmtLine) (i : ℕ) (c : LineContent) (after : List LineContent) → AreRead skin cs ls → drop i cs ≡ c ∷ after → (l : FmtLine) × (drop i ls ≡ l ∷ drop (suc i) ls) × IsLineRead skin c l
read_at skin [] ls i c after h next = absurd (none i next)
  where
    none : (i : ℕ) → drop i [] ≡ c ∷ after → ⊥
    none zero e = cc
    none (suc i) e = cc
read_at skin (d ∷ ds) [] i c after h next = absurd h
read_at skin (d ∷ ds) (l ∷ ls) zero c after h next = (l, refl, subst (λ (e : LineContent). IsLineRead skin e l) (cc) h.0)
read_at skin (d ∷ ds) (l ∷ ls) (suc i) c after h next = read_at skin ds ls i c after h.1 next

cell_at : (skin : LineRules) (cs : List StyledRuns) (ls : List FmtComposite) (i : ℕ) (c : StyledRuns) (after : List StyledRuns) → AreCompositesRead skin cs ls → drop i cs ≡ c ∷ after → (l : FmtComposite) × (drop i ls ≡ l ∷ drop (suc i) ls) × IsCompositeRead skin c l
cell_at skin [] ls i c after h next = absurd (none i next)
  where
    none : (i : ℕ) → drop i [] ≡ c ∷ after → ⊥
    none zero e = cc
    none (suc i) e = cc
cell_at skin (d ∷ ds) [] i c after h next = absurd h
cell_at skin (d ∷ ds) (l ∷ ls) zero c after h next = (l, refl, subst (λ (e : StyledRuns). IsCompositeRead skin e l) (cc) h.0)
cell_at skin (d ∷ ds) (l ∷ ls) (suc i) c after h next = cell_at skin ds ls i c after h.1 next

cells_end : (skin : LineRules) (cs : List StyledRuns) (ls : List FmtComposite) (i : ℕ) → AreCompositesRead skin cs ls → drop i cs ≡ [] → drop i ls ≡ []
cells_end skin [] [] i h none = none_left i
  where
    none_left : (i : ℕ) → drop {A = FmtComposite} i [] ≡ []
    none_left zero = refl
    none_left (suc i) = refl
cells_end skin [] (l ∷ ls) i h none = absurd h
cells_end skin (c ∷ cs) [] i h none = absurd h
cells_end skin (c ∷ cs) (l ∷ ls) zero h none = absurd (cc)
cells_end skin (c ∷ cs) (l ∷ ls) (suc i) h none = cells_end skin cs ls i h.1 none

lines_end : (skin : LineRules) (cs : List LineContent) (ls : List FmtLine) (i : ℕ) → AreRead skin cs ls → drop i cs ≡ [] → drop i ls ≡ []
lines_end skin [] [] i h none = none_left i
  where
    none_left : (i : ℕ) → drop {A = FmtLine} i [] ≡ []
    none_left zero = refl
    none_left (suc i) = refl
lines_end skin [] (l ∷ ls) i h none = absurd h
lines_end skin (c ∷ cs) [] i h none = absurd h
lines_end skin (c ∷ cs) (l ∷ ls) zero h none = absurd (cc)
lines_end skin (c ∷ cs) (l ∷ ls) (suc i) h none = lines_end skin cs ls i h.1 none

map_drop : {A B : Type 0} (f : A → B) (i : ℕ) (xs : List A) → drop i (map f xs) ≡ map f (drop i xs)
map_drop f zero xs = refl
map_drop f (suc i) [] = refl
map_drop f (suc i) (x ∷ xs) = map_drop f i xs

-- ---- how many columns

cells_count : (skin : LineRules) (said : List StyledRuns) (cells : List FmtComposite) → AreCompositesRead skin said cells → length cells ≡ length said
cells_count skin [] [] h = refl
cells_count skin (s ∷ ss) (l ∷ ls) h = ap suc (cells_count skin ss ls h.1)
cells_count skin _ _ h = absurd h

line_count : (skin : LineRules) (c : LineContent) (l : FmtLine) → IsLineRead skin c l → columns_in l ≡ count_in c
line_count skin (normal said) (Normal l) h = refl
line_count skin (table_row cells) (TableRow row) h = cells_count skin cells row.cells.items h
line_count skin (table_rule aligns) (TableRule rule) h = ap length h.aligns_are
line_count skin horizontal_rule HorizontalRule h = refl
line_count skin _ _ h = absurd h

-- the columns of the lines that were read are those that the text says
pub count_read : (skin : LineRules) (cs : List LineContent) (ls : List FmtLine) → AreRead skin cs ls → columns_count ls ≡ columns_among cs
count_read skin [] [] h = refl
count_read skin (c ∷ cs) (l ∷ ls) h = let own : columns_in l ≡ count_in c = line_count skin c l h.0 in let rest : columns_count ls ≡ columns_among cs = count_read skin cs ls h.1 in omega (arith, own, rest)
count_read skin _ _ h = absurd h

-- ---- the columns of a cell

abbrev said_text : List Compound → List FlaggedChar
said_text ps = flat_map (λ r. flagged r.flags (chars r.text)) (map run_of ps)

text_is_said : (ps : List Compound) → flagged_text ps ≡ said_text ps
text_is_said [] = refl
text_is_said (p ∷ ps) = ap (λ xs. flagged_of p ++ xs) (text_is_said ps)

text_read : (skin : LineRules) (cell : Composite) (l : FmtComposite) → IsCompositeRead skin (styled_runs cell) l → text_of l ≡ flagged_text cell.compounds.items
text_read skin cell l h = text_is_said l.compounds.items ∙ ap (flat_map (λ r. flagged r.flags (chars r.text))) h.text ∙ sym (text_is_said cell.compounds.items)

-- the longest word of a cell's text is that of the cell as it was read
pub word_read : (skin : LineRules) (cell : Composite) (l : FmtComposite) (n : ℕ) → n ≡ capped (longest_word (flagged_text cell.compounds.items)) → IsCompositeRead skin (styled_runs cell) l → n ≡ measure_of true l
word_read skin cell l n is h = is ∙ ap (λ (t : List FlaggedChar). capped (longest_word t)) (sym (text_read skin cell l h))

-- the columns of a cell's text, with its indent, are those of the cell as it was read
pub length_read : (skin : LineRules) (cell : Composite) (l : FmtComposite) (n : ℕ) (kind : CompositeKind) (mode : _) → mode ≡ skin.list_items_indentation_mode → kind ≡ kind_of cell.style → n ≡ capped (indent mode kind + width_of (flagged_text cell.compounds.items)) → IsCompositeRead skin (styled_runs cell) l
    → n ≡ measure_of false l
length_read skin cell l n kind mode mode_is kind_is is h =
    is ∙ ap (λ m. capped (indent m kind + width_of (flagged_text cell.compounds.items))) mode_is ∙ ap (λ (k : CompositeKind). capped (indent skin.list_items_indentation_mode k + width_of (flagged_text cell.compounds.items))) (kind_is ∙ sym h.kind)
    ∙ ap (λ (t : List FlaggedChar). capped (indent skin.list_items_indentation_mode l.kind + width_of t)) (sym (text_read skin cell l h)) ∙ sym h.measured

-- ---- the cells of a row that was read

-- however the cells are read, so many of them were seen
abbrev pub ReadCellsSeen : LineRules → Bool → TblFit → TblFit → List Composite → ℕ → Type 0
ReadCellsSeen skin b before fit cells column = (read : List FmtComposite) → AreCompositesRead skin (map styled_runs cells) read → CellsSeen b before fit read column

-- one cell more was seen
pub read_cell_seen : (skin : LineRules) (b : Bool) (before fit after : TblFit) (cells rest : List Composite) (column : ℕ) (cell : Composite) (n : ℕ) → ReadCellsSeen skin b before fit cells column → drop column cells ≡ cell ∷ rest → ((l : FmtComposite) → IsCompositeRead skin (styled_runs cell) l → n ≡ measure_of b l)
    → ((width : ℕ) (seen : List (List ℕ)) → TableHasSeen fit width seen → TableHasSeen after width (cell_added seen column n)) → ReadCellsSeen skin b before after cells (column + 1)
read_cell_seen skin b before fit after cells rest column cell n held next measured sees read h =
    let (l, there, is) = cell_at skin (map styled_runs cells) read column (styled_runs cell) (map styled_runs rest) h (map_drop styled_runs column cells ∙ ap (map styled_runs) next) in
    seen_more b before fit after read column l (held read h) (there ∙ ap (λ k. l ∷ drop k read) (sym (add-one column)))
    (λ width seen s. subst (λ k. TableHasSeen after width (cell_added seen column k)) (measured l is) (sees width seen s))

-- no cell is left where none is left of the text
pub read_cells_end : (skin : LineRules) (cells : List Composite) (read : List FmtComposite) (column : ℕ) → AreCompositesRead skin (map styled_runs cells) read → drop column cells ≡ [] → drop column read ≡ []
read_cells_end skin cells read column h none = cells_end skin (map styled_runs cells) read column h (map_drop styled_runs column cells ∙ ap (map styled_runs) none)

-- ---- the rows of a table that was read

-- however the lines are read, the rows of so many of them were seen
abbrev pub ReadRowsSeen : LineRules → Bool → TblFit → TblFit → List Line → ℕ → Type 0
ReadRowsSeen skin b before fit table i = (read : List FmtLine) → AreRead skin (map content_of table) read → RowsSeen b before fit read i

row_of : (skin : LineRules) (cells : List StyledRuns) (l : FmtLine) → IsLineRead skin (table_row cells) l → (row : FmtTableRow) × (l ≡ TableRow row) × AreCompositesRead skin cells row.cells.items
row_of skin cells (TableRow row) h = (row, refl, h)
row_of skin cells _ h = absurd h

-- one row more was seen
pub read_row_seen : (skin : LineRules) (b : Bool) (before fit after : TblFit) (table rest : List Line) (i : ℕ) (line : Line) (row : ReadRow) → ReadRowsSeen skin b before fit table i → drop i table ≡ line ∷ rest → line ≡ read.TableRow row
    → ((read : List FmtComposite) → AreCompositesRead skin (map styled_runs row.cells.items) read → (width n : ℕ) (rows : List (List FmtComposite)) → TableHasSeen fit width (measures_in b n rows) → TableHasSeen after width (measures_in b n (rows ++ read ∷ [])))
    → ReadRowsSeen skin b before after table (i + 1)
read_row_seen skin b before fit after table rest i line row held next is sees read h =
    let here : drop i (map content_of table) ≡ table_row (map styled_runs row.cells.items) ∷ map content_of rest = map_drop content_of i table ∙ ap (map content_of) next ∙ ap (λ (l : Line). content_of l ∷ map content_of rest) is in
    let (l, there, was) = read_at skin (map content_of table) read i (table_row (map styled_runs row.cells.items)) (map content_of rest) h here in
    let (made, row_is, cells) = row_of skin (map styled_runs row.cells.items) l was in
    rows_seen_more b before fit after read i made (held read h) (there ∙ ap (λ k. l ∷ drop k read) (sym (add-one i)) ∙ ap (λ (x : FmtLine). x ∷ drop (i + 1) read) row_is) (sees made.cells.items cells)

no_row : (skin : LineRules) (line : Line) (l : FmtLine) → ((row : ReadRow) → line ≡ read.TableRow row → ⊥) → IsLineRead skin (content_of line) l → (row : FmtTableRow) → l ≡ TableRow row → ⊥
no_row skin (read.TableRow row) l other h made is = other row refl
no_row skin (read.Normal composite) (Normal l) other h made is = cc
no_row skin (read.TableRule cells) (TableRule l) other h made is = cc
no_row skin read.HorizontalRule HorizontalRule other h made is = cc
no_row skin _ _ other h made is = h

-- one line more was seen that is no row
pub read_other_seen : (skin : LineRules) (b : Bool) (before fit : TblFit) (table rest : List Line) (i : ℕ) (line : Line) → ReadRowsSeen skin b before fit table i → drop i table ≡ line ∷ rest → ((row : ReadRow) → line ≡ read.TableRow row → ⊥) → ReadRowsSeen skin b before fit table (i + 1)
read_other_seen skin b before fit table rest i line held next other read h =
    let here : drop i (map content_of table) ≡ content_of line ∷ map content_of rest = map_drop content_of i table ∙ ap (map content_of) next in
    let (l, there, was) = read_at skin (map content_of table) read i (content_of line) (map content_of rest) h here in
    rows_seen_other b before fit read i l (held read h) (there ∙ ap (λ k. l ∷ drop k read) (sym (add-one i))) (no_row skin line l other was)

-- no line is left where none is left of the text
pub read_rows_end : (skin : LineRules) (table : List Line) (read : List FmtLine) (i : ℕ) → AreRead skin (map content_of table) read → drop i table ≡ [] → drop i read ≡ []
read_rows_end skin table read i h none = lines_end skin (map content_of table) read i h (map_drop content_of i table ∙ ap (map content_of) none)

-- ---- the widths

-- columns that are more than fit have the least width, however the lines are read
pub read_narrow : {E : Type 0} (r : Result (Vec ℕ) E) (skin : LineRules) (n width : ℕ) (cs : List LineContent) → 0 < width → most_columns skin.cell_blanks width < n → IfOk r (λ ws. ws.items ≡ replicate (most_columns skin.cell_blanks width) 3)
    → IfOk r (λ ws. (read : List FmtLine) → AreRead skin cs read → AreSetWidths skin.whole_words skin.cell_blanks n width read ws.items)
read_narrow {E} (Ok ws) skin n width cs some few is = λ read h. set_narrow skin.whole_words skin.cell_blanks n width read ws.items some few is
read_narrow {E} (Err e) skin n width cs some few is = tt

-- the widths that a table keeps beside its blanks are those that it has, however the lines are read
pub read_wide : {E : Type 0} (r : Result (Vec ℕ) E) (skin : LineRules) (n width : ℕ) (cs : List LineContent) → 0 < width → n ≤ most_columns skin.cell_blanks width
    → IfOk r (λ ws. (read : List FmtLine) → AreRead skin cs read → AreKeptWidths skin.whole_words n (without_blanks skin.cell_blanks n width) read ws.items)
    → IfOk r (λ ws. (read : List FmtLine) → AreRead skin cs read → AreSetWidths skin.whole_words skin.cell_blanks n width read ws.items)
read_wide {E} (Ok ws) skin n width cs some few kept = λ read h. set_wide skin.whole_words skin.cell_blanks n width read ws.items some few (kept read h)
read_wide {E} (Err e) skin n width cs some few kept = tt

-- the lines that were read are fewer than 2^64
pub read_few : (skin : LineRules) (table : List Line) (read : List FmtLine) → AreRead skin (map content_of table) read → length table < 2 ^ 64 → length read < 2 ^ 64
read_few skin table read h few = omega (arith, read_length skin (map content_of table) read h, length-map table content_of, few)

-- the greatest count of columns, after one line more
pub count_more : (table : List Line) (i : ℕ) (line : Line) (count new all : ℕ) → drop i table ≡ line ∷ drop (i + 1) table → max count (columns_among (map content_of (drop i table))) ≡ all → new ≡ max (count_in (content_of line)) count
    → max new (columns_among (map content_of (drop (i + 1) table))) ≡ all
count_more table i line count new all next held is =
    let here : columns_among (map content_of (drop i table)) ≡ max (count_in (content_of line)) (columns_among (map content_of (drop (i + 1) table))) = ap (λ (ls : List Line). columns_among (map content_of ls)) next in
    omega (arith, here, held, is)

-- ---- line by line

-- what becomes of lines that were read
abbrev pub Become : LineRules → List LineContent → Bool → List ℕ → List Spacing → Bool → List FmtLine → Type 0
Become skin cs stays widths columns first lines = (read : List FmtLine) × AreRead skin cs read × BecomesBy skin stays widths columns first read lines

-- nothing becomes of no lines
pub nothing_becomes : (skin : LineRules) (cs : List LineContent) (stays : Bool) (widths : List ℕ) (columns : List Spacing) (first : Bool) → cs ≡ [] → Become skin cs stays widths columns first []
nothing_becomes skin cs stays widths columns first none = ([], subst (λ (ds : List LineContent). AreRead skin ds []) (sym none) tt, by stays)
  where
    by : (s : Bool) → BecomesBy skin s widths columns first [] []
    by true = refl
    by false = refl

-- the next line stays, and the rest becomes what it does
pub line_stays : (skin : LineRules) (widths : List ℕ) (columns : List Spacing) (first : Bool) (cs after : List LineContent) (c : LineContent) (made : FmtLine) (stays : Bool) (more : List FmtLine) → stays ≡ true → cs ≡ c ∷ after → IsLineRead skin c made
    → Become skin after stays widths columns first more → Become skin cs stays widths columns first (made ∷ more)
line_stays skin widths columns first cs after c made false more is next said h = absurd (cc)
line_stays skin widths columns first cs after c made true more is next said (read, reads, same) = (made ∷ read, subst (λ (ds : List LineContent). AreRead skin ds (made ∷ read)) (sym next) (said, reads), ap (λ (ls : List FmtLine). made ∷ ls) same)

-- the next line is laid out, and the rest becomes what it does
pub line_laid : (skin : LineRules) (widths : List ℕ) (columns new_columns : List Spacing) (first : Bool) (position : RelativePosition) (left : ℕ) (cs after : List LineContent) (c : LineContent) (made : FmtLine) (stays : Bool) (own more : List FmtLine)
    → stays ≡ false → cs ≡ c ∷ after → IsLineRead skin c made → new_columns ≡ columns_from widths columns made → left ≡ length after → position ≡ position_at first (left == 0) → IsTableLineBy IsCompositeWrap skin new_columns position made own
    → Become skin after stays widths new_columns false more → Become skin cs stays widths columns first (own ++ more)
line_laid skin widths columns new_columns first position left cs after c made true own more is next said columns_are left_is position_is part h = absurd (cc)
line_laid skin widths columns new_columns first position left cs after c made false own more is next said columns_are left_is position_is part (read, reads, laid) =
    let here : List Spacing = columns_from widths columns made in
    let same : left ≡ length read = left_is ∙ sym (read_length skin after read reads) in
    let placed : IsTableLineBy IsCompositeWrap skin here (position_at first (length read == 0)) made own =
    subst (λ (p : RelativePosition). IsTableLineBy IsCompositeWrap skin here p made own) (position_is ∙ ap (λ (n : ℕ). position_at first (n == 0)) same) (subst (λ (xs : List Spacing). IsTableLineBy IsCompositeWrap skin xs position made own) columns_are part) in (
      made ∷ read,
      subst (λ (ds : List LineContent). AreRead skin ds (made ∷ read)) (sym next) (said, reads),
      (own, more, refl, placed, subst (λ (xs : List Spacing). AreTableLinesBy IsCompositeWrap skin widths xs false read more) columns_are laid),
    )

-- ---- from the first line on

-- lines that all stay are the layout of a table without columns, or without width
pub table_stays : (skin : LineRules) (width n : ℕ) (cs lines_left : List LineContent) (widths : List ℕ) (columns : List Spacing) (lines : List FmtLine) → lines_left ≡ cs → n ≡ columns_among cs → (n ≡ 0) ⊎ (width ≡ 0) → Become skin lines_left true widths columns true lines
    → (read : List FmtLine) × AreRead skin cs read × IsTableLaidOutBy IsCompositeWrap skin (columns_count read) width read lines
table_stays skin width n cs lines_left widths columns lines same count none (read, reads, is) =
    let all : AreRead skin cs read = subst (λ (ds : List LineContent). AreRead skin ds read) same reads in
    let counted : columns_count read ≡ n = count_read skin cs read all ∙ sym count in
    (read, all, inl (subst (λ (k : ℕ). (k ≡ 0) ⊎ (width ≡ 0)) (sym counted) none, is))

-- lines that are laid out one by one are the layout of their table
pub table_by_lines : (skin : LineRules) (width n : ℕ) (cs lines_left : List LineContent) (widths : List ℕ) (columns : List Spacing) (lines : List FmtLine) → lines_left ≡ cs → n ≡ columns_among cs → 0 < n → 0 < width → ((read : List FmtLine) → AreRead skin cs read → AreSetWidths skin.whole_words skin.cell_blanks n width read widths)
    → columns ≡ centered widths → Become skin lines_left false widths columns true lines → (read : List FmtLine) × AreRead skin cs read × IsTableLaidOutBy IsCompositeWrap skin (columns_count read) width read lines
table_by_lines skin width n cs lines_left widths columns lines same count some wide kept columns_are (read, reads, laid) =
    let all : AreRead skin cs read = subst (λ (ds : List LineContent). AreRead skin ds read) same reads in
    let counted : n ≡ columns_count read = count ∙ sym (count_read skin cs read all) in (
      read,
      all,
      inr (omega (arith, counted, some), wide, (widths, subst (λ (k : ℕ). AreSetWidths skin.whole_words skin.cell_blanks k width read widths) counted (kept read all), subst (λ (xs : List Spacing). AreTableLinesBy IsCompositeWrap skin widths xs true read lines) columns_are laid)),
    )
