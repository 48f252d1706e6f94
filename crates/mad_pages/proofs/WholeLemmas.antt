-- Tables that stay tables are whole.
use Rattle.std.proofs.Common.{◌≡◌, ◌≢◌, ◌⊎◌, inl, inr, ⊎_elim, ℕ, zero, suc, ◌+◌, ◌-◌, ◌*◌, ◌^◌, ◌<◌, ◌≤◌, ◌==◌, max, min, nat_le, Bool, true, false, not, ◌&&◌, List, [], ◌∷◌, ◌++◌, length, map, take, drop, sum, Option, Some, refl, ap, ap₂, sym, ◌∙◌, subst, arith, append-nil, if◌then◌else◌}
use Rattle.std.specs.List.{AllByRecursion, AllZip, flat_map}
use Rattle.std.proofs.lemmas.List.{drop-map}
use Rattle.std.proofs.lemmas.List.Sums.{sum_by-cons}
use Rattle.std.proofs.lemmas.Bool.Decides.{nat_tests}
use Rattle.mad_characters.specs.Columns.{char_columns}
use Rattle.mad_md.specs.Flagged.{FlaggedChar, is_blank}
use Rattle.mad_md.specs.Lines.{StyledRuns, LineContent, normal, table_row, table_rule, horizontal_rule}
use Rattle.mad_widths.specs.ColumnWidths.{widest}
use Rattle.mad_widths.specs.WordWidths.{least_of}
use Rattle.mad_measure.specs.TextColumns.{width_of}
use Rattle.mad_wrap.specs.WrapLines.{capped}
use Rattle.mad_format.specs.CompositeWraps.{IsCompositeWrap}
use Rattle.mad_format.specs.FmtLines.{bordered, IsCompositeRead, AreCompositesRead}
use Rattle.mad_format.specs.LineRules.{LineRules}
use Rattle.mad_format.specs.Lists.{EachBecomes}
use Rattle.mad_format.specs.Wraps.{text_of}
use Rattle.mad_format.specs.declared.composite.FmtComposite.{FmtComposite}
use Rattle.mad_format.specs.declared.line.FmtLine.{FmtLine}
use Rattle.mad_format.specs.declared.line.FmtLine.TheVariants.{Normal, TableRow, TableRule, HorizontalRule}
use Rattle.mad_blocks.specs.LayoutParts.{Part, table, with_table, parts_of, wrap_width, ArePartsAt}
use Rattle.mad_blocks.specs.Layouts.{AreRead, IsLayoutAt}
use Rattle.mad_blocks.specs.Tables.{centered, first_columns, measure_of, rows_among, columns_count as fmt_columns_count, least_room, table_rules, with_blanks, without_blanks, AreSetWidths, AreTableLinesBy}
use Rattle.mad_blocks.proofs.TableWidths.{room_left}
use Rattle.mad_sections.specs.Gutters.{room_at, room}
use Rattle.mad_sections.specs.Sections.{SectionContent}
use Rattle.mad_sections.specs.CellWords.{longest_from, longest_word}
use Rattle.mad_sections.specs.declared.table_rooms.TableRules.{TableRules}
use Rattle.mad_sections.specs.TableTexts.{runs_text, cell_text, are_table, columns_count, rows_in, longest_in, least_width, least_widths, has_room}
use Rattle.mad_sections.specs.UnfoldLaws.{IsListOf}
use Rattle.mad_sections.specs.Unfolded.{lacks_room, unfolded}
use Rattle.mad_sections.proofs.TableLemmas.{text_is_said, widths_count}
use Rattle.mad_sections.proofs.KeptLemmas.{list_when, stays_when}
use Rattle.mad_sections.proofs.Choices.{by_bool}
use Rattle.mad_pages.specs.PageLayouts.{IsSectionAt, BecomesAt}
use Rattle.mad_pages.specs.PageRows.{RowContent}
use Rattle.mad_pages.proofs.PageLemmas.{sections_are_layouts}
use Rattle.mad_pages.specs.WholeTables.{columns_of, KeepWords, IsWholeTable, TablesAreWhole, ListsAreNeeded}

-- ---- words

-- no word is longer than its text
word_within : (word : ℕ) (xs : List FlaggedChar) → longest_from word xs ≤ word + width_of xs
word_within word [] = omega arith
word_within word (x ∷ xs) = by_bool (λ t. (if t then max word (longest_from 0 xs) else longest_from (word + char_columns x.char) xs) ≤ word + (char_columns x.char + width_of xs)) (is_blank x)
    (λ e. let more = word_within 0 xs in omega (arith, more)) (λ e. let more = word_within (word + char_columns x.char) xs in omega (arith, more))

-- a cell that was read
pub record IsMeasuredAs (said : StyledRuns) (cell : FmtComposite) : Type 0 where
  pub word : measure_of true cell ≡ capped (longest_word (cell_text said))
  pub long : capped (longest_word (cell_text said)) ≤ measure_of false cell

cell_measured : (skin : LineRules) (said : StyledRuns) (cell : FmtComposite) → IsCompositeRead skin said cell → IsMeasuredAs said cell
cell_measured skin said cell read =
    let text : text_of cell ≡ cell_text said = text_is_said cell.compounds.items ∙ ap runs_text read.text in
    let words : longest_word (text_of cell) ≡ longest_word (cell_text said) = ap longest_word text in
    let within : longest_word (cell_text said) ≤ 0 + width_of (text_of cell) = let w = word_within 0 (text_of cell) in omega (arith, w, ap longest_word text) in
    record { word = ap capped words; long = omega (arith, read.measured, within) }

-- ---- columns

abbrev AreCellsMeasured : List StyledRuns → List FmtComposite → Type 0
AreCellsMeasured said cells = AllZip IsMeasuredAs said cells

abbrev AreRowsMeasured : List (List StyledRuns) → List (List FmtComposite) → Type 0
AreRowsMeasured said rows = AllZip AreCellsMeasured said rows

abbrev measures : Bool → List (List FmtComposite) → List (List ℕ)
measures by_word rows = map (λ cells. map (measure_of by_word) cells) rows

rest_measured : (said : List StyledRuns) (cells : List FmtComposite) → AreCellsMeasured said cells → AreCellsMeasured (drop 1 said) (drop 1 cells)
rest_measured [] [] h = tt
rest_measured [] (x ∷ cells) h = absurd h
rest_measured (s ∷ said) [] h = absurd h
rest_measured (s ∷ said) (x ∷ cells) h = h.1

rest_of_rows : (said : List (List StyledRuns)) (rows : List (List FmtComposite)) → AreRowsMeasured said rows → AreRowsMeasured (map (drop 1) said) (map (drop 1) rows)
rest_of_rows [] [] h = tt
rest_of_rows [] (r ∷ rows) h = absurd h
rest_of_rows (s ∷ said) [] h = absurd h
rest_of_rows (s ∷ said) (r ∷ rows) h = (rest_measured s r h.0, rest_of_rows said rows h.1)

measures_of_rest : (by_word : Bool) (rows : List (List FmtComposite)) → map (drop 1) (measures by_word rows) ≡ measures by_word (map (drop 1) rows)
measures_of_rest by_word [] = refl
measures_of_rest by_word (row ∷ rows) = ap₂ (λ (r : List ℕ) (rs : List (List ℕ)). r ∷ rs) (drop-map (measure_of by_word) 1 row) (measures_of_rest by_word rows)

-- the first column by its longest words, and by its cells' lengths
words_first : (said : List (List StyledRuns)) (rows : List (List FmtComposite)) → AreRowsMeasured said rows → widest (flat_map (take 1) (measures true rows)) ≡ capped (longest_in (flat_map (take 1) said))
words_first [] [] h = omega arith
words_first [] (r ∷ rows) h = absurd h
words_first (s ∷ said) [] h = absurd h
words_first ([] ∷ said) ([] ∷ rows) h = words_first said rows h.1
words_first ([] ∷ said) ((x ∷ xs) ∷ rows) h = absurd h.0
words_first ((c ∷ cs) ∷ said) ([] ∷ rows) h = absurd h.0
words_first ((c ∷ cs) ∷ said) ((x ∷ xs) ∷ rows) h = let more = words_first said rows h.1 in omega (arith, more, h.0.0.word)

lengths_first : (said : List (List StyledRuns)) (rows : List (List FmtComposite)) → AreRowsMeasured said rows → capped (longest_in (flat_map (take 1) said)) ≤ widest (flat_map (take 1) (measures false rows))
lengths_first [] [] h = omega arith
lengths_first [] (r ∷ rows) h = absurd h
lengths_first (s ∷ said) [] h = absurd h
lengths_first ([] ∷ said) ([] ∷ rows) h = lengths_first said rows h.1
lengths_first ([] ∷ said) ((x ∷ xs) ∷ rows) h = absurd h.0
lengths_first ((c ∷ cs) ∷ said) ([] ∷ rows) h = absurd h.0
lengths_first ((c ∷ cs) ∷ said) ((x ∷ xs) ∷ rows) h = let more = lengths_first said rows h.1 in omega (arith, more, h.0.0.long)

-- what laying out a table asks of a skin without blanks beside cells
abbrev bare : Bool → TableRules
bare whole = record { whole_words = whole; cell_blanks = false }

-- the least widths that the layout asks for
abbrev asked : ℕ → List (List FmtComposite) → List ℕ
asked n rows = least_of (first_columns n (measures false rows)) (first_columns n (measures true rows))

asked_more : (n : ℕ) (rows : List (List FmtComposite))
    → asked (suc n) rows ≡ min (max (widest (flat_map (take 1) (measures false rows))) 3) (max (widest (flat_map (take 1) (measures true rows))) 3) ∷ asked n (map (drop 1) rows)
asked_more n rows =
    ap₂ (λ (ls ws : List (List ℕ)). min (max (widest (flat_map (take 1) (measures false rows))) 3) (max (widest (flat_map (take 1) (measures true rows))) 3) ∷ least_of (first_columns n ls) (first_columns n ws)) (measures_of_rest false rows) (measures_of_rest true rows)

asked_sum : (n : ℕ) (said : List (List StyledRuns)) (rows : List (List FmtComposite)) → AreRowsMeasured said rows → sum (asked n rows) ≤ sum (least_widths (bare true) n said)
asked_sum zero said rows h = omega arith
asked_sum (suc n) said rows h =
    let more = asked_sum n (map (drop 1) said) (map (drop 1) rows) (rest_of_rows said rows h) in
    let one = ap sum (asked_more n rows) in
    let first = sum_by-cons (λ x. x) (min (max (widest (flat_map (take 1) (measures false rows))) 3) (max (widest (flat_map (take 1) (measures true rows))) 3)) (asked n (map (drop 1) rows)) in
    let own = sum_by-cons (λ x. x) (least_width (bare true) (flat_map (take 1) said)) (least_widths (bare true) n (map (drop 1) said)) in
    let word = words_first said rows h in
    omega (arith, more, one, first, own, word)

keeps_by : (n : ℕ) (said : List (List StyledRuns)) (rows : List (List FmtComposite)) (widths : List ℕ) → AreRowsMeasured said rows → AllZip (λ w l. l ≤ w) widths (asked n rows) → sum (least_widths (bare true) n said) < 2 ^ 64 - 1 → KeepWords widths (columns_of n said)
keeps_by zero said rows [] h k few = tt
keeps_by zero said rows (w ∷ widths) h k few = absurd k
keeps_by (suc n) said rows [] h k few = absurd (subst (AllZip (λ w l. l ≤ w) []) (asked_more n rows) k)
keeps_by (suc n) said rows (w ∷ widths) h k few =
    let both = subst (AllZip (λ w l. l ≤ w) (w ∷ widths)) (asked_more n rows) k in
    let own = sum_by-cons (λ x. x) (least_width (bare true) (flat_map (take 1) said)) (least_widths (bare true) n (map (drop 1) said)) in
    let word = words_first said rows h in
    let long = lengths_first said rows h in
    (omega (arith, own, few, word, long, both.0), keeps_by n (map (drop 1) said) (map (drop 1) rows) widths (rest_of_rows said rows h) both.1 (omega (arith, own, few)))

three_each : (whole : Bool) (n : ℕ) (rows : List (List StyledRuns)) → 3 * n ≤ sum (least_widths (bare whole) n rows)
three_each whole zero rows = omega arith
three_each true (suc n) rows =
    let more = three_each true n (map (drop 1) rows) in
    let own = sum_by-cons (λ x. x) (least_width (bare true) (flat_map (take 1) rows)) (least_widths (bare true) n (map (drop 1) rows)) in
    omega (arith, more, own)
three_each false (suc n) rows =
    let more = three_each false n (map (drop 1) rows) in
    let own = sum_by-cons (λ x. x) (least_width (bare false) (flat_map (take 1) rows)) (least_widths (bare false) n (map (drop 1) rows)) in
    omega (arith, more, own)

-- ---- what was read

cells_read : (skin : LineRules) (said : List StyledRuns) (cells : List FmtComposite) → AreCompositesRead skin said cells → AreCellsMeasured said cells × (length cells ≡ length said)
cells_read skin [] [] h = (tt, refl)
cells_read skin [] (x ∷ xs) h = absurd h
cells_read skin (s ∷ said) [] h = absurd h
cells_read skin (s ∷ said) (x ∷ xs) h = let more = cells_read skin said xs h.1 in ((cell_measured skin s x h.0, more.0), ap suc more.1)

rows_read : (skin : LineRules) (cs : List LineContent) (ls : List FmtLine) → AreRead skin cs ls → AreRowsMeasured (rows_in cs) (rows_among ls) × (fmt_columns_count ls ≡ columns_count cs)
rows_read skin [] [] h = (tt, refl)
rows_read skin [] (l ∷ ls) h = absurd h
rows_read skin (c ∷ cs) [] h = absurd h
rows_read skin (normal said ∷ cs) (Normal l ∷ ls) h = let more = rows_read skin cs ls h.1 in (more.0, ap (max 0) more.1)
rows_read skin (normal said ∷ cs) (TableRow row ∷ ls) h = absurd h.0
rows_read skin (normal said ∷ cs) (TableRule rule ∷ ls) h = absurd h.0
rows_read skin (normal said ∷ cs) (HorizontalRule ∷ ls) h = absurd h.0
rows_read skin (table_row cells ∷ cs) (Normal l ∷ ls) h = absurd h.0
rows_read skin (table_row cells ∷ cs) (TableRow row ∷ ls) h =
    let more = rows_read skin cs ls h.1 in
    let own = cells_read skin cells row.cells.items h.0 in
    ((own.0, more.0), ap₂ max own.1 more.1)
rows_read skin (table_row cells ∷ cs) (TableRule rule ∷ ls) h = absurd h.0
rows_read skin (table_row cells ∷ cs) (HorizontalRule ∷ ls) h = absurd h.0
rows_read skin (table_rule aligns ∷ cs) (Normal l ∷ ls) h = absurd h.0
rows_read skin (table_rule aligns ∷ cs) (TableRow row ∷ ls) h = absurd h.0
rows_read skin (table_rule aligns ∷ cs) (TableRule rule ∷ ls) h = let more = rows_read skin cs ls h.1 in (more.0, ap₂ max (ap length h.0.aligns_are) more.1)
rows_read skin (table_rule aligns ∷ cs) (HorizontalRule ∷ ls) h = absurd h.0
rows_read skin (horizontal_rule ∷ cs) (Normal l ∷ ls) h = absurd h.0
rows_read skin (horizontal_rule ∷ cs) (TableRow row ∷ ls) h = absurd h.0
rows_read skin (horizontal_rule ∷ cs) (TableRule rule ∷ ls) h = absurd h.0
rows_read skin (horizontal_rule ∷ cs) (HorizontalRule ∷ ls) h = let more = rows_read skin cs ls h.1 in (more.0, ap (max 0) more.1)

-- a table's lines are one part
one_part : (skin : LineRules) (c : LineContent) (cs : List LineContent) (l : FmtLine) (ls : List FmtLine) → are_table (c ∷ cs) ≡ true → AreRead skin (c ∷ cs) (l ∷ ls) → parts_of (l ∷ ls) ≡ table (l ∷ ls) ∷ []
one_part skin (normal said) cs l ls on h = absurd cc
one_part skin horizontal_rule cs l ls on h = absurd cc
one_part skin (table_row cells) cs (Normal l) ls on h = absurd h.0
one_part skin (table_row cells) cs (TableRule rule) ls on h = absurd h.0
one_part skin (table_row cells) cs HorizontalRule ls on h = absurd h.0
one_part skin (table_row cells) [] (TableRow row) [] on h = refl
one_part skin (table_row cells) [] (TableRow row) (m ∷ ms) on h = absurd h.1
one_part skin (table_row cells) (d ∷ ds) (TableRow row) [] on h = absurd h.1
one_part skin (table_row cells) (d ∷ ds) (TableRow row) (m ∷ ms) on h = ap (with_table (TableRow row)) (one_part skin d ds m ms on h.1)
one_part skin (table_rule aligns) cs (Normal l) ls on h = absurd h.0
one_part skin (table_rule aligns) cs (TableRow row) ls on h = absurd h.0
one_part skin (table_rule aligns) cs HorizontalRule ls on h = absurd h.0
one_part skin (table_rule aligns) [] (TableRule rule) [] on h = refl
one_part skin (table_rule aligns) [] (TableRule rule) (m ∷ ms) on h = absurd h.1
one_part skin (table_rule aligns) (d ∷ ds) (TableRule rule) [] on h = absurd h.1
one_part skin (table_rule aligns) (d ∷ ds) (TableRule rule) (m ∷ ms) on h = ap (with_table (TableRule rule)) (one_part skin d ds m ms on h.1)

-- ---- a table that has room

within_by : (m n : ℕ) → nat_le m n ≡ true → m ≤ n
within_by m n on = grind (arith, nat_tests, on)

least_fit : (whole : TableRules) (room : ℕ) (lines : List LineContent) → has_room whole room lines ≡ true → sum (least_widths whole (columns_count lines) (rows_in lines)) + columns_count lines + 1 ≤ room
least_fit whole room lines has =
    let fits = within_by (sum (least_widths whole (columns_count lines) (rows_in lines)) + length (least_widths whole (columns_count lines) (rows_in lines)) + 1) room has in
    let count = widths_count whole (columns_count lines) (rows_in lines) in
    omega (arith, fits, count)

-- the columns of the blanks of n columns
abbrev blanks_of : Bool → ℕ → ℕ
blanks_of true n = 2 * n
blanks_of false n = 0

no_blanks : (b : Bool) → blanks_of b 0 ≡ 0
no_blanks true = refl
no_blanks false = refl

more_blanks : (b : Bool) (n : ℕ) → blanks_of b (suc n) ≡ (if b then 2 else 0) + blanks_of b n
more_blanks true n = omega arith
more_blanks false n = refl

-- the least widths are those without blanks, and the blanks
blanks_sum : (rules : TableRules) (n : ℕ) (rows : List (List StyledRuns)) → sum (least_widths rules n rows) ≡ sum (least_widths (bare rules.whole_words) n rows) + blanks_of rules.cell_blanks n
blanks_sum rules zero rows = let none = no_blanks rules.cell_blanks in omega (arith, none)
blanks_sum rules (suc n) rows =
    let more = blanks_sum rules n (map (drop 1) rows) in
    let own = sum_by-cons (λ x. x) (least_width rules (flat_map (take 1) rows)) (least_widths rules n (map (drop 1) rows)) in
    let without = sum_by-cons (λ x. x) (least_width (bare rules.whole_words) (flat_map (take 1) rows)) (least_widths (bare rules.whole_words) n (map (drop 1) rows)) in
    let blanks = more_blanks rules.cell_blanks n in
    omega (arith, more, own, without, blanks)

room_for : (b : Bool) (n room total : ℕ) → 3 * n ≤ total → total + blanks_of b n + n + 1 ≤ room → least_room b n ≤ room
room_for true n room total three fits = omega (arith, three, fits)
room_for false n room total three fits = omega (arith, three, fits)

sum_beside : (b : Bool) (n room total : ℕ) → total + blanks_of b n + n + 1 ≤ room → total + n + 1 ≤ without_blanks b n room
sum_beside true n room total fits = omega (arith, fits)
sum_beside false n room total fits = omega (arith, fits)

kept_whole : (rules : LineRules) (room : ℕ) (lines : List LineContent) (read own : List FmtLine) (widths : List ℕ) → room < 2 ^ 64 → 0 < columns_count lines → has_room (table_rules rules) room lines ≡ true → AreRead rules lines read
    → AreSetWidths rules.whole_words rules.cell_blanks (columns_count lines) room read widths → AreTableLinesBy IsCompositeWrap rules widths (centered widths) true read own → IsWholeTable rules room lines own
kept_whole rules room lines read own widths bound some has reads kept laid =
    let n = columns_count lines in
    let w : Bool = rules.whole_words in
    let b : Bool = rules.cell_blanks in
    let fits = least_fit (table_rules rules) room lines has in
    let sums = blanks_sum (table_rules rules) n (rows_in lines) in
    let three = three_each w n (rows_in lines) in
    let inside : sum (least_widths (bare w) n (rows_in lines)) + blanks_of b n + n + 1 ≤ room = omega (arith, fits, sums) in
    let wide : least_room b n ≤ room = room_for b n room (sum (least_widths (bare w) n (rows_in lines))) three inside in
    let left : 4 * n + 1 ≤ without_blanks b n room = room_left b n room wide in
    let beside = kept.wide wide in
    let rows = rows_read rules lines read reads in
    record {
      read = read;
      reads = reads;
      widths = widths;
      kept = kept;
      laid = laid;
      all = beside.kept left;
      words = λ whole.
          let least : sum (least_widths (bare true) n (rows_in lines)) + blanks_of b n + n + 1 ≤ room = subst (λ (t : Bool). sum (least_widths (bare t) n (rows_in lines)) + blanks_of b n + n + 1 ≤ room) whole inside in
          let own : sum (least_widths (bare true) n (rows_in lines)) + n + 1 ≤ without_blanks b n room = sum_beside b n room (sum (least_widths (bare true) n (rows_in lines))) least in
          let less = asked_sum n (rows_in lines) (rows_among read) rows.0 in
          keeps_by n (rows_in lines) (rows_among read) widths rows.0 (beside.whole whole left (omega (arith, own, less))) (omega (arith, least, bound, some));
    }

abbrev IsOneTable : LineRules → ℕ → List FmtLine → List FmtLine → Type 0
IsOneTable rules room read rows = (widths : List ℕ) × AreSetWidths rules.whole_words rules.cell_blanks (fmt_columns_count read) room read widths × AreTableLinesBy IsCompositeWrap rules widths (centered widths) true read rows

one_table : (rules : LineRules) (room : ℕ) (width : Option ℕ) (read rows : List FmtLine) → 0 < fmt_columns_count read → 0 < room → ArePartsAt IsCompositeWrap rules room width (table read ∷ []) rows → IsOneTable rules room read rows
one_table rules room width read rows some wide (own, others, joins, part, none) =
    let same : own ≡ rows = sym (joins ∙ ap (λ (l : List FmtLine). own ++ l) none ∙ append-nil own) in
    subst (IsOneTable rules room read) same (⊎_elim (λ l. absurd (⊎_elim (λ e. omega (arith, e, some)) (λ e. omega (arith, e, wide)) l.0)) (λ r. r.2) part)

whole_table : (rules : LineRules) (room : ℕ) (lines : List LineContent) (rows : List FmtLine) → room < 2 ^ 64 → are_table lines ≡ true → 0 < columns_count lines → has_room (table_rules rules) room lines ≡ true → IsLayoutAt rules (Some room) lines rows → IsWholeTable rules room lines rows
whole_table rules room lines rows bound all some has layout = whole_read rules room lines layout.read rows bound all some has layout.reads layout.laid
  where
    whole_read : (rules : LineRules) (room : ℕ) (lines : List LineContent) (read rows : List FmtLine) → room < 2 ^ 64 → are_table lines ≡ true → 0 < columns_count lines → has_room (table_rules rules) room lines ≡ true → AreRead rules lines read
        → ArePartsAt IsCompositeWrap rules room (wrap_width (Some room)) (parts_of read) rows → IsWholeTable rules room lines rows
    whole_read rules room [] read rows bound all some has reads laid = absurd (omega (arith, some))
    whole_read rules room (c ∷ cs) [] rows bound all some has reads laid = absurd reads
    whole_read rules room (c ∷ cs) (l ∷ ls) rows bound all some has reads laid =
        let count = (rows_read rules (c ∷ cs) (l ∷ ls) reads).1 in
        let fits = least_fit (table_rules rules) room (c ∷ cs) has in
        let part = subst (λ (ps : List Part). ArePartsAt IsCompositeWrap rules room (wrap_width (Some room)) ps rows) (one_part rules c cs l ls all reads) laid in
        let one : IsOneTable rules room (l ∷ ls) rows = one_table rules room (wrap_width (Some room)) (l ∷ ls) rows (omega (arith, count, some)) (omega (arith, fits)) part in
        kept_whole rules room (c ∷ cs) (l ∷ ls) rows one.0 bound some has reads (subst (λ (n : ℕ). AreSetWidths rules.whole_words rules.cell_blanks n room (l ∷ ls) one.0) count one.1) one.2

-- ---- sections

no_lack : (whole : TableRules) (room : ℕ) (lines : List LineContent) → has_room whole room lines ≡ true → lacks_room whole room lines ≡ false
no_lack whole room lines has = ap (λ t. are_table lines && not (length (rows_in lines) == 0) && not t) has ∙ by_bool (λ t. (t && not (length (rows_in lines) == 0) && false) ≡ false) (are_table lines) (λ e. by_bool (λ t. (not t && false) ≡ false) (length (rows_in lines) == 0) (λ k. refl) (λ k. refl)) (λ e. refl)

some_row : (rows : List (List StyledRuns)) → rows ≢ [] → (length rows == 0) ≡ false
some_row [] h = absurd (h refl)
some_row (row ∷ rows) h = grind (arith, nat_tests)

a_lack : (whole : TableRules) (room : ℕ) (lines : List LineContent) → are_table lines ≡ true → rows_in lines ≢ [] → has_room whole room lines ≡ false → lacks_room whole room lines ≡ true
a_lack whole room lines all some none =
    ap (λ t. t && not (length (rows_in lines) == 0) && not (has_room whole room lines)) all ∙ ap (λ t. not t && not (has_room whole room lines)) (some_row (rows_in lines) some) ∙ ap (λ t. not t) none

one_layout : (rules : LineRules) (ascii : Bool) (width : ℕ) (section : SectionContent) (rows : List RowContent) → unfolded (table_rules rules) ascii (Some width) section ≡ section ∷ [] → BecomesAt rules ascii (Some width) section rows
    → IsLayoutAt rules (Some (room_at ascii width section.gutters)) section.lines (map (λ (row : RowContent). row.line) rows)
one_layout rules ascii width section rows stays becomes = (sections_are_layouts rules ascii (Some width) section rows (one_of (subst (λ (all : List SectionContent). EachBecomes (IsSectionAt rules ascii (Some width)) all rows) stays becomes))).layout
  where
    one_of : EachBecomes (IsSectionAt rules ascii (Some width)) (section ∷ []) rows → IsSectionAt rules ascii (Some width) section rows
    one_of (own, others, joins, here, none) = subst (IsSectionAt rules ascii (Some width) section) (sym (joins ∙ ap (λ (l : List RowContent). own ++ l) none ∙ append-nil own)) here

-- a table is shown as its list, or as a whole table
pub tables_are_whole : TablesAreWhole
tables_are_whole rules ascii width section gutters rows bound all some filled list becomes =
    let room = room_at ascii width section.gutters in
    let small : room < 2 ^ 64 = omega (arith, bound) in
    by_bool (λ t. has_room (table_rules rules) room section.lines ≡ t → IsListOf section (unfolded (table_rules rules) ascii (Some width) section) ⊎ IsWholeTable rules room section.lines (map (λ (row : RowContent). row.line) rows)) (has_room (table_rules rules) room section.lines)
    (λ e has. inr (whole_table rules room section.lines (map (λ (row : RowContent). row.line) rows) small all some has (one_layout rules ascii width section rows (stays_when (table_rules rules) ascii width section gutters list (no_lack (table_rules rules) room section.lines has)) becomes)))
    (λ e lacks. inl (list_when (table_rules rules) ascii width section gutters list (a_lack (table_rules rules) room section.lines all filled lacks))) refl

-- ---- lists are needed

all_borders : (widths : List ℕ) → bordered widths ≡ sum widths + length widths
all_borders [] = omega arith
all_borders (w ∷ widths) = let more = all_borders widths in let own = sum_by-cons (λ x. x) w widths in omega (arith, more, own)

blanked_borders : (b : Bool) (widths : List ℕ) → bordered (with_blanks b widths) ≡ sum widths + length widths + blanks_of b (length widths)
blanked_borders true [] = omega arith
blanked_borders true (w ∷ widths) = let more = blanked_borders true widths in let own = sum_by-cons (λ x. x) w widths in omega (arith, more, own)
blanked_borders false widths = let all = all_borders widths in omega (arith, all)

least_sum : (whole : Bool) (n : ℕ) (rows : List (List StyledRuns)) (widths : List ℕ) → AllByRecursion (λ (w : ℕ). 3 ≤ w) widths → length widths ≡ n → (whole ≡ true → KeepWords widths (columns_of n rows)) → sum (least_widths (bare whole) n rows) ≤ sum widths
least_sum whole zero rows widths three count keep = omega arith
least_sum whole (suc n) rows [] three count keep = absurd (omega (arith, count))
least_sum true (suc n) rows (w ∷ widths) three count keep =
    let more = least_sum true n (map (drop 1) rows) widths three.1 (omega (arith, count)) (λ e. (keep e).1) in
    let own = sum_by-cons (λ x. x) (least_width (bare true) (flat_map (take 1) rows)) (least_widths (bare true) n (map (drop 1) rows)) in
    let sums = sum_by-cons (λ x. x) w widths in
    let word = (keep refl).0 in
    omega (arith, more, own, sums, word, three.0)
least_sum false (suc n) rows (w ∷ widths) three count keep =
    let more = least_sum false n (map (drop 1) rows) widths three.1 (omega (arith, count)) (λ e. absurd cc) in
    let own = sum_by-cons (λ x. x) (least_width (bare false) (flat_map (take 1) rows)) (least_widths (bare false) n (map (drop 1) rows)) in
    let sums = sum_by-cons (λ x. x) w widths in
    omega (arith, more, own, sums, three.0)

past_by : (m n : ℕ) → nat_le m n ≡ false → n < m
past_by m n off = grind (arith, nat_tests, off)

-- where a table has no room, no widths are wide enough that fit side by side
pub lists_are_needed : ListsAreNeeded
lists_are_needed rules width lines widths none three fits count keep =
    let n = columns_count lines in
    let less = least_sum rules.whole_words n (rows_in lines) widths three count keep in
    let past = past_by (sum (least_widths rules n (rows_in lines)) + length (least_widths rules n (rows_in lines)) + 1) width none in
    let sums = blanks_sum rules n (rows_in lines) in
    let borders = blanked_borders rules.cell_blanks widths in
    let blanks = ap (blanks_of rules.cell_blanks) count in
    let own = widths_count rules n (rows_in lines) in
    omega (arith, less, past, sums, borders, blanks, own, fits, count)
