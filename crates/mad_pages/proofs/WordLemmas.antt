-- Words that are no wider than a line stay whole.
use Rattle.std.proofs.Common.{◌≡◌, inl, inr, ⊎_elim, ℕ, zero, suc, ◌==◌, ◌+◌, ◌≤◌, max, nat_le, Bool, true, false, List, [], ◌∷◌, ◌++◌, length, take, drop, map, refl, ap, sym, ◌∙◌, subst, arith, if◌then◌else◌}
use Rattle.std.specs.List.{AllByRecursion, flat_map}
use Rattle.std.proofs.lemmas.Bool.Decides.{nat_tests}
use Rattle.mad_characters.specs.Columns.{char_columns}
use Rattle.mad_md.specs.Flagged.{FlaggedChar, is_blank, flagged_text}
use Rattle.mad_md.specs.Lines.{StyledRuns, LineContent, normal, table_row, table_rule, horizontal_rule}
use Rattle.mad_md.specs.declared.alignment.Alignment.{Alignment}
use Rattle.mad_md.specs.declared.compound.Compound.{Compound}
use Rattle.mad_measure.specs.TextColumns.{width_of}
use Rattle.mad_measure.specs.Tokens.{AreTokensOf, flagged_token, tokens_text}
use Rattle.mad_measure.specs.declared.tokens.Token.{Token}
use Rattle.mad_measure.proofs.TokenTexts.{IsHonest, text_of_all, all_honest}
use Rattle.mad_measure.specs.declared.spacing.Spacing.{Spacing}
use Rattle.mad_style.specs.Kinds.{kind_of}
use Rattle.mad_style.specs.declared.kinds.CompositeKind.{CompositeKind}
use Rattle.mad_style.specs.declared.kinds.CompositeKind.TheVariants.{Paragraph}
use Rattle.mad_wrap.specs.Breaks.{total_width}
use Rattle.mad_wrap.specs.LeastWords.{ArePieceFit, IsWordWrap, IsWrapBy}
use Rattle.mad_wrap.specs.Rooms.{token_limit}
use Rattle.mad_wrap.specs.Words.{Piece, alone, together, word_pieces, pieces_after, pieces_of}
use Rattle.mad_wrap.specs.WrapLines.{runs_of}
use Rattle.mad_wrap.proofs.BoundLemmas.{total_width-append}
use Rattle.mad_format.specs.CompositeWraps.{IsCompositeWrap, line_compounds}
use Rattle.mad_format.specs.Indents.{room_of}
use Rattle.mad_format.specs.LineRules.{LineRules}
use Rattle.mad_format.specs.Wraps.{text_of}
use Rattle.mad_format.specs.FmtLines.{AreCompositesRead}
use Rattle.mad_format.specs.declared.composite.FmtComposite.{FmtComposite}
use Rattle.mad_format.specs.declared.line.FmtLine.{FmtLine}
use Rattle.mad_format.specs.declared.line.FmtLine.TheVariants.{Normal, TableRow, TableRule, HorizontalRule}
use Rattle.mad_format.specs.declared.table.RelativePosition.{RelativePosition}
use Rattle.mad_blocks.specs.Layouts.{AreRead}
use Rattle.mad_blocks.specs.Tables.{columns_with, columns_from, centered, below, position_at, AreCellsLaidOut, IsTableLineBy, AreTableLinesBy}
use Rattle.mad_sections.specs.CellWords.{longest_from, longest_word}
use Rattle.mad_sections.specs.TableTexts.{runs_text, cell_text, columns_count, rows_in, longest_in}
use Rattle.mad_sections.proofs.TableLemmas.{text_is_said}
use Rattle.mad_sections.proofs.Choices.{by_bool}
use Rattle.mad_pages.specs.WholeTables.{columns_of, KeepWords}
use Rattle.mad_pages.specs.WholeWords.{words_after, words_of, IsWholeWrap, CellsKeepWords, ArePlainCells, TablesKeepWords}

-- ---- longest words

-- a word that has begun counts
grows : (word : ℕ) (xs : List FlaggedChar) → word ≤ longest_from word xs
grows word [] = omega arith
grows word (x ∷ xs) = by_bool (λ t. word ≤ (if t then max word (longest_from 0 xs) else longest_from (word + char_columns x.char) xs)) (is_blank x)
    (λ e. omega arith) (λ e. let more = grows (word + char_columns x.char) xs in omega (arith, more))

-- a longer one makes none shorter
longer : (m n : ℕ) (xs : List FlaggedChar) → m ≤ n → longest_from m xs ≤ longest_from n xs
longer m n [] h = h
longer m n (x ∷ xs) h = by_bool (λ t. (if t then max m (longest_from 0 xs) else longest_from (m + char_columns x.char) xs) ≤ (if t then max n (longest_from 0 xs) else longest_from (n + char_columns x.char) xs)) (is_blank x)
    (λ e. omega (arith, h)) (λ e. longer (m + char_columns x.char) (n + char_columns x.char) xs (omega (arith, h)))

abbrev AllOf : Bool → List FlaggedChar → Type 0
AllOf blank xs = AllByRecursion (λ x. is_blank x ≡ blank) xs

-- behind blanks the longest word is that of the word before them, or one that comes
past_blanks : (word : ℕ) (xs rest : List FlaggedChar) → AllOf true xs → (word ≤ longest_from word (xs ++ rest)) × (longest_from 0 rest ≤ longest_from word (xs ++ rest))
past_blanks word [] rest h = (grows word rest, longer 0 word rest (omega arith))
past_blanks word (x ∷ xs) rest h =
    let more = past_blanks 0 xs rest h.1 in
    by_bool (λ t. is_blank x ≡ t → (word ≤ (if t then max word (longest_from 0 (xs ++ rest)) else longest_from (word + char_columns x.char) (xs ++ rest))) × (longest_from 0 rest ≤ (if t then max word (longest_from 0 (xs ++ rest)) else longest_from (word + char_columns x.char) (xs ++ rest)))) (is_blank x)
    (λ e k. (omega arith, omega (arith, more.1))) (λ e k. let no : true ≡ false = sym h.0 ∙ k in absurd cc) refl

-- characters that aren't blank go on with the word
on_letters : (word : ℕ) (xs rest : List FlaggedChar) → AllOf false xs → longest_from word (xs ++ rest) ≡ longest_from (word + width_of xs) rest
on_letters word [] rest h = ap (λ (n : ℕ). longest_from n rest) (omega arith)
on_letters word (x ∷ xs) rest h =
    by_bool (λ t. is_blank x ≡ t → (if t then max word (longest_from 0 (xs ++ rest)) else longest_from (word + char_columns x.char) (xs ++ rest)) ≡ longest_from (word + (char_columns x.char + width_of xs)) rest) (is_blank x)
    (λ e k. let no : true ≡ false = sym k ∙ h.0 in absurd cc)
    (λ e k. let same : word + char_columns x.char + width_of xs ≡ word + (char_columns x.char + width_of xs) = omega arith in on_letters (word + char_columns x.char) xs rest h.1 ∙ ap (λ (n : ℕ). longest_from n rest) same) refl

-- ---- pieces

is_within : (m n : ℕ) → m ≤ n → nat_le m n ≡ true
is_within m n h = grind (arith, nat_tests)

whole_word : (limit : ℕ) (word : List Token) → total_width word ≤ limit → word_pieces limit word ≡ together word
whole_word limit word h = ap (λ t. if t then together word else map alone word) (is_within (total_width word) limit h)

-- where the longest word is no wider than the limit, each piece is a word or a blank
whole_pieces : (limit max : ℕ) (word ts : List Token) → AllByRecursion (IsHonest max) ts → longest_from (total_width word) (tokens_text ts) ≤ limit → pieces_after limit word ts ≡ words_after word ts
whole_pieces limit max word [] honest h = whole_word limit word h
whole_pieces limit max word (t ∷ ts) honest h =
    by_bool (λ b. t.blank ≡ b → (if b then word_pieces limit word ++ (alone t ∷ pieces_after limit [] ts) else pieces_after limit (word ++ t ∷ []) ts) ≡ (if b then together word ++ (alone t ∷ words_after [] ts) else words_after (word ++ t ∷ []) ts)) t.blank
    (λ e k.
    let past = past_blanks (total_width word) (flagged_token t) (tokens_text ts) (subst (λ (b : Bool). AllOf b (flagged_token t)) k honest.0.alike.alike) in
    let own : word_pieces limit word ≡ together word = whole_word limit word (omega (arith, past.0, h)) in
    let more : pieces_after limit [] ts ≡ words_after [] ts = whole_pieces limit max [] ts honest.1 (omega (arith, past.1, h)) in
    ap (λ (ps : List Piece). ps ++ (alone t ∷ pieces_after limit [] ts)) own ∙ ap (λ (ps : List Piece). together word ++ (alone t ∷ ps)) more)
    (λ e k.
    let on = on_letters (total_width word) (flagged_token t) (tokens_text ts) (subst (λ (b : Bool). AllOf b (flagged_token t)) k honest.0.alike.alike) in
    let wide : total_width (word ++ t ∷ []) ≡ total_width word + width_of (flagged_token t) = let both = total_width-append word (t ∷ []) in omega (arith, both, honest.0.alike.counts) in
    let same : longest_from (total_width (word ++ t ∷ [])) (tokens_text ts) ≡ longest_from (total_width word) (flagged_token t ++ tokens_text ts) = ap (λ (n : ℕ). longest_from n (tokens_text ts)) wide ∙ sym on in
    whole_pieces limit max (word ++ t ∷ []) ts honest.1 (omega (arith, same, h))) refl

words_are : (limit : ℕ) (ps : List Compound) (ts : List Token) → AreTokensOf limit ps ts → longest_word (flagged_text ps) ≤ limit → pieces_of limit ts ≡ words_of ts
words_are limit ps ts tokens h =
    let text : longest_from 0 (tokens_text ts) ≡ longest_word (flagged_text ps) = ap (longest_from 0) (text_of_all limit ps ts tokens) in
    whole_pieces limit limit [] ts (all_honest limit ps ts tokens) (omega (arith, text, h))

-- ---- cells

limit_is : (rules : LineRules) (kind : CompositeKind) (width : ℕ) → kind ≡ Paragraph → token_limit (room_of rules kind width) ≡ width
limit_is rules kind width is = ap (λ (k : CompositeKind). token_limit (room_of rules k width)) is ∙ omega arith

-- a cell whose words are no wider than its column keeps them whole
pub cells_keep_words : CellsKeepWords
cells_keep_words rules width cell lines whole paragraph within laid =
    ⊎_elim inl (λ r. inr (
      r.0,
      (
        r.1,
        λ ts tokens.
            let room = room_of rules cell.kind width in
            let wrap : IsWordWrap room cell.compounds.items (line_compounds lines) = subst (λ (b : Bool). IsWrapBy b room cell.compounds.items (line_compounds lines)) whole r.1.wrap in
            let limit = limit_is rules cell.kind width paragraph in
            let words : pieces_of (token_limit room) ts ≡ words_of ts = words_are (token_limit room) cell.compounds.items ts tokens (omega (arith, limit, within)) in
            subst (λ (ps : List Piece). ArePieceFit room ps (map runs_of (line_compounds lines))) words (wrap.least ts tokens).first_fit,
      ),
    )) laid

-- ---- rows that were read

-- the cells of a row are no wider than their columns by their longest words
abbrev Within : List ℕ → List StyledRuns → Type 0
Within [] cells = Unit {0}
Within (w ∷ widths) [] = Unit {0}
Within (w ∷ widths) (c ∷ cells) = (longest_word (cell_text c) ≤ w) × Within widths cells

first_within : (w : ℕ) (widths : List ℕ) (rows : List (List StyledRuns)) → longest_in (flat_map (take 1) rows) ≤ w → AllByRecursion (Within widths) (map (drop 1) rows) → AllByRecursion (Within (w ∷ widths)) rows
first_within w widths [] h more = tt
first_within w widths ([] ∷ rows) h more = (tt, first_within w widths rows h more.1)
first_within w widths ((c ∷ cells) ∷ rows) h more = ((omega (arith, h), more.0), first_within w widths rows (omega (arith, h)) more.1)

none_within : (rows : List (List StyledRuns)) → AllByRecursion (Within []) rows
none_within [] = tt
none_within (row ∷ rows) = (tt, none_within rows)

rows_within : (n : ℕ) (rows : List (List StyledRuns)) (widths : List ℕ) → KeepWords widths (columns_of n rows) → AllByRecursion (Within widths) rows
rows_within zero rows [] keep = none_within rows
rows_within zero rows (w ∷ widths) keep = absurd keep
rows_within (suc n) rows [] keep = absurd keep
rows_within (suc n) rows (w ∷ widths) keep = first_within w widths rows keep.0 (rows_within n (map (drop 1) rows) widths keep.1)

-- so are the cells that were read
abbrev Fit : List ℕ → List FmtComposite → Type 0
Fit [] cells = Unit {0}
Fit (w ∷ widths) [] = Unit {0}
Fit (w ∷ widths) (c ∷ cells) = (c.kind ≡ Paragraph) × (longest_word (text_of c) ≤ w) × Fit widths cells

abbrev RowFits : List ℕ → FmtLine → Type 0
RowFits widths (TableRow row) = Fit widths row.cells.items
RowFits widths _ = Unit {0}

cells_fit : (rules : LineRules) (widths : List ℕ) (said : List StyledRuns) (cells : List FmtComposite) → AreCompositesRead rules said cells → Within widths said → AllByRecursion (λ (cell : StyledRuns). kind_of cell.style ≡ Paragraph) said → Fit widths cells
cells_fit rules [] said cells read within plain = tt
cells_fit rules (w ∷ widths) [] [] read within plain = tt
cells_fit rules (w ∷ widths) [] (x ∷ cells) read within plain = absurd read
cells_fit rules (w ∷ widths) (c ∷ said) [] read within plain = absurd read
cells_fit rules (w ∷ widths) (c ∷ said) (x ∷ cells) read within plain =
    let text : text_of x ≡ cell_text c = text_is_said x.compounds.items ∙ ap runs_text read.0.text in
    let words : longest_word (text_of x) ≡ longest_word (cell_text c) = ap longest_word text in
    (read.0.kind ∙ plain.0, omega (arith, words, within.0), cells_fit rules widths said cells read.1 within.1 plain.1)

lines_fit : (rules : LineRules) (widths : List ℕ) (cs : List LineContent) (ls : List FmtLine) → AreRead rules cs ls → AllByRecursion (Within widths) (rows_in cs) → ArePlainCells cs → AllByRecursion (RowFits widths) ls
lines_fit rules widths [] [] h within plain = tt
lines_fit rules widths [] (l ∷ ls) h within plain = absurd h
lines_fit rules widths (c ∷ cs) [] h within plain = absurd h
lines_fit rules widths (normal said ∷ cs) (Normal l ∷ ls) h within plain = (tt, lines_fit rules widths cs ls h.1 within plain)
lines_fit rules widths (normal said ∷ cs) (TableRow row ∷ ls) h within plain = absurd h.0
lines_fit rules widths (normal said ∷ cs) (TableRule rule ∷ ls) h within plain = absurd h.0
lines_fit rules widths (normal said ∷ cs) (HorizontalRule ∷ ls) h within plain = absurd h.0
lines_fit rules widths (table_row cells ∷ cs) (Normal l ∷ ls) h within plain = absurd h.0
lines_fit rules widths (table_row cells ∷ cs) (TableRow row ∷ ls) h within plain = (cells_fit rules widths cells row.cells.items h.0 within.0 plain.0, lines_fit rules widths cs ls h.1 within.1 plain.1)
lines_fit rules widths (table_row cells ∷ cs) (TableRule rule ∷ ls) h within plain = absurd h.0
lines_fit rules widths (table_row cells ∷ cs) (HorizontalRule ∷ ls) h within plain = absurd h.0
lines_fit rules widths (table_rule aligns ∷ cs) (Normal l ∷ ls) h within plain = absurd h.0
lines_fit rules widths (table_rule aligns ∷ cs) (TableRow row ∷ ls) h within plain = absurd h.0
lines_fit rules widths (table_rule aligns ∷ cs) (TableRule rule ∷ ls) h within plain = (tt, lines_fit rules widths cs ls h.1 within plain)
lines_fit rules widths (table_rule aligns ∷ cs) (HorizontalRule ∷ ls) h within plain = absurd h.0
lines_fit rules widths (horizontal_rule ∷ cs) (Normal l ∷ ls) h within plain = absurd h.0
lines_fit rules widths (horizontal_rule ∷ cs) (TableRow row ∷ ls) h within plain = absurd h.0
lines_fit rules widths (horizontal_rule ∷ cs) (TableRule rule ∷ ls) h within plain = absurd h.0
lines_fit rules widths (horizontal_rule ∷ cs) (HorizontalRule ∷ ls) h within plain = (tt, lines_fit rules widths cs ls h.1 within plain)

-- ---- rows that are laid out

fit_below : (w : ℕ) (widths : List ℕ) (cells : List FmtComposite) → Fit (w ∷ widths) cells → Fit widths (below cells)
fit_below w [] cells fit = tt
fit_below w (v ∷ widths) [] fit = tt
fit_below w (v ∷ widths) (c ∷ cells) fit = fit.2

cells_whole : (rules : LineRules) (columns : List Spacing) (cells : List FmtComposite) (lines : List (List FmtComposite)) → rules.whole_words ≡ true → Fit (map (λ (c : Spacing). c.width) columns) cells
    → AreCellsLaidOut IsCompositeWrap rules columns cells lines → AreCellsLaidOut IsWholeWrap rules columns cells lines
cells_whole rules [] cells [] whole fit laid = tt
cells_whole rules [] cells (ls ∷ lines) whole fit laid = absurd laid
cells_whole rules (c ∷ columns) cells [] whole fit laid = absurd laid
cells_whole rules (c ∷ columns) [] (ls ∷ lines) whole fit laid = (laid.0, cells_whole rules columns [] lines whole (fit_below c.width (map (λ (c : Spacing). c.width) columns) [] fit) laid.1)
cells_whole rules (c ∷ columns) (x ∷ cells) (ls ∷ lines) whole fit laid = (cells_keep_words rules c.width x ls whole fit.0 fit.1 laid.0, cells_whole rules columns cells lines whole fit.2 laid.1)

same_widths : (widths : List ℕ) (aligns : List Alignment) → map (λ (c : Spacing). c.width) (columns_with widths aligns) ≡ widths
same_widths [] aligns = refl
same_widths (w ∷ widths) [] = ap (λ (ws : List ℕ). w ∷ ws) (same_widths widths [])
same_widths (w ∷ widths) (a ∷ aligns) = ap (λ (ws : List ℕ). w ∷ ws) (same_widths widths aligns)

centered_widths : (widths : List ℕ) → map (λ (c : Spacing). c.width) (centered widths) ≡ widths
centered_widths [] = refl
centered_widths (w ∷ widths) = ap (λ (ws : List ℕ). w ∷ ws) (centered_widths widths)

next_widths : (widths : List ℕ) (columns : List Spacing) (l : FmtLine) → map (λ (c : Spacing). c.width) columns ≡ widths → map (λ (c : Spacing). c.width) (columns_from widths columns l) ≡ widths
next_widths widths columns (Normal l) is = is
next_widths widths columns (TableRow row) is = is
next_widths widths columns (TableRule rule) is = same_widths widths rule.aligns.items
next_widths widths columns HorizontalRule is = is

line_whole : (rules : LineRules) (widths : List ℕ) (columns : List Spacing) (position : RelativePosition) (l : FmtLine) (own : List FmtLine) → rules.whole_words ≡ true → map (λ (c : Spacing). c.width) columns ≡ widths → RowFits widths l
    → IsTableLineBy IsCompositeWrap rules columns position l own → IsTableLineBy IsWholeWrap rules columns position l own
line_whole rules widths columns position (Normal l) own whole is fit laid = laid
line_whole rules widths columns position (TableRow row) own whole is fit laid = (
  laid.0,
  laid.1,
  record {
    lines = laid.2.lines;
    laid_out = cells_whole rules columns row.cells.items laid.2.lines whole (subst (λ (ws : List ℕ). Fit ws row.cells.items) (sym is) fit) laid.2.laid_out;
    count = laid.2.count;
    rows_are = laid.2.rows_are;
  },
)
line_whole rules widths columns position (TableRule rule) own whole is fit laid = laid
line_whole rules widths columns position HorizontalRule own whole is fit laid = laid

lines_whole : (rules : LineRules) (widths : List ℕ) (columns : List Spacing) (first : Bool) (ls lines : List FmtLine) → rules.whole_words ≡ true → map (λ (c : Spacing). c.width) columns ≡ widths → AllByRecursion (RowFits widths) ls
    → AreTableLinesBy IsCompositeWrap rules widths columns first ls lines → AreTableLinesBy IsWholeWrap rules widths columns first ls lines
lines_whole rules widths columns first [] lines whole is fit laid = laid
lines_whole rules widths columns first (l ∷ ls) lines whole is fit (own, others, joins, here, more) =
    let next = next_widths widths columns l is in
    (own, others, joins, line_whole rules widths (columns_from widths columns l) (position_at first (length ls == 0)) l own whole next fit.0 here, lines_whole rules widths (columns_from widths columns l) false ls others whole next fit.1 more)

-- no word of a whole table is parted
pub tables_keep_words : TablesKeepWords
tables_keep_words rules room table lines whole plain h =
    let within = rows_within (columns_count table) (rows_in table) h.widths (h.words whole) in
    lines_whole rules h.widths (centered h.widths) true h.read lines whole (centered_widths h.widths) (lines_fit rules h.widths table h.read h.reads within plain) h.laid
