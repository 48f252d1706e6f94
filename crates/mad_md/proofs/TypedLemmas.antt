-- The lines of a text that is read are as their types promise.
use Rattle.std.proofs.Common.{◌≡◌, ℕ, ◌≤◌, ◌<◌, ◌-◌, ◌^◌, Bool, true, false, not, ◌||◌, ◌==◌, List, [], ◌∷◌, map, length, take, drop, get_or, refl, sym, ap, ◌∙◌, arith, lit<, subst, zero, suc, Option, Some, None, if◌then◌else◌}
use Rattle.std.specs.Prelude.{IfSome, nat_lt, unwrap_or}
use Rattle.std.specs.List.{AllByRecursion, join_with_byte, prefix_len, slice_split}
use Rattle.std.specs.Char.{is_ascii_digit}
use Rattle.std.specs.Str.{IsUtf8, trim_start, trim_end}
use Rattle.std.specs.Str.Parse.{digits_value}
use Rattle.std.specs.Str.Lines.{strip_carriage_return}
use Rattle.std.proofs.Math.Nat.{pow-le-pow_right}
use Rattle.std.proofs.lemmas.Bool.Decides.{nat_tests}
use Rattle.std.proofs.lemmas.Int.Digits.{digits_value-lt}
use Rattle.std.proofs.lemmas.List.{append-nil}
use Rattle.std.proofs.lemmas.Str.{IsUtf8-drop}
use Rattle.mad_md.specs.Cells.{cell_rest, cell_style, rule_or_row, alignments}
use Rattle.mad_md.specs.Flagged.{Flags, Run, RunSpan, run_at, unflagged}
use Rattle.mad_md.specs.Inline.{runs_with}
use Rattle.mad_md.specs.Lines.{StyledRuns, LineContent, table_row, table_rule}
use Rattle.mad_md.specs.Parts.{without_last_if, without_last_empty}
use Rattle.mad_md.specs.Spans.{content_at}
use Rattle.mad_md.specs.Reading.{Unread, IsRead, carried_on}
use Rattle.mad_md.specs.Scan.{items_of, cut_cells, run_start_trimmed, run_end_trimmed, before_kept, end_trimmed, kept_before, start_trimmed, cell_of, kept_cells, part_of, code_line, line_of_form, flags_of_line, line_of, lines_of_texts, texts_of, lines_of}
use Rattle.mad_md.specs.Starts.{begins, is_fence, indent, item_start, item_after, ordered_after, header_of, header_start, count_in_front, is_rule, unprefixed_start, line_start}
use Rattle.mad_md.specs.TypedLines.{IsTypedStyle, IsTypedRun, IsTypedText, IsTypedLine, ReadLinesAreTyped}
use Rattle.mad_md.specs.declared.alignment.Alignment.{Alignment}
use Rattle.mad_md.specs.declared.composite.CompositeStyle.{CompositeStyle}
use Rattle.mad_md.specs.declared.starts.Form.{Form}
use Rattle.mad_md.specs.declared.starts.Form.TheVariants.{TablePart, Code, Rule, Continuing, Separate}
use Rattle.mad_md.specs.declared.starts.LineStart.{LineStart}
use Rattle.mad_md.proofs.CellLemmas.{cells_cut}
use Rattle.mad_md.proofs.PartsLemmas.{is_newline, split_is_parts}
use Rattle.mad_md.proofs.SpanLemmas.{AreWhole, marked_said, one_reading}
use Rattle.mad_md.proofs.StartLemmas.{if_cases, border_two, start_ends, digits_front}
use Rattle.mad_md.proofs.Utf8Lemmas.{utf8_front, utf8_past, utf8_rest, start_cuts, end_cuts, rest_by, strip_by}

-- ---- what a line begins as

abbrev IsTypedForm : Form → Type 0
IsTypedForm (Continuing style) = IsTypedStyle style
IsTypedForm (Separate style) = IsTypedStyle style
IsTypedForm _ = Unit {0}

abbrev IsTypedStart : LineStart → Type 0
IsTypedStart start = IsTypedForm start.form

unwrap_cases : {A : Type 0} (P : A → Type 0) (o : Option A) (d : A) → IfSome o P → P d → P (unwrap_or o d)
unwrap_cases P None d f g = g
unwrap_cases P (Some x) d f g = f

few : (a b c : Bool) → (a || b || c) ≡ false → b ≡ false
few false false c e = refl
few _ _ c e = absurd (cc)

at_most : (n : ℕ) → nat_lt 9 n ≡ false → n ≤ 9
at_most n e = grind (arith, nat_tests)

short : (n : ℕ) (digits : List ℕ) → length (take n digits) ≤ n
short zero digits = omega arith
short (suc n) [] = omega arith
short (suc n) (d ∷ ds) = omega (arith, short n ds)

number_small : (rest : List ℕ) → prefix_len is_ascii_digit rest ≤ 9 → digits_value 10 (take (prefix_len is_ascii_digit rest) rest) < 2 ^ 32
number_small rest nine =
    let digits : List ℕ = take (prefix_len is_ascii_digit rest) rest in
    let below : digits_value 10 digits < 10 ^ length digits = digits_value-lt 10 digits (digits_front rest) in
    let len : length digits ≤ 9 = omega (arith, short (prefix_len is_ascii_digit rest) rest, nine) in
    let most : 10 ^ length digits ≤ 10 ^ 9 = pow-le-pow_right (lit< tt) len in
    omega (arith, below, most)

ordered_typed : (spaces : ℕ) (rest : List ℕ) → IfSome (ordered_after spaces (prefix_len is_ascii_digit rest) rest) IsTypedStart
ordered_typed spaces rest =
    let digits = prefix_len is_ascii_digit rest in
    if_cases (λ (o : Option LineStart). IfSome o IsTypedStart) ((digits == 0) || nat_lt 9 digits || not (begins (drop digits rest) (46 ∷ 32 ∷ []))) _ _ (λ e. tt)
    (λ e. number_small rest (at_most digits (few (digits == 0) (nat_lt 9 digits) (not (begins (drop digits rest) (46 ∷ 32 ∷ []))) e)))

item_typed : (spaces : ℕ) (rest : List ℕ) → IfSome (item_after spaces rest) IsTypedStart
item_typed spaces rest = if_cases (λ (o : Option LineStart). IfSome o IsTypedStart) (begins rest (42 ∷ 32 ∷ [])) _ _ (λ e. tt) (λ e. ordered_typed spaces rest)

header_typed : (level : ℕ) (line : List ℕ) → IfSome (header_of level line) IsTypedStart
header_typed level line = if_cases (λ (o : Option LineStart). IfSome o IsTypedStart) ((level == 0) || nat_lt 8 level || not (begins (drop level line) (32 ∷ []))) _ _ (λ e. tt) (λ e. tt)

unprefixed_typed : (line : List ℕ) → IsTypedStart (unprefixed_start line)
unprefixed_typed line = if_cases IsTypedStart (is_rule line) _ _ (λ e. tt) (λ e. tt)

start_typed : (line : List ℕ) → IsTypedStart (line_start line)
start_typed line =
    if_cases IsTypedStart (length line == 0) _ _ (λ e. tt) (λ e.
    if_cases IsTypedStart (begins line (124 ∷ [])) _ _ (λ b. tt) (λ e.
    if_cases IsTypedStart (begins line (32 ∷ 32 ∷ 32 ∷ 32 ∷ [])) _ _ (λ b. tt) (λ e.
    if_cases IsTypedStart (begins line (9 ∷ [])) _ _ (λ b. tt) (λ e.
    unwrap_cases IsTypedStart (item_start line) _ (item_typed (indent line) (drop (indent line) line)) (
    if_cases IsTypedStart (begins line (62 ∷ 32 ∷ [])) _ _ (λ b. tt) (λ e.
    unwrap_cases IsTypedStart (header_start line) _ (header_typed (count_in_front 35 line) line) (unprefixed_typed line)))))))

-- ---- runs

-- runs at whole spans
runs_typed : (source : List ℕ) (spans : List RunSpan) → AreWhole source spans → AllByRecursion IsTypedRun (map (run_at source) spans)
runs_typed source [] h = tt
runs_typed source (span ∷ spans) h = (h.0.2, runs_typed source spans h.1)

-- the runs of a UTF-8 text that is read by its marks are UTF-8
pub marked_typed : (text : List ℕ) (carried : Flags) → IsUtf8 text → AllByRecursion IsTypedRun (map (run_at text) (runs_with carried 0 (items_of carried text)))
marked_typed text carried u = runs_typed text (runs_with carried 0 (items_of carried text)) (marked_said text text 0 carried ([], sym (append-nil text)) u).1

-- without blanks at their ends
trimmed_by : (run : Run) (text : List ℕ) (code : Bool) → IsTypedRun run → IsUtf8 text → IsTypedRun (if code then run else record run { text = text })
trimmed_by run text true h u = h
trimmed_by run text false h u = u

start_run : (run : Run) → IsTypedRun run → IsTypedRun (run_start_trimmed run)
start_run run h = trimmed_by run (trim_start run.text) run.flags.code h (start_cuts run.text h).2

end_run : (run : Run) → IsTypedRun run → IsTypedRun (run_end_trimmed run)
end_run run h = trimmed_by run (trim_end run.text) run.flags.code h (end_cuts run.text h).2

kept_by : (run : Run) (others left : List Run) (t : Bool) → IsTypedRun run → AllByRecursion IsTypedRun others → AllByRecursion IsTypedRun left → AllByRecursion IsTypedRun (if t then left else run ∷ others)
kept_by run others left true h g k = k
kept_by run others left false h g k = (h, g)

end_kept : (run : Run) (left : List Run) → IsTypedRun run → AllByRecursion IsTypedRun left → AllByRecursion IsTypedRun (before_kept run left)
end_kept run [] h k = kept_by (run_end_trimmed run) [] [] (length (run_end_trimmed run).text == 0) (end_run run h) tt tt
end_kept run (next ∷ others) h k = (h, k)

end_typed : (runs : List Run) → AllByRecursion IsTypedRun runs → AllByRecursion IsTypedRun (end_trimmed runs)
end_typed [] h = tt
end_typed (run ∷ others) h = end_kept run (end_trimmed others) h.0 (end_typed others h.1)

start_runs : (runs : List Run) → AllByRecursion IsTypedRun runs → AllByRecursion IsTypedRun (start_trimmed runs)
start_runs [] h = tt
start_runs (run ∷ others) h = kept_by (run_start_trimmed run) others (start_trimmed others) (length (run_start_trimmed run).text == 0) (start_run run h.0) h.1 (start_runs others h.1)

-- ---- cells

style_typed : (text : List ℕ) → IsTypedStyle (cell_style text)
style_typed text = if_cases IsTypedStyle (begins text (42 ∷ 32 ∷ [])) _ _ (λ e. tt) (λ e. if_cases IsTypedStyle (begins text (62 ∷ 32 ∷ [])) _ _ (λ e. tt) (λ e. tt))

cell_typed : (text : List ℕ) → IsUtf8 text → IsTypedText (cell_of text)
cell_typed text u =
    let bare = trim_start text in
    let cut = start_cuts text u in
    let after = rest_by bare (begins bare (42 ∷ 32 ∷ [])) (begins bare (62 ∷ 32 ∷ [])) (λ e. border_two bare 0 42 32 cut.2 e (omega arith)) (λ e. border_two bare 0 62 32 cut.2 e (omega arith)) cut.2 in
    let rest = cell_rest bare in
    record {
      style = style_typed bare;
      runs = start_runs _ (end_typed _ (marked_typed rest unflagged after.2));
    }

cells_typed : (texts : List (List ℕ)) → IsUtf8 (join_with_byte 124 texts) → AllByRecursion IsTypedText (map cell_of texts)
cells_typed [] u = tt
cells_typed (text ∷ []) u = (cell_typed text u, tt)
cells_typed (text ∷ next ∷ texts) u =
    let more = join_with_byte 124 (next ∷ texts) in (
      cell_typed text (utf8_front text 124 more (omega arith) u),
      cells_typed (next ∷ texts) (utf8_past 124 more (omega arith) (utf8_rest text 124 more (omega arith) u)),
    )

all_but_last : {A : Type 0} (P : A → Type 0) (test : A → Bool) (xs : List A) → AllByRecursion P xs → AllByRecursion P (without_last_if test xs)
all_but_last P test [] h = tt
all_but_last P test (x ∷ []) h = if_cases (AllByRecursion P) (test x) _ _ (λ e. tt) (λ e. h)
all_but_last P test (x ∷ y ∷ xs) h = (h.0, all_but_last P test (y ∷ xs) h.1)

row_typed : (found : Option (List Alignment)) (cells : List StyledRuns) → AllByRecursion IsTypedText cells → IsTypedLine (rule_or_row table_rule table_row found cells)
row_typed (Some (alignment ∷ others)) cells h = tt
row_typed (Some []) cells h = h
row_typed None cells h = h

part_typed : (part : List ℕ) → IsUtf8 part → IsTypedLine (part_of part)
part_typed part u =
    let texts = cut_cells false part in
    let cells = cells_typed texts (subst IsUtf8 (sym (cells_cut part).joined) u) in
    row_typed (alignments (take (length (kept_cells (map cell_of texts))) texts)) (kept_cells (map cell_of texts)) (all_but_last IsTypedText (λ (cell : StyledRuns). length cell.runs == 0) (map cell_of texts) cells)

-- ---- a line

code_typed : (text : List ℕ) → IsUtf8 text → IsTypedLine (code_line text)
code_typed [] u = record { style = tt; runs = tt }
code_typed (b ∷ bs) u = record { style = tt; runs = (u, tt) }

form_typed : (form : Form) (carried : Flags) (rest : List ℕ) → IsTypedForm form → IsUtf8 rest → IsTypedLine (line_of_form form carried rest)
form_typed TablePart carried rest h u = part_typed rest u
form_typed Code carried rest h u = code_typed rest u
form_typed Rule carried rest h u = tt
form_typed (Continuing style) carried rest h u = record { style = h; runs = marked_typed rest carried u }
form_typed (Separate style) carried rest h u = record { style = h; runs = marked_typed rest unflagged u }

-- a line of UTF-8 text is as its types promise
pub line_typed : (fenced : Bool) (carried : Flags) (text : List ℕ) → IsUtf8 text → IsTypedLine (line_of fenced carried text)
unfolding line_of
line_typed true carried text u = code_typed text u
line_typed false carried text u = form_typed (line_start text).form carried (drop (line_start text).len text) (start_typed text) (IsUtf8-drop text (line_start text).len u (start_ends text u))

-- ---- the lines of a text

lines_by : (on fenced : Bool) (carried : Flags) (text : List ℕ) (texts : List (List ℕ)) (t : Bool) → IsUtf8 text → ((f : Bool) (k : Flags) → AllByRecursion IsTypedLine (lines_of_texts on f k texts))
    → AllByRecursion IsTypedLine (if t then lines_of_texts on (not fenced) unflagged texts else line_of fenced carried text ∷ lines_of_texts on fenced (carried_on on (flags_of_line fenced carried text)) texts)
lines_by on fenced carried text texts true u rest = rest (not fenced) unflagged
lines_by on fenced carried text texts false u rest = (line_typed fenced carried text u, rest fenced (carried_on on (flags_of_line fenced carried text)))

texts_typed : (on fenced : Bool) (carried : Flags) (texts : List (List ℕ)) → AllByRecursion IsUtf8 texts → AllByRecursion IsTypedLine (lines_of_texts on fenced carried texts)
texts_typed on fenced carried [] h = tt
texts_typed on fenced carried (text ∷ texts) h = lines_by on fenced carried text texts (is_fence text) h.0 (λ f k. texts_typed on f k texts h.1)

strip_utf8 : (part : List ℕ) → IsUtf8 part → IsUtf8 (strip_carriage_return part)
strip_utf8 part u = (strip_by part (get_or part (length part - 1) 0 == 13) refl u).2

parts_utf8 : (parts : List (List ℕ)) → IsUtf8 (join_with_byte 10 parts) → AllByRecursion IsUtf8 parts
parts_utf8 [] u = tt
parts_utf8 (part ∷ []) u = (u, tt)
parts_utf8 (part ∷ next ∷ parts) u =
    let more = join_with_byte 10 (next ∷ parts) in (utf8_front part 10 more (omega arith) u, parts_utf8 (next ∷ parts) (utf8_past 10 more (omega arith) (utf8_rest part 10 more (omega arith) u)))

stripped : (parts : List (List ℕ)) → AllByRecursion IsUtf8 parts → AllByRecursion IsUtf8 (map strip_carriage_return parts)
stripped [] h = tt
stripped (part ∷ parts) h = (strip_utf8 part h.0, stripped parts h.1)

texts_utf8 : (text : List ℕ) → IsUtf8 text → AllByRecursion IsUtf8 (texts_of text)
texts_utf8 text u =
    let parts = slice_split is_newline text in
    stripped (without_last_empty parts) (all_but_last IsUtf8 (λ part. length part == 0) parts (parts_utf8 parts (subst IsUtf8 (sym (split_is_parts text).joined) u)))

-- the lines of what is left are as their types promise, where it is UTF-8
pub lines_typed : (unread : Unread) → IsUtf8 unread.text → AllByRecursion IsTypedLine (lines_of unread)
unfolding lines_of
lines_typed unread u = texts_typed unread.continue_spans unread.fenced unread.carried (texts_of unread.text) (texts_utf8 unread.text u)

-- the lines that are read of a UTF-8 text are as their types promise
pub read_lines_are_typed : ReadLinesAreTyped
read_lines_are_typed unread lines u h =
    let own : IsRead unread (lines_of unread) = one_reading unread u in
    let same : lines ≡ lines_of unread = h.says ∙ ap (map (content_at unread.text)) (sym (h.only own.reading own.reads)) ∙ sym own.says in
    subst (AllByRecursion IsTypedLine) (sym same) (lines_typed unread u)
