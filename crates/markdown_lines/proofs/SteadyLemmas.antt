-- Runs that are made steady, and lines of them.
use Rattle.std.proofs.Common.{◌≡◌, ℕ, zero, suc, Bool, true, false, not, List, [], ◌∷◌, ◌++◌, map, take, drop, refl, sym, ap, ◌∙◌, arith, append_assoc, append-nil}
use Rattle.std.specs.Prelude.{◌+◌, chars, slice_get, Some, None}
use Rattle.std.specs.Int.{is_in_range}
use Rattle.std.specs.List.{list_all, AllByRecursion}
use Rattle.std.specs.Str.{IsUtf8, NonePass}
use Rattle.std.proofs.lemmas.Bool.{and_parts, and_from}
use Rattle.std.proofs.lemmas.Bool.Decides.{nat_tests}
use Rattle.std.proofs.lemmas.List.{drop_all}
use Rattle.std.proofs.lemmas.Str.{IsUtf8-between, chars_from_encodes}
use Rattle.mad_steady.specs.Kept.{PassesWhatIsMade}
use Rattle.mad_steady.specs.Steady.{steady_text}
use Rattle.mad_steady.proofs.KeptLemmas.{bytes_pass}
use Rattle.mad_steady.proofs.TextLemmas.{bytes_steady, read_again}
use Rattle.mad_md.specs.Flagged.{Run}
use Rattle.mad_md.specs.Lines.{StyledRuns, LineContent, normal, table_row}
use Rattle.mad_md.specs.declared.composite.CompositeStyle.TheVariants.{Paragraph}
use Rattle.markdown_lines.specs.Lines.{cell_said, line_said, lines_said}
use Rattle.markdown_lines.specs.Printed.{is_obeyed, IsPrintedRun, IsPrintedCell, IsPrintedLine, ArePrinted}
use Rattle.markdown_lines.specs.Runs.{runs_said, is_bordered, are_bordered}
use Rattle.markdown_lines.specs.Said.{range_said}
use Rattle.markdown_lines.specs.Steady.{steady_run, steady_runs, steady_line, steady_lines, AreSteadyRuns, IsSteadyCell, IsSteadyLine, AreSteadyLines}
use Rattle.markdown_lines.specs.declared.lines.MarkdownLine.{MarkdownLine}
use Rattle.markdown_lines.specs.declared.lines.MarkdownLine.TheVariants.{Normal, Row, Rule, HorizontalRule}
use Rattle.markdown_lines.specs.declared.places.RunPlace.{RunPlace}
use Rattle.markdown_lines.specs.declared.places.RunRange.{RunRange}
use Rattle.markdown_lines.proofs.RangeLemmas.{drop_got, none_past}
use Rattle.markdown_lines.proofs.RunLemmas.{order_of, first_of, last_of}

-- ---- some of the runs

map_take : (n : ℕ) (runs : List Run) → take n (map steady_run runs) ≡ map steady_run (take n runs)
map_take zero runs = refl
map_take (suc n) [] = refl
map_take (suc n) (r ∷ runs) = ap (λ (rs : List Run). steady_run r ∷ rs) (map_take n runs)

map_drop : (n : ℕ) (runs : List Run) → drop n (map steady_run runs) ≡ map steady_run (drop n runs)
map_drop zero runs = refl
map_drop (suc n) [] = refl
map_drop (suc n) (r ∷ runs) = map_drop n runs

range_steady : (all : List Run) (range : RunRange) → range_said (map steady_run all) range ≡ map steady_run (range_said all range)
range_steady all range = ap (take range.count) (map_drop range.start all) ∙ map_take range.count (drop range.start all)

cells_steady : (all : List Run) (cells : List RunRange) → map (cell_said (map steady_run all)) cells ≡ map steady_runs (map (cell_said all) cells)
cells_steady all [] = refl
cells_steady all (cell ∷ cells) =
    ap (λ (rs : List Run). let s : StyledRuns = record { style = Paragraph; runs = rs } in s ∷ map (cell_said (map steady_run all)) cells) (range_steady all cell)
    ∙ ap (λ (cs : List StyledRuns). steady_runs (cell_said all cell) ∷ cs) (cells_steady all cells)

line_steady : (all : List Run) (line : MarkdownLine) → line_said (map steady_run all) line ≡ steady_line (line_said all line)
line_steady all (Normal style range) = ap (λ (rs : List Run). normal (record { style = style; runs = rs })) (range_steady all range)
line_steady all (Row cells) = ap table_row (cells_steady all cells.items)
line_steady all (Rule alignments) = refl
line_steady all HorizontalRule = refl

-- lines of steady runs are the lines made steady
pub lines_steady : (all made : List Run) (lines : List MarkdownLine) → made ≡ map steady_run all → lines_said made lines ≡ steady_lines (lines_said all lines)
unfolding lines_said steady_lines
lines_steady all made [] e = refl
lines_steady all made (line ∷ lines) e =
    ap (λ (rs : List Run). line_said rs line ∷ map (line_said made) lines) e
    ∙ ap (λ (l : LineContent). l ∷ map (line_said made) lines) (line_steady all line)
    ∙ ap (λ (ls : List LineContent). steady_line (line_said all line) ∷ ls) (lines_steady all made lines e)

-- ---- a run more

-- one more run is made steady, and those behind it are to come
pub run_more : (all made now : List Run) (index : ℕ) (run : Run) → slice_get all index ≡ Some run → now ≡ made ++ steady_run run ∷ [] → now ++ map steady_run (drop (index + 1) all) ≡ made ++ map steady_run (drop index all)
run_more all made now index run got is =
    let rest : List Run = map steady_run (drop (index + 1) all) in
    ap (λ (rs : List Run). rs ++ rest) is ∙ append_assoc made (steady_run run ∷ []) rest ∙ ap (λ (rs : List Run). made ++ map steady_run rs) (sym (drop_got all index run got))

-- where no run is to come, all are made steady
pub run_none : (all made : List Run) (index : ℕ) → slice_get all index ≡ None → made ++ map steady_run (drop index all) ≡ made
run_none all made index none = ap (λ (rs : List Run). made ++ map steady_run rs) (drop_all index all (none_past all index none)) ∙ append-nil made

-- ---- runs are texts

abbrev IsUtf8Run : Run → Type 0
IsUtf8Run run = IsUtf8 run.text

-- each of these runs is a text
abbrev pub AreTexts : List Run → Type 0
AreTexts runs = AllByRecursion IsUtf8Run runs

-- runs that begin and end between characters are texts
pub said_texts : (text : List ℕ) (places : List RunPlace) → IsUtf8 text → are_bordered text places ≡ true → AreTexts (runs_said text places)
unfolding runs_said are_bordered
said_texts text [] utf8 e = tt
said_texts text (place ∷ places) utf8 e =
    let parts = and_parts (is_bordered text place) (list_all (is_bordered text) places) e in
    (IsUtf8-between text place.start place.end utf8 (order_of text place parts.0) (first_of text place parts.0) (last_of text place parts.0), said_texts text places utf8 parts.1)

take_texts : (n : ℕ) (runs : List Run) → AreTexts runs → AreTexts (take n runs)
take_texts zero runs h = tt
take_texts (suc n) [] h = tt
take_texts (suc n) (r ∷ runs) h = (h.0, take_texts n runs h.1)

drop_texts : (n : ℕ) (runs : List Run) → AreTexts runs → AreTexts (drop n runs)
drop_texts zero runs h = h
drop_texts (suc n) [] h = tt
drop_texts (suc n) (r ∷ runs) h = drop_texts n runs h.1

range_texts : (all : List Run) (range : RunRange) → AreTexts all → AreTexts (range_said all range)
range_texts all range h = take_texts range.count (drop range.start all) (drop_texts range.start all h)

-- ---- steady runs

runs_are : (runs : List Run) → AreTexts runs → AreSteadyRuns (map steady_run runs)
runs_are [] h = tt
runs_are (run ∷ runs) h = (bytes_steady run.text (steady_run run).text h.0 refl, runs_are runs h.1)

cells_are : (all : List Run) (cells : List RunRange) → AreTexts all → AllByRecursion IsSteadyCell (map steady_runs (map (cell_said all) cells))
cells_are all [] h = tt
cells_are all (cell ∷ cells) h = (runs_are (range_said all cell) (range_texts all cell h), cells_are all cells h)

line_is : (all : List Run) (line : MarkdownLine) → AreTexts all → IsSteadyLine (steady_line (line_said all line))
line_is all (Normal style range) h = runs_are (range_said all range) (range_texts all range h)
line_is all (Row cells) h = cells_are all cells.items h
line_is all (Rule alignments) h = tt
line_is all HorizontalRule h = tt

-- lines that are made steady are steady
pub lines_are : (all : List Run) (lines : List MarkdownLine) → AreTexts all → AreSteadyLines (steady_lines (lines_said all lines))
unfolding lines_said steady_lines AreSteadyLines
lines_are all [] h = tt
lines_are all (line ∷ lines) h = (line_is all line h, lines_are all lines h)

-- ---- printed runs

abbrev is_fine : ℕ → Bool
is_fine c = not (is_obeyed c)

fine_range : (c : ℕ) → is_in_range 65 90 c ≡ true → is_fine c ≡ true
fine_range c h = grind (arith, nat_tests)

fine_syllable : (c : ℕ) → is_in_range 0xAC00 0xD7A3 c ≡ true → is_fine c ≡ true
fine_syllable c h = grind (arith, nat_tests)

made_fine : PassesWhatIsMade is_fine
made_fine = record { replacement = refl; khan = refl; lo = refl; letters = fine_range; syllables = fine_syllable }

none_all : (cs : List ℕ) → NonePass is_obeyed cs → list_all is_fine cs ≡ true
none_all [] h = refl
none_all (c ∷ cs) h = and_from (is_fine c) (list_all is_fine cs) (ap not h.0) (none_all cs h.1)

not_obeyed : (b : Bool) → not b ≡ true → b ≡ false
not_obeyed false h = refl
not_obeyed true h = absurd (no h)
  where
    no : false ≡ true → ⊥
    no e = cc

all_none : (cs : List ℕ) → list_all is_fine cs ≡ true → NonePass is_obeyed cs
all_none [] h = tt
all_none (c ∷ cs) h = let both = and_parts (is_fine c) (list_all is_fine cs) h in (not_obeyed (is_obeyed c) both.0, all_none cs both.1)

run_printed : (run : Run) → IsUtf8 run.text → IsPrintedRun run → IsPrintedRun (steady_run run)
run_printed run utf8 h =
    let fine : list_all is_fine (chars run.text) ≡ true = ap (list_all is_fine) (sym (chars_from_encodes h.0 run.text utf8 h.1)) ∙ none_all h.0 h.2 in
    let kept : list_all is_fine (steady_text (chars run.text)) ≡ true =
    ap (list_all is_fine) (sym (read_again run.text (steady_run run).text utf8 refl)) ∙ bytes_pass is_fine made_fine run.text (steady_run run).text utf8 refl fine in
    (steady_text (chars run.text), refl, all_none (steady_text (chars run.text)) kept)

runs_printed : (runs : List Run) → AreTexts runs → AllByRecursion IsPrintedRun runs → AllByRecursion IsPrintedRun (map steady_run runs)
runs_printed [] u h = tt
runs_printed (run ∷ runs) u h = (run_printed run u.0 h.0, runs_printed runs u.1 h.1)

cells_printed : (all : List Run) (cells : List RunRange) → AreTexts all → AllByRecursion IsPrintedCell (map (cell_said all) cells) → AllByRecursion IsPrintedCell (map steady_runs (map (cell_said all) cells))
cells_printed all [] u h = tt
cells_printed all (cell ∷ cells) u h = (runs_printed (range_said all cell) (range_texts all cell u) h.0, cells_printed all cells u h.1)

line_printed : (all : List Run) (line : MarkdownLine) → AreTexts all → IsPrintedLine (line_said all line) → IsPrintedLine (steady_line (line_said all line))
line_printed all (Normal style range) u h = runs_printed (range_said all range) (range_texts all range u) h
line_printed all (Row cells) u h = cells_printed all cells.items u h
line_printed all (Rule alignments) u h = tt
line_printed all HorizontalRule u h = tt

-- where no character of lines is obeyed, none is when they are made steady
pub lines_printed : (all : List Run) (lines : List MarkdownLine) → AreTexts all → ArePrinted (lines_said all lines) → ArePrinted (steady_lines (lines_said all lines))
unfolding lines_said steady_lines ArePrinted
lines_printed all [] u h = tt
lines_printed all (line ∷ lines) u h = (line_printed all line u h.0, lines_printed all lines u h.1)
