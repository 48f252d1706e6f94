-- The marks of the characters that belong to links. The characters with the flag of a link are counted in the order in which they are shown, without
-- whitespace. The link of number j has the mark 9 + j, as tones have the marks up to 8.
use Rattle.std.specs.Prelude.{ℕ, ◌+◌, List, [], ◌∷◌, ◌++◌, chars, if◌then◌else◌}
use Rattle.std.specs.List.{flat_map}
use Rattle.mad_mark_runs.specs.Marks.{count_of}
use Rattle.mad_mark_runs.specs.Values.{run_behind}
use Rattle.mad_mark_runs.specs.declared.mark_runs.MarkRun.{MarkRun}
use Rattle.mad_md.specs.Flagged.{Run}
use Rattle.mad_md.specs.Lines.{StyledRuns, LineContent, normal, table_row, table_rule, horizontal_rule}

-- ---- texts of links

-- the text of a run, if it belongs to a link
abbrev pub run_texts : Run → List (List ℕ)
run_texts run = if run.flags.link then run.text ∷ [] else []

-- of the runs of a row or a cell
abbrev pub row_texts : StyledRuns → List (List ℕ)
row_texts row = flat_map run_texts row.runs

-- of a line, cell by cell in a table
abbrev pub line_texts : LineContent → List (List ℕ)
line_texts (normal row) = row_texts row
line_texts (table_row cells) = flat_map row_texts cells
line_texts (table_rule rule) = []
line_texts horizontal_rule = []

-- of lines: the text of each run that belongs to a link
abbrev pub link_texts : List LineContent → List (List ℕ)
link_texts lines = flat_map line_texts lines

-- ---- marks

-- the mark of a section's first link
abbrev pub first_link : ℕ
first_link = 9

-- the marks of texts, each of the link of its number, behind those that end here
unfoldable pub marks_behind : ℕ → List ℕ → List (List ℕ) → List MarkRun
marks_behind end [] texts = []
marks_behind end (number ∷ numbers) [] = []
marks_behind end (number ∷ numbers) (text ∷ texts) = run_behind end (first_link + number) (count_of (chars text)) ++ marks_behind (end + count_of (chars text)) numbers texts

-- the marks of lines with links of these numbers
abbrev pub link_marks : List ℕ → List LineContent → List MarkRun
link_marks numbers lines = marks_behind 0 numbers (link_texts lines)
