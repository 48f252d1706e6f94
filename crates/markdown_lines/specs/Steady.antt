-- Lines whose texts terminals count alike.
use Rattle.std.specs.Prelude.{◌≡◌, true, List, map, chars, encode_utf8_all}
use Rattle.std.specs.List.{AllByRecursion}
use Rattle.mad_steady.specs.Steady.{steady_text, are_steady}
use Rattle.mad_md.specs.Flagged.{Run}
use Rattle.mad_md.specs.Lines.{StyledRuns, LineContent, normal, table_row, table_rule, horizontal_rule}

-- a run's steady text: by itself, as if a line began there
abbrev pub steady_run : Run → Run
steady_run run = record { flags = run.flags; text = encode_utf8_all (steady_text (chars run.text)) }

-- a row or a cell, each of whose runs is steady
abbrev pub steady_runs : StyledRuns → StyledRuns
steady_runs row = record { style = row.style; runs = map steady_run row.runs }

-- a line, each of whose runs is steady
abbrev pub steady_line : LineContent → LineContent
steady_line (normal row) = normal (steady_runs row)
steady_line (table_row cells) = table_row (map steady_runs cells)
steady_line (table_rule rule) = table_rule rule
steady_line horizontal_rule = horizontal_rule

-- lines, each of whose runs is steady
unfoldable pub steady_lines : List LineContent → List LineContent
steady_lines lines = map steady_line lines

-- ---- which lines are steady

-- the run is steady by itself
abbrev pub IsSteadyRun : Run → Type 0
IsSteadyRun run = are_steady (chars run.text) ≡ true

-- each of these runs is steady
abbrev pub AreSteadyRuns : List Run → Type 0
AreSteadyRuns runs = AllByRecursion IsSteadyRun runs

-- each run of the cell is steady
abbrev pub IsSteadyCell : StyledRuns → Type 0
IsSteadyCell cell = AreSteadyRuns cell.runs

-- each run of the line is steady
abbrev pub IsSteadyLine : LineContent → Type 0
IsSteadyLine (normal row) = AreSteadyRuns row.runs
IsSteadyLine (table_row cells) = AllByRecursion IsSteadyCell cells
IsSteadyLine (table_rule rule) = Unit {0}
IsSteadyLine horizontal_rule = Unit {0}

-- each run of these lines is steady
unfoldable pub AreSteadyLines : List LineContent → Type 0
AreSteadyLines lines = AllByRecursion IsSteadyLine lines
