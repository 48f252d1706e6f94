-- Printable texts keep the cells of their tables.
use Rattle.std.specs.Prelude.{◌≡◌, ℕ, false, ◌&&◌, List, ◌∷◌, map, chars, encode_utf8_all}
use Rattle.std.specs.Char.{is_control, is_whitespace}
use Rattle.std.specs.List.{AllByRecursion}
use Rattle.std.specs.Str.{IsUtf8}
use Rattle.mad_md.specs.Flagged.{Flags, Run}
use Rattle.mad_md.specs.Lines.{StyledRuns, LineContent, table_row}
use Rattle.mad_md.specs.Scan.{cut_cells, cell_of, line_of}
use Rattle.mad_measure.specs.Printable.{printable_text}

-- no whitespace among the characters is a control character
abbrev pub HaveNoWhitespaceControl : List ℕ → Type 0
HaveNoWhitespaceControl cs = AllByRecursion (λ c. (is_whitespace c && is_control c) ≡ false) cs

-- the printable text for a text in bytes
abbrev pub shown_bytes : List ℕ → List ℕ
shown_bytes text = encode_utf8_all (printable_text (chars text))

-- a run of the printable text, with the same flags
abbrev pub shown_run : Run → Run
shown_run run = record run { text = shown_bytes run.text }

-- a cell of the printable runs, with the same style
abbrev pub shown_cell : StyledRuns → StyledRuns
shown_cell cell = record cell { runs = map shown_run cell.runs }

-- a row of the printable cells; any other line as it is
abbrev pub shown_part : LineContent → LineContent
shown_part (table_row cells) = table_row (map shown_cell cells)
shown_part rule = rule

-- A table's line, after its first bar, is cut into as many cells, each of the printable text. Each of them says what it said, in printable
-- texts: it has the same style, and runs with the same flags. So the line is the same rule, or a row of as many cells.
pub record KeepsItsCells (part : List ℕ) : Type 0 where
  pub texts : cut_cells false (shown_bytes part) ≡ map shown_bytes (cut_cells false part)
  pub cells : map cell_of (cut_cells false (shown_bytes part)) ≡ map shown_cell (map cell_of (cut_cells false part))
  pub line : (carried : Flags) → line_of false carried (shown_bytes (124 ∷ part)) ≡ shown_part (line_of false carried (124 ∷ part))

-- each table's line that is made printable keeps its cells, where no whitespace in it is a control character
abbrev pub TableLinesKeepTheirCells : Type 0
TableLinesKeepTheirCells = (part : List ℕ) → IsUtf8 part → HaveNoWhitespaceControl (chars part) → KeepsItsCells part
