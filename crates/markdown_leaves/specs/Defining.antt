-- Lines of a paragraph that are definitions of links.
use Rattle.std.specs.Prelude.{ℕ, zero, suc, ◌+◌, ◌-◌, Bool, false, ◌||◌, ◌==◌, List, [], ◌∷◌, ◌++◌, length, min, count_by, Option, Some, None, if◌then◌else◌}
use Rattle.markdown_marks.specs.Bytes.{first}
use Rattle.markdown_marks.specs.Definitions.{after_definition}
use Rattle.markdown_marks.specs.Remaining.{Remaining}

-- a line after those before it
abbrev pub add_line : List ℕ → List ℕ → List ℕ
add_line text line = (if length text == 0 then text else text ++ 10 ∷ []) ++ line

-- a text, and these lines after it, with newlines between them
unfoldable pub joined : List ℕ → List Remaining → List ℕ
joined text [] = text
joined text (line ∷ lines) = joined (add_line text line.bytes) lines

-- the definition in front goes, and then others; without one the text stays
abbrev pub defined_or : Option (List ℕ) → List ℕ → (List ℕ → List ℕ) → List ℕ
defined_or None text others = text
defined_or (Some rest) text others = others rest

-- what follows the definitions in front, at most so many
unfoldable pub after_definitions : ℕ → List ℕ → List ℕ
after_definitions zero text = text
after_definitions (suc count) text = defined_or (after_definition text) text (after_definitions count)

-- how many lines a text has, at most so many
abbrev pub lines_in : ℕ → List ℕ → ℕ
lines_in most text = if (length text == 0) || (most == 0) then 0 else min (count_by (λ b. b == 10) text) (most - 1) + 1

-- the first line begins with a bracket, as definitions do
abbrev pub begins_with_bracket : List Remaining → Bool
begins_with_bracket [] = false
begins_with_bracket (line ∷ lines) = first line.bytes == 91

-- how many of the last lines of a paragraph are no definitions
unfoldable pub kept_lines : List Remaining → ℕ
kept_lines lines =
    if begins_with_bracket lines then lines_in (length lines) (after_definitions (length (joined [] lines)) (joined [] lines)) else length lines

-- how many of its first lines are
abbrev pub cut_lines : List Remaining → ℕ
cut_lines lines = length lines - kept_lines lines
