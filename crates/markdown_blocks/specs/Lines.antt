-- The lines of a text. A newline ends a line, or a return, or both together.
use Rattle.std.specs.Prelude.{ℕ, Bool, ◌||◌, ◌&&◌, ◌==◌, List, [], ◌∷◌, if◌then◌else◌}
use Rattle.std.specs.List.{onto_first}
use Rattle.markdown_marks.specs.Bytes.{first}

-- a newline or a return
abbrev pub is_line_end : ℕ → Bool
is_line_end b = (b == 10) || (b == 13)

-- a return before a newline
abbrev pub is_pair : ℕ → List ℕ → Bool
is_pair b bs = (b == 13) && (first bs == 10)

-- The lines, without their ends. What follows the last end is a line unless it is empty.
unfoldable pub text_lines : List ℕ → List (List ℕ)
text_lines [] = []
text_lines (b ∷ bs) = if is_pair b bs then text_lines bs else if is_line_end b then [] ∷ text_lines bs else onto_first b (text_lines bs)

-- how many bytes of an end of a line are in front
abbrev pub end_len : List ℕ → ℕ
end_len [] = 0
end_len (b ∷ bs) = if is_pair b bs then 2 else 1
