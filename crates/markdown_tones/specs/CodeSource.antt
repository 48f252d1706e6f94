-- The source of lines of code as it is shown: what remains of each, with its pending blanks, and a newline.
use Rattle.std.specs.Prelude.{ℕ, ◌==◌, ◌||◌, List, [], ◌∷◌, ◌++◌, map, replicate, chars, encode_utf8_all, if◌then◌else◌}
use Rattle.std.specs.List.{flat_map}
use Rattle.std.specs.Str.Lossy.{utf8_lossy}
use Rattle.mad_characters.specs.Pictures.{picture}
use Rattle.mad_steady.specs.Steady.{steady_text}
use Rattle.markdown_marks.specs.Remaining.{Remaining}

-- what is shown of a character; a tab stays, since it tells more than the blanks that are shown of it, and so does a newline
abbrev pub pictured : ℕ → ℕ
pictured c = if (c == 9) || (c == 10) then c else picture c

-- the characters of a line's bytes that are shown, and its tabs: none that is gone in the steady text
abbrev pub shown_source : List ℕ → List ℕ
shown_source bytes = steady_text (map pictured (chars (utf8_lossy bytes)))

-- a line, which begins with its pending blanks and ends in a newline
abbrev pub line_source : Remaining → List ℕ
line_source line = replicate line.pending 32 ++ (encode_utf8_all (shown_source line.bytes) ++ 10 ∷ [])

-- the source that these lines are, one after the other
abbrev pub code_source : List Remaining → List ℕ
code_source lines = flat_map line_source lines
