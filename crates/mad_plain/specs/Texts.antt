-- Texts: bytes as characters, and their lines.
use Rattle.std.specs.Prelude.{ℕ, Bool, ◌==◌, List, map, chars}
use Rattle.std.specs.List.{slice_split}
use Rattle.std.specs.Str.Lines.{strip_carriage_return}
use Rattle.std.specs.Str.Lossy.{utf8_lossy}
use Rattle.mad_md.specs.Parts.{without_last_empty}
use Rattle.mad_plain.specs.Runs.{StyledChar}
use Rattle.mad_plain.specs.Lines.{line_chars}

-- the byte is a newline
abbrev pub is_newline_byte : ℕ → Bool
is_newline_byte b = b == 10

-- The lines of a text: its parts between newlines, but for an empty last one. Each is without the one carriage return that it may end with.
abbrev pub text_lines : List ℕ → List (List ℕ)
text_lines text = map strip_carriage_return (without_last_empty (slice_split is_newline_byte text))

-- what is shown of bytes, line by line
abbrev pub plain_rows : List ℕ → List (List StyledChar)
plain_rows bytes = map (λ line. line_chars (chars line)) (text_lines (utf8_lossy bytes))
