-- What a line that was read decides.
use Rattle.std.specs.Prelude.{ℕ, List, [], ◌++◌, Option, Some, codes, if◌then◌else◌}
use Rattle.std.specs.Str.{is_utf8, trim_end}
use Rattle.mad_ask.specs.Offers.{Offered, is_key}

-- an answer, or that the line is no text, or nothing yet
pub data Decision : Type 0 where
  Answered : List ℕ → Decision
  NoText : Decision
  Undecided : Decision

-- what a line without the whitespace at its end decides: an empty one is the default, if there is one, and a key is itself
abbrev pub text_decides : Offered → Option (List ℕ) → List ℕ → Decision
text_decides offered (Some default) [] = Answered default
text_decides offered default text = if is_key offered text then Answered text else Undecided

-- what a line decides, by its bytes
abbrev pub line_decides : Offered → List ℕ → Decision
line_decides offered line =
    if is_utf8 line then text_decides offered offered.default (trim_end line) else NoText

-- what is said of a text that decides nothing
abbrev pub not_understood : List ℕ → List ℕ
not_understood text = codes "answer \"" ++ (text ++ codes "\" not understood\n")

-- what is said of a line that decides nothing: it is shown without the whitespace at its end
abbrev pub complaint : List ℕ → List ℕ
complaint line = not_understood (trim_end line)
