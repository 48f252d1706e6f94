-- What words are made of.
use Rattle.std.specs.Prelude.{ℕ, Bool, not, ◌==◌, ◌||◌}
use Rattle.std.specs.Char.{is_whitespace}
use Rattle.unicode.specs.Binary.{is_alphabetic}
use Rattle.unicode.specs.GeneralCategory.{general_category, general_category_number}
use Rattle.mad_edit_lines.specs.declared.words.CharClass.{CharClass}
use Rattle.mad_edit_lines.specs.declared.words.CharClass.TheVariants.{Alphanumeric, Word, NonSpace}

-- letters by Unicode's `Alphabetic`, and the three categories of numbers
abbrev pub is_alphanumeric : ℕ → Bool
is_alphanumeric c =
    is_alphabetic c
    || (general_category_number (general_category c) == 8)
    || (general_category_number (general_category c) == 9)
    || (general_category_number (general_category c) == 10)

-- whether a character is of a class
abbrev pub is_of : CharClass → ℕ → Bool
is_of Alphanumeric c = is_alphanumeric c
is_of Word c = is_alphanumeric c || (c == 95)
is_of NonSpace c = not (is_whitespace c)
