-- Capitals in what is sought.
use Rattle.std.specs.Prelude.{ℕ, ◌==◌, Bool, false, not, ◌&&◌, ◌||◌, List, [], ◌∷◌, chars}
use Rattle.std.specs.StrCase.Lower.{lowercase_before}

-- one character alone, or else another
abbrev pub alone_or : ℕ → List ℕ → ℕ
alone_or c (letter ∷ []) = letter
alone_or c letters = c

-- the small form of a character, as Unicode has it; a character whose small form isn't one character is its own
abbrev pub small : ℕ → ℕ
small c = alone_or c (lowercase_before false c [])

-- a character is a capital: its small form is another one
abbrev pub is_capital : ℕ → Bool
is_capital c = not (small c == c)

-- A capital is among characters. One behind a backslash (92) doesn't count, as the W of `\W`, and the first character may be behind one.
abbrev pub capital_in : Bool → List ℕ → Bool
capital_in behind [] = false
capital_in behind (c ∷ cs) = (not behind && is_capital c) || capital_in (not behind && (c == 92)) cs

-- a text has a capital that isn't behind a backslash
abbrev pub has_capital : List ℕ → Bool
has_capital text = capital_in false (chars text)
