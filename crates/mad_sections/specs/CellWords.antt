-- The longest words of cells. A word is characters in a row that aren't blank, of one compound or of several.
use Rattle.std.specs.Prelude.{ℕ, ◌+◌, ◌-◌, ◌^◌, min, max, if◌then◌else◌, List, [], ◌∷◌}
use Rattle.mad_characters.specs.Columns.{char_columns}
use Rattle.mad_md.specs.Flagged.{FlaggedChar, is_blank}
use Rattle.mad_sections.specs.declared.cell_words.Words.{Words}

-- a count, 2^64 - 1 at most
abbrev pub capped : ℕ → ℕ
capped n = min n (2 ^ 64 - 1)

-- the columns of the longest word of a text, after a word of so many columns that has begun
abbrev pub longest_from : ℕ → List FlaggedChar → ℕ
longest_from word [] = word
longest_from word (x ∷ xs) = if is_blank x then max word (longest_from 0 xs) else longest_from (word + char_columns x.char) xs

-- the columns of the longest word of a text, 0 where there is none
abbrev pub longest_word : List FlaggedChar → ℕ
longest_word text = longest_from 0 text

-- the columns of the longest word after these words and in the text that follows, 2^64 - 1 at most
abbrev pub longest_after : Words → List FlaggedChar → ℕ
longest_after words text = capped (max words.longest (longest_from words.last text))
