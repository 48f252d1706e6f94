-- How a text is cut into style tokens.
use Rattle.std.specs.Prelude.{ℕ, zero, suc, ◌+◌, ◌-◌, ◌==◌, ◌||◌, ◌&&◌, not, Bool, false, List, [], ◌∷◌, map, take, drop, nat_lt, if◌then◌else◌}
use Rattle.std.specs.List.{prefix_len}
use Rattle.std.specs.Char.{is_whitespace, is_ascii_alphanumeric}
use Rattle.mad_parse.specs.declared.cuts.Class.{Class}
use Rattle.mad_parse.specs.declared.cuts.Class.TheVariants.{Word, Inside}
use Rattle.std.specs.Str.{chars, encode_utf8_all}

-- a character of a word: neither whitespace nor a bracket
abbrev pub is_word_char : ℕ → Bool
is_word_char c = not (is_whitespace c || c == 40 || c == 41)

-- a character that may be in the bracket after a word: an ASCII letter or digit, an underscore, a comma or whitespace
abbrev pub is_inside_char : ℕ → Bool
is_inside_char c = is_ascii_alphanumeric c || c == 95 || c == 44 || is_whitespace c

-- whether a text begins with this character
abbrev pub begins_with : ℕ → List ℕ → Bool
begins_with c [] = false
begins_with c (d ∷ ds) = d == c

-- the two kinds of characters
abbrev pub is_in : Class → ℕ → Bool
is_in Word c = is_word_char c
is_in Inside c = is_inside_char c

-- How many characters a bracket takes, with n characters inside and this text after them. 0, where n is 0 or the bracket
-- stays open.
abbrev pub closed_len : ℕ → List ℕ → ℕ
closed_len n rest = if nat_lt 0 n && begins_with 41 rest then n + 2 else 0

-- how many characters the bracket takes that opens a text; 0 where none does
abbrev pub bracket_len : List ℕ → ℕ
bracket_len [] = 0
bracket_len (c ∷ cs) = if c == 40 then closed_len (prefix_len is_inside_char cs) (drop (prefix_len is_inside_char cs) cs) else 0

-- how many characters a token takes that begins with a word of n: the word and the bracket after it; one where n is 0
abbrev pub word_len : ℕ → List ℕ → ℕ
word_len n cs = if n == 0 then 1 else n + bracket_len (drop n cs)

-- how many characters the first token of a text takes
abbrev pub token_len : List ℕ → ℕ
token_len cs = word_len (prefix_len is_word_char cs) cs

-- the tokens of a text of characters, when the first few characters belong to a token that is done
abbrev pub cut_after : ℕ → List ℕ → List (List ℕ)
cut_after skip [] = []
cut_after (suc skip) (c ∷ cs) = cut_after skip cs
cut_after zero (c ∷ cs) =
    if is_whitespace c then cut_after 0 cs
    else take (token_len (c ∷ cs)) (c ∷ cs) ∷ cut_after (token_len (c ∷ cs) - 1) cs

-- the tokens of a text, each a text
abbrev pub token_texts : List ℕ → List (List ℕ)
token_texts text = map encode_utf8_all (cut_after 0 (chars text))
