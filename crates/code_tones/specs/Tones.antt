-- The tones of a text of code. Each character of it that isn't blank has that of the token in which its first byte is.
use Rattle.std.specs.Prelude.{ℕ, suc, Bool, not, List, [], ◌∷◌, map, drop, replicate, slice_index, Option}
use Rattle.std.specs.List.{filter, flat_map}
use Rattle.std.specs.Char.{is_whitespace}
use Rattle.bstr.specs.Utf8.{Decoded, or_replacement, pieces}
use Rattle.code_tables.specs.declared.rules.Class.{Class}
use Rattle.code_tables.specs.declared.rules.Class.TheVariants.{Plain, Comment, Text, Number, Keyword, Name, Key, Inserted, Deleted}
use Rattle.code_tables.specs.declared.rules.Language.{Language}
use Rattle.code_colors.specs.declared.tokens.Token.{Token}
use Rattle.code_colors.specs.Tokens.{tokens_by}

-- ---- tones

-- the tone of a class
abbrev pub tone_of : Class → ℕ
tone_of Plain = 0
tone_of Comment = 1
tone_of Text = 2
tone_of Number = 3
tone_of Keyword = 4
tone_of Name = 5
tone_of Key = 6
tone_of Inserted = 7
tone_of Deleted = 8

-- a token's bytes have the tone of its class
abbrev pub token_tones : Token → List ℕ
token_tones t = replicate (suc t.more) (tone_of t.class)

-- the tones of the bytes of tokens
abbrev pub byte_tones : List Token → List ℕ
byte_tones tokens = flat_map token_tones tokens

-- ---- characters

-- a character of a text, as it stands there, with its tone
pub record TonedChar : Type 0 where
  pub tone : ℕ
  pub char : ℕ

-- characters with the tones of their first bytes; bytes that are no character are one, U+FFFD
abbrev pub toned : List ℕ → List Decoded → List TonedChar
toned tones [] = []
toned tones (p ∷ ps) = record { tone = slice_index tones 0; char = or_replacement p.char } ∷ toned (drop p.size tones) ps

-- it is no whitespace
abbrev pub is_counted : ℕ → Bool
is_counted c = not (is_whitespace c)

-- the tones of the characters that are counted
abbrev pub counted_tones : List TonedChar → List ℕ
counted_tones cs = map (λ c. c.tone) (filter (λ c. is_counted c.char) cs)

-- ---- a text

-- the characters of a text of code, each with its tone
abbrev pub toned_text : Option Language → List ℕ → List TonedChar
toned_text language text = toned (byte_tones (tokens_by language text)) (pieces text)

-- THE DEFINITION: the tones of a text's counted characters, in order
abbrev pub tones_of : Option Language → List ℕ → List ℕ
tones_of language text = counted_tones (toned_text language text)
