-- Escapes and entities.
use Rattle.std.specs.Prelude.{ℕ, ◌+◌, ◌-◌, ◌*◌, ◌==◌, ◌||◌, ◌&&◌, not, nat_lt, nat_le, min, if◌then◌else◌, List, [], ◌∷◌, drop, take, Option, Some, None, option_map}
use Rattle.std.specs.List.{prefix_len}
use Rattle.std.specs.Char.{is_ascii_digit, is_ascii_hexdigit, is_ascii_alphanumeric, is_ascii_punctuation, to_ascii_lowercase}
use Rattle.std.specs.Str.Parse.{digits_value}
use Rattle.markdown_marks.specs.Bytes.{first}
use Rattle.markdown_entities.specs.declared.lookup.Named.{Named}
use Rattle.markdown_entities.specs.Lookup.{characters_named}
use Rattle.markdown_spans.specs.declared.entities.Escape.{Escape}
use Rattle.markdown_spans.specs.declared.entities.Escape.TheVariants.{Sign, Break, Itself}
use Rattle.markdown_spans.specs.declared.entities.Entity.{Entity}

-- what a backslash is, by what follows it
abbrev pub escape_of : List ℕ → Escape
escape_of [] = Itself
escape_of (b ∷ bs) = if b == 10 then Break else if is_ascii_punctuation b then Sign b else Itself

-- what a hexadecimal digit stands for
abbrev pub digit : ℕ → ℕ
digit b = if nat_le b 57 then min (b - 48) 15 else min (to_ascii_lowercase b - 87) 15

-- the number that hexadecimal digits write after one that others have written
unfoldable pub value_after : ℕ → List ℕ → ℕ
value_after n [] = n
value_after n (b ∷ bs) = value_after (n * 16 + digit b) bs

-- 0, and what is no character, become U+FFFD
abbrev pub char_of : ℕ → ℕ
char_of n = if (n == 0) || (nat_le 55296 n && nat_lt n 57344) || nat_lt 1114111 n then 65533 else n

-- an entity of so many bytes that stands for this character
abbrev pub with_char : ℕ → ℕ → Entity
with_char len c = record { shown = c; second = None; len = len }

-- one to six hexadecimal digits
abbrev pub hexadecimal : List ℕ → Option Entity
hexadecimal bytes =
    let len = prefix_len is_ascii_hexdigit bytes in
    if (len == 0) || nat_lt 6 len || not (first (drop len bytes) == 59) then None
    else Some (with_char (len + 3) (char_of (value_after 0 (take len bytes))))

-- one to seven digits
abbrev pub decimal : List ℕ → Option Entity
decimal bytes =
    let len = prefix_len is_ascii_digit bytes in
    if (len == 0) || nat_lt 7 len || not (first (drop len bytes) == 59) then None
    else Some (with_char (len + 2) (char_of (digits_value 10 (take len bytes))))

-- the entity that a number writes, with an x in front in hexadecimal digits
abbrev pub numeric : List ℕ → Option Entity
numeric rest = if (first rest == 120) || (first rest == 88) then hexadecimal (drop 1 rest) else decimal rest

-- an entity of so many bytes that stands for what its name says
abbrev pub with_named : ℕ → Named → Entity
with_named len n = record { shown = n.first; second = n.second; len = len }

-- letters and digits
abbrev pub named : List ℕ → Option Entity
named rest =
    let len = prefix_len is_ascii_alphanumeric rest in
    if first (drop len rest) == 59 then option_map (with_named (len + 1)) (characters_named (take len rest)) else None

-- the entity that a rest begins with, after its &
abbrev pub entity_of : List ℕ → Option Entity
entity_of rest = if first rest == 35 then numeric (drop 1 rest) else named rest
