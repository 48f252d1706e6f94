-- Texts and addresses as html has them.
use Rattle.std.specs.Prelude.{ℕ, ◌+◌, ◌/◌, ◌%◌, Bool, ◌||◌, ◌==◌, nat_lt, List, [], ◌∷◌, ◌++◌, codes, flat_map, if◌then◌else◌}
use Rattle.std.specs.List.{list_any}
use Rattle.std.specs.Char.{is_ascii_alphanumeric}

-- & < > and " are entities
abbrev pub escaped_byte : ℕ → List ℕ
escaped_byte b =
    if b == 38 then codes "&amp;" else if b == 60 then codes "&lt;" else if b == 62 then codes "&gt;" else if b == 34 then codes "&quot;" else b ∷ []

-- a text, in which these are entities
unfoldable pub escaped : List ℕ → List ℕ
escaped text = flat_map escaped_byte text

-- letters, digits, and the signs that an address may have as they are
abbrev pub is_address_byte : ℕ → Bool
is_address_byte b = is_ascii_alphanumeric b || list_any (λ sign. sign == b) (codes "-_.+!*(),%#@?=;:/$~")

-- a digit of base 16, whose letters are capitals
abbrev pub hex_digit : ℕ → ℕ
hex_digit n = if nat_lt n 10 then 48 + n else 55 + n

-- a byte becomes a sign % and two digits of base 16
abbrev pub percent : ℕ → List ℕ
percent b = 37 ∷ hex_digit (b / 16) ∷ hex_digit (b % 16) ∷ []

-- in an attribute, where & and ' are entities
abbrev pub addressed_byte : ℕ → List ℕ
addressed_byte b = if b == 38 then codes "&amp;" else if b == 39 then codes "&#x27;" else if is_address_byte b then b ∷ [] else percent b

-- an address, as an attribute has it
unfoldable pub addressed : List ℕ → List ℕ
addressed address = flat_map addressed_byte address

-- ---- tags

-- the tag that begins an element without attributes
abbrev pub tag : List ℕ → List ℕ
tag name = 60 ∷ (name ++ 62 ∷ [])

-- the tag that ends an element
abbrev pub end_tag : List ℕ → List ℕ
end_tag name = 60 ∷ 47 ∷ (name ++ 62 ∷ [])

-- a text between a tag and its end
abbrev pub within : List ℕ → List ℕ → List ℕ
within name text = tag name ++ (text ++ end_tag name)

-- a name, an equals sign, and a value in quotes, behind a space
abbrev pub attribute : List ℕ → List ℕ → List ℕ
attribute name value = 32 ∷ (name ++ (61 ∷ 34 ∷ (value ++ 34 ∷ [])))
