-- The names of headings, to which a link goes that begins with `#`: those that GitHub gives them.
use Rattle.std.specs.Prelude.{ℕ, zero, suc, ◌==◌, ◌&&◌, ◌||◌, not, Bool, List, [], ◌∷◌, ◌++◌, count_by, decimal, if◌then◌else◌}
use Rattle.std.specs.List.{flat_map}
use Rattle.std.specs.Str.{chars, encode_utf8_all, bytes_eq}
use Rattle.std.specs.Char.Unicode.ToLowercase.{to_lowercase}
use Rattle.ucd_perl.specs.Perl.{is_word_char}

-- A letter, a mark, a decimal digit or a joining mark of punctuation such as `_`, and a hyphen (45). The joiners U+200C and U+200D are none of them.
abbrev pub is_name_char : ℕ → Bool
is_name_char c = (c == 45) || (is_word_char c && not ((c == 0x200C) || (c == 0x200D)))

-- what is left of a character: a space (32) becomes a hyphen, and all else is dropped
abbrev pub name_char : ℕ → List ℕ
name_char c = if c == 32 then 45 ∷ [] else (if is_name_char c then c ∷ [] else [])

-- the name of a heading, by what is shown of it: in small letters, and then what is left of these
abbrev pub heading_name : List ℕ → List ℕ
heading_name text = flat_map name_char (flat_map to_lowercase text)

-- the same of a text in bytes
abbrev pub name_bytes : List ℕ → List ℕ
name_bytes text = encode_utf8_all (heading_name (chars text))

-- how many of these texts are that one
abbrev pub times : List ℕ → List (List ℕ) → ℕ
times name names = count_by (λ other. bytes_eq other name) names

-- a name where so many headings before have it: the second gets `-1` (45, and 1 in decimal), the third `-2`
abbrev pub numbered : List ℕ → ℕ → List ℕ
numbered name zero = name
numbered name (suc n) = name ++ 45 ∷ decimal (suc n)

-- the names of headings in order, where some names came before
abbrev pub names_after : List (List ℕ) → List (List ℕ) → List (List ℕ)
names_after before [] = []
names_after before (text ∷ texts) =
    let name = name_bytes text in
    numbered name (times name before) ∷ names_after (before ++ name ∷ []) texts

-- the names of all headings of a text, in order
abbrev pub heading_names : List (List ℕ) → List (List ℕ)
heading_names texts = names_after [] texts
