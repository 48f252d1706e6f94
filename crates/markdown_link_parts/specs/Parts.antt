-- Destinations and titles, as they are written.
use Rattle.std.specs.Prelude.{ℕ, ◌-◌, ◌==◌, Bool, true, false, if◌then◌else◌, List, [], ◌∷◌, length, take, drop, Option, Some, None}
use Rattle.markdown_marks.specs.Bytes.{first, without_blanks}
use Rattle.markdown_marks.specs.Definitions.{after_label, after_destination, title_after, after_space}

-- what is before the rest that follows it
abbrev pub before : List ℕ → Option (List ℕ) → List ℕ
before text None = []
before text (Some rest) = take (length text - length rest) text

-- without the first byte and the last
abbrev pub inner : List ℕ → List ℕ
inner text = drop 1 (take (length text - 1) text)

-- the destination that a text begins with, without its angle brackets
abbrev pub destination_in : List ℕ → List ℕ
destination_in text = if first text == 60 then inner (before text (after_destination text)) else before text (after_destination text)

-- the title that a text begins with, without its quotes or parentheses
abbrev pub title_in : List ℕ → List ℕ
title_in text = inner (before text (title_after text))

-- what follows the blanks behind a destination
abbrev pub behind : Option (List ℕ) → List ℕ
behind None = []
behind (Some rest) = after_space rest

-- ---- of a link: (destination "title")

-- what follows the opening parenthesis and blanks
abbrev pub inline_text : List ℕ → List ℕ
inline_text link = after_space (drop 1 link)

-- the destination that stands there
abbrev pub inline_destination : List ℕ → List ℕ
inline_destination link = destination_in (inline_text link)

-- the title that follows the destination
abbrev pub inline_title : List ℕ → List ℕ
inline_title link = title_in (behind (after_destination (inline_text link)))

-- ---- of a definition: [label]: destination "title"

-- what follows the colon behind a label, and blanks
abbrev pub label_behind : Option (List ℕ) → List ℕ
label_behind None = []
label_behind (Some rest) = after_space (drop 1 rest)

-- what is left of a definition from its destination on
abbrev pub defined_text : List ℕ → List ℕ
defined_text definition = label_behind (after_label 0 false false (drop 1 definition))

-- the destination that a definition has
abbrev pub defined_destination : List ℕ → List ℕ
defined_destination definition = destination_in (defined_text definition)

-- nothing but blanks up to the end of the line
abbrev pub ends_line : List ℕ → Bool
ends_line [] = true
ends_line (b ∷ bs) = b == 10

-- nothing but blanks follows a title in its line
abbrev pub is_title : Option (List ℕ) → Bool
is_title None = false
is_title (Some rest) = ends_line (without_blanks rest)

-- a title has the rest of its line alone, and blanks before it
abbrev pub defined_title_in : List ℕ → List ℕ → List ℕ
defined_title_in rest text = if (length text == length rest) then [] else if is_title (title_after text) then title_in text else []

-- the title that follows a destination, if there is one
abbrev pub defined_title_by : Option (List ℕ) → List ℕ
defined_title_by None = []
defined_title_by (Some rest) = defined_title_in rest (after_space rest)

-- the title of a definition, if it has one
abbrev pub defined_title : List ℕ → List ℕ
defined_title definition = defined_title_by (after_destination (defined_text definition))
