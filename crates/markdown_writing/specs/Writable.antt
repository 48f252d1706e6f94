-- Pages that are read as they are written.
use Rattle.std.specs.Prelude.{◌≡◌, ℕ, Bool, true, false, not, ◌||◌, ◌&&◌, ◌==◌, nat_le, List, [], ◌∷◌, length}
use Rattle.std.specs.List.{list_all}
use Rattle.markdown_marks.specs.Bytes.{first, is_blank_byte}
use Rattle.markdown_writing.specs.Phrases.{Phrase, plain, code_span, emphasis, link}

-- a tab, or the end of a line
abbrev pub is_tab_or_end : ℕ → Bool
is_tab_or_end b = (b == 9) || (b == 10) || (b == 13)

-- a line without tabs
abbrev pub is_line : List ℕ → Bool
is_line bytes = list_all (λ b. not (is_tab_or_end b)) bytes

-- the last byte is no blank
abbrev pub ends_full : List ℕ → Bool
ends_full [] = false
ends_full (b ∷ []) = not (is_blank_byte b)
ends_full (b ∷ (c ∷ cs)) = ends_full (c ∷ cs)

-- some bytes, without tabs and ends of lines
abbrev pub is_some_line : List ℕ → Bool
is_some_line [] = false
is_some_line (b ∷ bs) = is_line (b ∷ bs)

-- a byte of a destination: a printable one of ASCII, but no space and none of & ( ) < \
abbrev pub is_direct : ℕ → Bool
is_direct b = nat_le 33 b && nat_le b 126 && not ((b == 38) || (b == 40) || (b == 41) || (b == 60) || (b == 92))

-- some of these bytes
abbrev pub is_destination : List ℕ → Bool
is_destination [] = false
is_destination (b ∷ bs) = list_all is_direct (b ∷ bs)

-- a phrase of one byte at least
abbrev pub is_phrase : Phrase → Bool
is_phrase (plain words) = is_some_line words
is_phrase (code_span code) = is_some_line code
is_phrase (emphasis strong words) = is_some_line words
is_phrase (link words destination) = is_some_line words && is_destination destination

-- the first phrase is words as they are
abbrev pub begins_words : List Phrase → Bool
begins_words (plain words ∷ phrases) = true
begins_words _ = false

-- the first phrase is code
abbrev pub begins_code : List Phrase → Bool
begins_code (code_span code ∷ phrases) = true
begins_code _ = false

-- the first phrase is emphasis, strong or not
abbrev pub begins_emphasis : List Phrase → Bool
begins_emphasis (emphasis strong words ∷ phrases) = true
begins_emphasis _ = false

-- the first phrase is a link
abbrev pub begins_link : List Phrase → Bool
begins_link (link words destination ∷ phrases) = true
begins_link _ = false

-- the first phrase is of the same kind as this one
abbrev pub begins_alike : Phrase → List Phrase → Bool
begins_alike (plain words) phrases = begins_words phrases
begins_alike (code_span code) phrases = begins_code phrases
begins_alike (emphasis strong words) phrases = begins_emphasis phrases
begins_alike (link words destination) phrases = begins_link phrases

-- No two phrases of one kind stand side by side.
abbrev pub take_turns : List Phrase → Bool
take_turns [] = true
take_turns (phrase ∷ phrases) = not (begins_alike phrase phrases) && take_turns phrases

-- Phrases without tabs and ends of lines. None is empty, and no two of one kind stand side by side: words, code, emphasis, links.
pub record ArePhrases (phrases : List Phrase) : Type 0 where
  pub turns : take_turns phrases ≡ true
  pub each : list_all is_phrase phrases ≡ true

-- the first phrase is code, or words that begin with no blank and aren't a link
abbrev pub begins_full : List Phrase → Bool
begins_full [] = false
begins_full (plain words ∷ phrases) = not (is_blank_byte (first words))
begins_full (code_span code ∷ phrases) = true
begins_full (emphasis strong words ∷ phrases) = not (is_blank_byte (first words))
begins_full (link words destination ∷ phrases) = false

-- the last phrase ends with no blank
abbrev pub line_ends_full : List Phrase → Bool
line_ends_full [] = false
line_ends_full (plain words ∷ []) = ends_full words
line_ends_full (code_span code ∷ []) = true
line_ends_full (emphasis strong words ∷ []) = true
line_ends_full (link words destination ∷ []) = true
line_ends_full (p ∷ (q ∷ qs)) = line_ends_full (q ∷ qs)

-- A line: phrases that neither begin nor end with a blank, and don't begin with a link.
pub record IsLine (phrases : List Phrase) : Type 0 where
  pub are : ArePhrases phrases
  pub begins : begins_full phrases ≡ true
  pub ends : line_ends_full phrases ≡ true

-- the first phrase is no words that begin with a blank
abbrev pub begins_cell : List Phrase → Bool
begins_cell (plain words ∷ phrases) = not (is_blank_byte (first words))
begins_cell _ = true

-- A cell: no phrases, or some that neither begin nor end with a blank. It may begin with a link.
pub data IsCell : List Phrase → Type 0 where
  empty_cell : IsCell []
  full_cell : (phrases : List Phrase) → ArePhrases phrases → begins_cell phrases ≡ true → line_ends_full phrases ≡ true → IsCell phrases

-- each is a cell
abbrev pub AreCells : List (List Phrase) → Type 0
AreCells [] = Unit {0}
AreCells (cell ∷ cells) = IsCell cell × AreCells cells

-- each row has so many cells
abbrev pub AreRows : ℕ → List (List (List Phrase)) → Type 0
AreRows columns [] = Unit {0}
AreRows columns (row ∷ rows) = (length row ≡ columns) × AreCells row × AreRows columns rows
