-- The rows of a leaf: its characters, one row after another, without the blanks at the ends of rows.
use Rattle.std.specs.Prelude.{◌≡◌, ℕ, Bool, true, false, not, ◌||◌, ◌&&◌, ◌==◌, List, [], ◌∷◌, ◌++◌, map, filter, reverse, is_some, encode_utf8, if◌then◌else◌}
use Rattle.std.specs.List.{flat_map, AllByRecursion}
use Rattle.mad_md.specs.Flagged.{Flags, FlaggedChar, Run, flagged}
use Rattle.mad_md.specs.Lines.{LineContent, normal}
use Rattle.mad_md.specs.declared.composite.CompositeStyle.TheVariants.{Paragraph}
use Rattle.markdown_inlines.specs.declared.looks.Look.{Look}
use Rattle.markdown_inlines.specs.Styled.{Shown}
use Rattle.markdown_inlines.specs.Inlines.{leaf_text}
use Rattle.markdown_lines.specs.Leaf.{leaf_rows, cell_runs}

-- ---- characters

-- the flags of a character that looks so, bold where all are
abbrev pub flags_shown : Bool → Look → Flags
flags_shown bold look =
    record { bold = bold || look.bold; italic = look.italic; code = look.code; strikeout = look.strikeout; link = is_some look.link; picture = is_some look.picture; picture_sign = false }

-- a character with its flags; in what is said of a picture a break is a space
abbrev pub char_shown : Bool → Shown → FlaggedChar
char_shown bold s = record { char = if is_some s.look.picture && (s.char == 10) then 32 else s.char; flags = flags_shown bold s.look }

-- all characters that are shown of a leaf's text, in order
abbrev pub leaf_chars : List (List ℕ) → Bool → List ℕ → List FlaggedChar
leaf_chars labels bold text = map (char_shown bold) (leaf_text labels text)

-- a break
abbrev pub is_break : FlaggedChar → Bool
is_break c = c.char == 10

-- a break, or a space but in code
abbrev pub is_blank : FlaggedChar → Bool
is_blank c = is_break c || ((c.char == 32) && not c.flags.code)

-- any other character
abbrev pub is_word : FlaggedChar → Bool
is_word c = not (is_blank c)

-- the characters that are no blanks, in order
abbrev pub words : List FlaggedChar → List FlaggedChar
words cs = filter is_word cs

-- they are all blanks
abbrev pub AreBlank : List FlaggedChar → Type 0
AreBlank cs = words cs ≡ []

-- the first of them is no blank, or there is none
abbrev pub BeginWithWord : List FlaggedChar → Type 0
BeginWithWord [] = Unit {0}
BeginWithWord (c ∷ cs) = is_blank c ≡ false

-- ---- rows

-- Characters without a break make a row: it is without the blanks at their ends.
pub record IsRow (own row : List FlaggedChar) : Type 0 where
  pub unbroken : filter is_break own ≡ []
  pub before : List FlaggedChar
  pub after : List FlaggedChar
  pub whole : own ≡ before ++ row ++ after
  pub in_front : AreBlank before
  pub behind : AreBlank after
  pub begins : BeginWithWord row
  pub ends : BeginWithWord (reverse row)

-- Breaks cut characters into these rows, and nothing else does: between two rows there is one break.
abbrev pub AreCut : List FlaggedChar → List (List FlaggedChar) → Type 0
AreCut cs [] = ⊥
AreCut cs (row ∷ []) = IsRow cs row
AreCut cs (row ∷ next ∷ rows) = (own : List FlaggedChar) × (end : FlaggedChar) × (later : List FlaggedChar) × (cs ≡ own ++ end ∷ later) × (is_break end ≡ true) × IsRow own row × AreCut later (next ∷ rows)

-- without characters there is no row
abbrev pub AreCutOrNone : List FlaggedChar → List (List FlaggedChar) → Type 0
AreCutOrNone [] rows = rows ≡ []
AreCutOrNone (c ∷ cs) rows = AreCut (c ∷ cs) rows

-- Characters make rows: blanks in front and at the end aside, breaks cut them.
pub record MakeRows (cs : List FlaggedChar) (rows : List (List FlaggedChar)) : Type 0 where
  pub before : List FlaggedChar
  pub middle : List FlaggedChar
  pub after : List FlaggedChar
  pub whole : cs ≡ before ++ middle ++ after
  pub in_front : AreBlank before
  pub behind : AreBlank after
  pub begins : BeginWithWord middle
  pub ends : BeginWithWord (reverse middle)
  pub cut : AreCutOrNone middle rows

-- ---- bytes

-- the bytes of characters, each with the flags of its character
abbrev pub bytes_of : List FlaggedChar → List FlaggedChar
bytes_of cs = flat_map (λ (c : FlaggedChar). flagged c.flags (encode_utf8 c.char)) cs

-- the bytes of runs, each with the flags of its run
abbrev pub bytes_in : List Run → List FlaggedChar
bytes_in runs = flat_map (λ (run : Run). flagged run.flags run.text) runs

-- the bytes of a row; no other line has any
abbrev pub bytes_on : LineContent → List FlaggedChar
bytes_on (normal said) = bytes_in said.runs
bytes_on _ = []

-- the line is a row of a paragraph
abbrev pub IsParagraph : LineContent → Type 0
IsParagraph (normal said) = said.style ≡ Paragraph
IsParagraph _ = ⊥

-- ---- laws

-- the characters of rows, one row after another
abbrev pub in_order : List (List FlaggedChar) → List FlaggedChar
in_order rows = flat_map (λ (row : List FlaggedChar). row) rows

-- Lines say characters: each line is a paragraph's and says one row, and no word of the text is lost.
pub record SayRows (cs : List FlaggedChar) (lines : List LineContent) : Type 0 where
  pub rows : List (List FlaggedChar)
  pub made : MakeRows cs rows
  pub paragraphs : AllByRecursion IsParagraph lines
  pub said : map bytes_on lines ≡ map bytes_of rows
  pub kept : words (in_order rows) ≡ words cs

-- The rows of each leaf say its characters.
abbrev pub RowsKeepText : Type 0
RowsKeepText = (labels : List (List ℕ)) (text : List ℕ) → SayRows (leaf_chars labels false text) (leaf_rows labels text)

-- a space that has no flag, but is bold where all are
abbrev pub space_shown : Bool → FlaggedChar
space_shown bold = record { char = 32; flags = record { bold = bold; italic = false; code = false; strikeout = false; link = false; picture = false; picture_sign = false } }

-- rows with a space between two of them
abbrev pub spaced_rows : Bool → List (List FlaggedChar) → List FlaggedChar
spaced_rows bold [] = []
spaced_rows bold (row ∷ []) = row
spaced_rows bold (row ∷ next ∷ rows) = row ++ space_shown bold ∷ spaced_rows bold (next ∷ rows)

-- Runs say characters: their rows, with a space between two. No word of the text is lost.
pub record SayCell (bold : Bool) (cs : List FlaggedChar) (runs : List Run) : Type 0 where
  pub rows : List (List FlaggedChar)
  pub made : MakeRows cs rows
  pub said : bytes_in runs ≡ bytes_of (spaced_rows bold rows)
  pub kept : words (spaced_rows bold rows) ≡ words cs

-- The runs of each cell say its characters.
abbrev pub CellsKeepText : Type 0
CellsKeepText = (labels : List (List ℕ)) (bold : Bool) (text : List ℕ) → SayCell bold (leaf_chars labels bold text) (cell_runs labels bold text)
