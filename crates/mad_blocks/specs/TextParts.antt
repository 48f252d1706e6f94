-- The parts of a text, and the position of each line in its part.
use Rattle.std.specs.Prelude.{ℕ, ◌==◌, Bool, true, false, not, ◌&&◌, ◌||◌, List, [], ◌∷◌, length, Option, Some, None, if◌then◌else◌}
use Rattle.std.specs.List.{flat_map}
use Rattle.mad_md.specs.Lines.{LineContent, normal, table_row, table_rule, horizontal_rule}
use Rattle.mad_md.specs.declared.alignment.Alignment.{Alignment}
use Rattle.mad_style.specs.Kinds.{kind_of}
use Rattle.mad_blocks.specs.LayoutParts.{is_code_kind}
use Rattle.mad_blocks.specs.Tables.{position_at}
use Rattle.mad_format.specs.Lists.{most}
use Rattle.mad_format.specs.declared.table.RelativePosition.{RelativePosition}
use Rattle.mad_format.specs.declared.table.RelativePosition.TheVariants.{Other}

-- the line is one of code
abbrev pub is_code : LineContent → Bool
is_code (normal line) = is_code_kind (kind_of line.style)
is_code _ = false

-- the line is a composite, and no code
abbrev pub is_text : LineContent → Bool
is_text (normal line) = not (is_code_kind (kind_of line.style))
is_text _ = false

-- the line is one of a table
abbrev pub is_table : LineContent → Bool
is_table (table_row cells) = true
is_table (table_rule aligns) = true
is_table _ = false

-- two lines that follow one another are in one part: both are code, or both of a table
abbrev pub stand_together : LineContent → LineContent → Bool
stand_together l m = (is_code l && is_code m) || (is_table l && is_table m)

-- a line in front of parts
abbrev pub in_front : LineContent → List (List LineContent) → List (List LineContent)
in_front l [] = (l ∷ []) ∷ []
in_front l ([] ∷ parts) = (l ∷ []) ∷ [] ∷ parts
in_front l ((m ∷ ms) ∷ parts) = if stand_together l m then (l ∷ m ∷ ms) ∷ parts else (l ∷ []) ∷ (m ∷ ms) ∷ parts

-- the parts of a text: its tables and blocks of code, each as long as can be, and any other line by itself
abbrev pub text_parts : List LineContent → List (List LineContent)
text_parts [] = []
text_parts (l ∷ ls) = in_front l (text_parts ls)

-- no part goes on from these lines to those
abbrev pub apart : List LineContent → List LineContent → Bool
apart [] rest = true
apart (l ∷ []) [] = true
apart (l ∷ []) (m ∷ ms) = not (stand_together l m)
apart (l ∷ m ∷ ls) rest = apart (m ∷ ls) rest

-- the count of cells or alignments of a line
abbrev pub count_in : LineContent → ℕ
count_in (normal line) = 0
count_in (table_row cells) = length cells
count_in (table_rule aligns) = length aligns
count_in horizontal_rule = 0

-- the greatest of all lines
abbrev pub columns_among : List LineContent → ℕ
columns_among = most count_in

-- A line, and the part in which it is: the alignments of the part's last rule down to the line, and the line's position in its part.
pub record LineInPart : Type 0 where
  pub part : List LineContent
  pub line : LineContent
  pub aligns : Option (List Alignment)
  pub position : RelativePosition

-- the alignments of the last rule down to a line, where they were these above it
abbrev pub aligns_at : Option (List Alignment) → LineContent → Option (List Alignment)
aligns_at above (table_rule aligns) = Some aligns
aligns_at above _ = above

-- where a line is in a part; in a table without columns nothing tells its ends
abbrev pub position_in : List LineContent → Bool → Bool → RelativePosition
position_in part first last = if columns_among part == 0 then Other else position_at first last

-- the lines of a part from one on, below these alignments; `first` says whether no line is above
abbrev pub lines_in : List LineContent → Option (List Alignment) → Bool → List LineContent → List LineInPart
lines_in part above first [] = []
lines_in part above first (l ∷ ls) =
    record { part = part; line = l; aligns = aligns_at above l; position = position_in part first (length ls == 0) } ∷ lines_in part (aligns_at above l) false ls

-- the lines of a text, each in its part
abbrev pub lines_in_parts : List LineContent → List LineInPart
lines_in_parts text = flat_map (λ part. lines_in part None true part) (text_parts text)
