-- Signs in front of what is said of pictures.
use Rattle.std.specs.Prelude.{ℕ, Bool, true, false, if◌then◌else◌, List, [], ◌∷◌, ◌++◌, map, encode_utf8, Option, Some, None}
use Rattle.std.specs.List.{list_any}
use Rattle.mad_md.specs.Flagged.{Flags, Run, unflagged}
use Rattle.mad_md.specs.Lines.{LineContent, StyledRuns, normal, table_row, table_rule, horizontal_rule}
use Rattle.mad_sections.specs.Sections.{SectionContent}
use Rattle.mad_dressing.specs.WordMarks.{begin_code}

-- ---- the sign

-- the flags of a sign: as none of code is, its space is no place to break a row
abbrev pub sign_flags : Flags
sign_flags = record unflagged { code = true; picture_sign = true }

-- the text of a sign: this character and a space
abbrev pub sign_text : ℕ → List ℕ
sign_text sign = encode_utf8 sign ++ 32 ∷ []

-- a sign of this text, if it is there
abbrev pub sign_if : Bool → List ℕ → List Run
sign_if there sign = if there then record { flags = sign_flags; text = sign } ∷ [] else []

-- ---- texts with signs

-- runs with the sign in front of each that is what is said of a picture
abbrev pub pictured_runs : List ℕ → List Run → List Run
pictured_runs sign [] = []
pictured_runs sign (run ∷ runs) = sign_if run.flags.picture sign ++ (run ∷ pictured_runs sign runs)

-- the same of a composite or a cell
abbrev pub pictured_text : List ℕ → StyledRuns → StyledRuns
pictured_text sign said = record { style = said.style; runs = pictured_runs sign said.runs }

-- of a line
abbrev pub pictured_line : List ℕ → LineContent → LineContent
pictured_line sign (normal said) = normal (pictured_text sign said)
pictured_line sign (table_row cells) = table_row (map (pictured_text sign) cells)
pictured_line sign (table_rule aligns) = table_rule aligns
pictured_line sign horizontal_rule = horizontal_rule

-- of a section, if there is a sign; else it is as it is
abbrev pub pictured : Option (List ℕ) → SectionContent → SectionContent
pictured None section = section
pictured (Some sign) section = record section { lines = map (pictured_line sign) section.lines }

-- ---- where signs are

-- one of the runs is what is said of a picture
abbrev pub say_picture : List Run → Bool
say_picture runs = list_any (λ (run : Run). run.flags.picture) runs

-- one of the cells says anything of a picture
abbrev pub cells_say_picture : List StyledRuns → Bool
cells_say_picture cells = list_any (λ (cell : StyledRuns). say_picture cell.runs) cells

-- a line does
abbrev pub says_picture : LineContent → Bool
says_picture (normal said) = say_picture said.runs
says_picture (table_row cells) = cells_say_picture cells
says_picture _ = false

-- one of the lines does
abbrev pub have_pictures : List LineContent → Bool
have_pictures lines = list_any says_picture lines

-- the text of the sign that lines have: none without a picture, nor in code
abbrev pub sign_for : ℕ → List LineContent → Option (List ℕ)
sign_for sign lines = if begin_code lines then None else if have_pictures lines then Some (sign_text sign) else None
