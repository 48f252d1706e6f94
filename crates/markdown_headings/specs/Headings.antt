-- The headings among the sections of a text.
use Rattle.std.specs.Prelude.{ℕ, ◌+◌, ◌||◌, not, Bool, true, false, if◌then◌else◌, List, [], ◌∷◌, ◌++◌, Option, Some, None}
use Rattle.std.specs.List.{flat_map}
use Rattle.mad_md.specs.Flagged.{Run}
use Rattle.mad_md.specs.Lines.{LineContent, normal}
use Rattle.mad_md.specs.declared.composite.CompositeStyle.{CompositeStyle}
use Rattle.mad_md.specs.declared.composite.CompositeStyle.TheVariants.{Header}
use Rattle.mad_sections.specs.Sections.{SectionContent}

-- a heading without its name: its level, the number of its section, what it shows, and the same without what is said of pictures
pub record TitleSaid : Type 0 where
  pub level : ℕ
  pub section : ℕ
  pub text : List ℕ
  pub words : List ℕ

-- the level of a line of this kind, if it is a heading's
abbrev pub style_level : CompositeStyle → Option ℕ
style_level (Header level) = Some level
style_level style = None

-- the level of a line, if it is a heading's
abbrev pub level_of : LineContent → Option ℕ
level_of (normal row) = style_level row.style
level_of line = None

-- the level of the first of lines, if it is a heading's
abbrev pub first_level : List LineContent → Option ℕ
first_level [] = None
first_level (line ∷ lines) = level_of line

-- the text of a run; that of a picture may be left out
abbrev pub run_text : Bool → Run → List ℕ
run_text pictures run = if pictures || not run.flags.picture then run.text else []

-- the texts of runs, one after the other, with what is said of pictures or without
abbrev pub runs_text : Bool → List Run → List ℕ
runs_text pictures runs = flat_map (run_text pictures) runs

-- what a line says, whatever its other flags
abbrev pub row_text : Bool → LineContent → List ℕ
row_text pictures (normal row) = runs_text pictures row.runs
row_text pictures line = []

-- what lines say, each with a space (32) before it
abbrev pub others_text : Bool → List LineContent → List ℕ
others_text pictures lines = flat_map (λ (line : LineContent). 32 ∷ row_text pictures line) lines

-- what lines say, with a space between two
abbrev pub rows_text : Bool → List LineContent → List ℕ
rows_text pictures [] = []
rows_text pictures (line ∷ lines) = row_text pictures line ++ others_text pictures lines

-- lines as a heading of this level, if there is one
abbrev pub titled : Option ℕ → ℕ → List LineContent → List TitleSaid
titled None section lines = []
titled (Some level) section lines = record { level = level; section = section; text = rows_text true lines; words = rows_text false lines } ∷ []

-- a section of this number as a heading, if its first line is one's
abbrev pub section_titles : ℕ → SectionContent → List TitleSaid
section_titles number section = titled (first_level section.lines) number section.lines

-- the headings among sections, the first of which has this number
abbrev pub titles_from : ℕ → List SectionContent → List TitleSaid
titles_from number [] = []
titles_from number (section ∷ sections) = section_titles number section ++ titles_from (number + 1) sections

-- the headings of a text, from the first to the last
abbrev pub titles_of : List SectionContent → List TitleSaid
titles_of sections = titles_from 0 sections
