-- Headings with their names.
use Rattle.std.specs.Prelude.{ℕ, List, [], ◌∷◌, map}
use Rattle.mad_sections.specs.Sections.{SectionContent}
use Rattle.markdown_anchors.specs.Anchors.{heading_names}
use Rattle.markdown_headings.specs.Headings.{TitleSaid, titles_of}

-- a heading: its level, the number of its section, what it shows, and its name
pub record HeadingSaid : Type 0 where
  pub level : ℕ
  pub section : ℕ
  pub text : List ℕ
  pub name : List ℕ

-- a heading that has this name
abbrev pub named : TitleSaid → List ℕ → HeadingSaid
named title name = record { level = title.level; section = title.section; text = title.text; name = name }

-- headings that have these names, one after the other
abbrev pub named_by : List TitleSaid → List (List ℕ) → List HeadingSaid
named_by [] names = []
named_by (title ∷ titles) [] = []
named_by (title ∷ titles) (name ∷ names) = named title name ∷ named_by titles names

-- the names of the headings that these are: what is said of a picture is in none
abbrev pub names_of : List TitleSaid → List (List ℕ)
names_of titles = heading_names (map (λ (title : TitleSaid). title.words) titles)

-- the headings of a text, each with the name that GitHub gives it
abbrev pub headings_of : List SectionContent → List HeadingSaid
headings_of sections = named_by (titles_of sections) (names_of (titles_of sections))
