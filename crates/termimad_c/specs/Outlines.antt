-- The links and the headings of a text, as lines, and where a link goes within the text.
use Rattle.std.specs.Prelude.{◌≡◌, ℕ, List, [], ◌∷◌, ◌++◌, decimal, IsUtf8, Option, map}
use Rattle.std.specs.List.{flat_map}
use Rattle.markdown_headings.specs.Named.{HeadingSaid, headings_of}
use Rattle.markdown_headings.specs.Printed.{ArePrintedHeadings}
use Rattle.markdown_headings.specs.Targets.{section_among}
use Rattle.markdown_lines.specs.Texts.{behind_mark}
use Rattle.markdown_reader.specs.Anchors.{AnchorSaid, markdown_anchors}
use Rattle.markdown_reader.specs.Markdown.{markdown_links, printable_sections, without_marks}
use Rattle.markdown_reader.specs.MarkdownSays.{LinkSaid}
use Rattle.markdown_reader.specs.Printed.{ArePrintedLinks}
use Rattle.mad_sections.specs.Sections.{SectionContent}

-- a link as a line: the number of its section in decimal, a tab (9), its address, and a newline (10)
abbrev pub link_line : LinkSaid → List ℕ
link_line link = decimal link.section ++ 9 ∷ link.address ++ 10 ∷ []

-- links as lines
abbrev pub link_lines : List LinkSaid → List ℕ
link_lines links = flat_map link_line links

-- a heading as a line: its level and the number of its section in decimal, its name and its text, with tabs between, and a newline
abbrev pub heading_line : HeadingSaid → List ℕ
heading_line h = decimal h.level ++ 9 ∷ decimal h.section ++ 9 ∷ h.name ++ 9 ∷ h.text ++ 10 ∷ []

-- headings as lines
abbrev pub heading_lines : List HeadingSaid → List ℕ
heading_lines headings = flat_map heading_line headings

-- the sections of a text, each printable character as it is written
abbrev pub sections_written : List ℕ → List SectionContent
sections_written text = map without_marks (printable_sections (behind_mark text))

-- They are the links of the text, each as a line. No character of an address is one that a terminal obeys.
pub record AreLinksOf (text whole : List ℕ) : Type 0 where
  pub utf8 : IsUtf8 text
  pub printed : ArePrintedLinks (markdown_links text)
  pub links : whole ≡ link_lines (markdown_links text)

-- They are the headings of the text, each as a line. No character that a heading shows is one that a terminal obeys.
pub record AreHeadingsOf (text whole : List ℕ) : Type 0 where
  pub utf8 : IsUtf8 text
  pub printed : ArePrintedHeadings (headings_of (sections_written text))
  pub headings : whole ≡ heading_lines (headings_of (sections_written text))

-- the section to which a link goes, among the names of tags and headings
abbrev pub section_with : List AnchorSaid → List HeadingSaid → List ℕ → Option ℕ
section_with anchors headings name = section_among anchors (map (λ (h : HeadingSaid). h.name) headings) (map (λ (h : HeadingSaid). h.section) headings) name

-- the section of a text to which `#name` goes: that of the first tag that has the name; else of the first heading, or of the first that has it in small letters
abbrev pub section_named : List ℕ → List ℕ → Option ℕ
section_named text name = section_with (markdown_anchors text) (headings_of (sections_written text)) name

-- It is the number of the section to which `#name` goes within the text, or there is none.
pub record IsSectionNamed (text name : List ℕ) (section : Option ℕ) : Type 0 where
  pub utf8 : IsUtf8 text
  pub named : IsUtf8 name
  pub found : section ≡ section_named text name
