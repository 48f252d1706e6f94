-- The first row behind the bar of an alert.
use Rattle.std.specs.Prelude.{◌≡◌, ◌<◌, ℕ, true, false, List, [], ◌∷◌, ◌++◌, codes, length}
use Rattle.std.specs.List.{AllByRecursion}
use Rattle.mad_md.specs.Lines.{LineContent, normal}
use Rattle.mad_md.specs.declared.composite.CompositeStyle.TheVariants.{Paragraph}
use Rattle.mad_sections.specs.Sections.{SectionContent}
use Rattle.mad_sections.specs.declared.gutters.Alert.{Alert}
use Rattle.mad_sections.specs.declared.gutters.Alert.TheVariants.{Note, Tip, Important, Warning, Caution}
use Rattle.mad_sections.specs.declared.gutters.Gutter.{Gutter}
use Rattle.mad_sections.specs.declared.gutters.Gutter.TheVariants.{AlertBar}
use Rattle.markdown_reader.specs.Markdown.{markdown_sections}

-- the word of an alert
abbrev pub word_of : Alert → List ℕ
word_of Note = codes "NOTE"
word_of Tip = codes "TIP"
word_of Important = codes "IMPORTANT"
word_of Warning = codes "WARNING"
word_of Caution = codes "CAUTION"

-- a line that says it in bold, and nothing else
abbrev pub word_line : Alert → LineContent
word_line alert =
    normal (record {
      style = Paragraph;
      runs = record { flags = record { bold = true; italic = false; code = false; strikeout = false; link = false; picture = false; picture_sign = false }; text = word_of alert } ∷ [];
    })

-- the first of these lines is the alert's word
abbrev pub BeginsWithWord : Alert → List LineContent → Type 0
BeginsWithWord alert [] = ⊥
BeginsWithWord alert (line ∷ lines) = line ≡ word_line alert

-- Where the bar of an alert is one of the gutters that begin with a section, it is the last of all its gutters, and the section's first line is the alert's word.
abbrev pub SaysItsAlert : SectionContent → Type 0
SaysItsAlert s = (outer inner : List Gutter) (alert : Alert) → s.gutters ≡ outer ++ AlertBar alert ∷ inner → length inner < s.fresh → (inner ≡ []) × BeginsWithWord alert s.lines

-- THE LAW: so it is with each section of what a text is shown as
abbrev pub AlertsSayTheirWord : Type 0
AlertsSayTheirWord = (source : List ℕ) → AllByRecursion SaysItsAlert (markdown_sections source)
