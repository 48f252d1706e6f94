-- Which links the runs of sections belong to: for each section, and in it for each run that is of a link, the number of this link among those of the
-- section, from 0.
use Rattle.std.specs.Prelude.{ℕ, zero, suc, ◌-◌, Bool, List, [], ◌∷◌, ◌++◌, length, Option, Some, None}
use Rattle.std.specs.List.{flat_map}
use Rattle.mad_sections.specs.declared.gutters.Alert.{Alert}
use Rattle.mad_sections.specs.declared.gutters.Gutter.{Gutter}
use Rattle.mad_sections.specs.declared.gutters.Gutter.TheVariants.{Bar, Bullet}
use Rattle.markdown_marks.specs.Remaining.{Remaining}
use Rattle.markdown_leaves.specs.Defining.{joined}
use Rattle.markdown_leaves.specs.Parts.{PartContent, block}
use Rattle.markdown_leaves.specs.Told.{parts_of}
use Rattle.markdown_leaves.specs.declared.parts.Kind.{Kind}
use Rattle.markdown_leaves.specs.declared.parts.Kind.TheVariants.{Paragraph as ParagraphKind, Heading, Html, Table}
use Rattle.markdown_lines.specs.LinkNumbers.{html_numbers, leaf_numbers}
use Rattle.markdown_lines.specs.Links.{Defined}
use Rattle.markdown_lines.specs.TableNumbers.{table_numbers}
use Rattle.markdown_gutters.specs.Signs.{after_box, box_of, after_line, alert_of}
use Rattle.markdown_definitions.specs.Definitions.{definitions_of}
use Rattle.markdown_reader.specs.Mapping.{Mapping, nothing_shown, new_gutter, html_text, leaves_in, shown_part, text_of}

-- ---- leaves

-- what is shown of a paragraph behind its box, if it has one
abbrev pub task_words : Option Bool → List ℕ → List ℕ
task_words None bytes = bytes
task_words (Some done) bytes = after_box bytes

-- and below the line of its alert
abbrev pub alert_words : Option Alert → List ℕ → List ℕ
alert_words None bytes = bytes
alert_words (Some alert) bytes = after_line bytes

-- the words of a paragraph, by the gutter that is new in front of it
abbrev pub paragraph_words : Option Gutter → List ℕ → List ℕ
paragraph_words (Some Bullet) bytes = task_words (box_of bytes) bytes
paragraph_words (Some Bar) bytes = alert_words (alert_of bytes) bytes
paragraph_words _ bytes = bytes

-- of words
abbrev pub words_numbers : Defined → List ℕ → List ℕ
words_numbers defined bytes = leaf_numbers defined.labels (text_of bytes)

-- of a leaf, by the gutter that is new in front of it: code has no links
abbrev pub kind_numbers : Defined → Option Gutter → Kind → List Remaining → List ℕ
kind_numbers defined gutter ParagraphKind lines = words_numbers defined (paragraph_words gutter (joined [] lines))
kind_numbers defined gutter (Heading level) lines = words_numbers defined (joined [] lines)
kind_numbers defined gutter Html lines = html_numbers (html_text (joined [] lines))
kind_numbers defined gutter (Table columns) lines = table_numbers defined 0 columns lines
kind_numbers defined gutter _ lines = []

-- of a part of the text
abbrev pub part_numbers : Defined → Mapping → PartContent → List ℕ
part_numbers defined m (block leaf) = kind_numbers defined (new_gutter m) leaf.kind leaf.lines
part_numbers defined m _ = []

-- ---- sections

-- of so many sections, the last of which has these
abbrev pub last_has : List ℕ → ℕ → List (List ℕ)
last_has numbers zero = []
last_has numbers (suc zero) = numbers ∷ []
last_has numbers (suc (suc more)) = [] ∷ last_has numbers (suc more)

-- of the sections that came from one state to another: the last of them shows the part, and one before it is a blank row
abbrev pub added_numbers : List ℕ → Mapping → Mapping → List (List ℕ)
added_numbers numbers before after = last_has numbers (length after.sections - length before.sections)

-- of the sections that parts are shown as, behind those before
unfoldable pub parts_numbers : Defined → List PartContent → Mapping → List (List ℕ)
parts_numbers defined [] m = []
parts_numbers defined (part ∷ parts) m = added_numbers (part_numbers defined m part) m (shown_part defined part m) ++ parts_numbers defined parts (shown_part defined part m)

-- of the sections of a text behind its byte order mark
unfoldable pub unmarked_numbers : List ℕ → List (List ℕ)
unmarked_numbers source = parts_numbers (definitions_of (parts_of source)) (flat_map leaves_in (parts_of source)) nothing_shown
