-- What the parts of a text are shown as: sections behind gutters.
use Rattle.std.specs.Prelude.{ℕ, ◌-◌, Bool, true, false, ◌||◌, ◌&&◌, ◌==◌, nat_lt, List, [], ◌∷◌, ◌++◌, map, length, take, drop, min, Option, Some, None, if◌then◌else◌}
use Rattle.std.specs.Str.Lossy.{utf8_lossy}
use Rattle.markdown_marks.specs.Headings.{without_end}
use Rattle.markdown_marks.specs.Remaining.{Remaining, whole}
use Rattle.markdown_blocks.specs.declared.containers.Container.{Container}
use Rattle.markdown_blocks.specs.declared.containers.Container.TheVariants.{Quote, Item}
use Rattle.markdown_leaves.specs.Defining.{joined}
use Rattle.markdown_leaves.specs.Parts.{BlockContent, PartContent, begins, ends, block}
use Rattle.markdown_leaves.specs.declared.parts.Kind.{Kind}
use Rattle.markdown_leaves.specs.declared.parts.Kind.TheVariants.{Paragraph as ParagraphKind, Heading, Indented, Fenced, Html, Table, Rule}
use Rattle.mad_md.specs.Flagged.{Flags}
use Rattle.mad_md.specs.Lines.{LineContent, normal, horizontal_rule}
use Rattle.mad_md.specs.declared.composite.CompositeStyle.{CompositeStyle}
use Rattle.mad_md.specs.declared.composite.CompositeStyle.TheVariants.{Paragraph, Header}
use Rattle.markdown_tones.specs.Fences.{fence_marks}
use Rattle.mad_mark_runs.specs.declared.mark_runs.MarkRun.{MarkRun}
use Rattle.mad_sections.specs.Sections.{SectionContent}
use Rattle.mad_sections.specs.declared.gutters.Alert.{Alert}
use Rattle.mad_sections.specs.declared.gutters.Gutter.{Gutter}
use Rattle.mad_sections.specs.declared.gutters.Gutter.TheVariants.{Bar, AlertBar, Bullet, Task}
use Rattle.markdown_lines.specs.Code.{code_lines}
use Rattle.markdown_html_text.specs.HtmlLeaves.{html_leaves, html_level}
use Rattle.markdown_lines.specs.Leaf.{leaf_rows, html_lines}
use Rattle.markdown_lines.specs.Links as line_links
use Rattle.markdown_lines.specs.Links.{Defined, html_addresses, leaf_addresses}
use Rattle.markdown_lines.specs.Restyled.{restyled, empty_line}
use Rattle.markdown_lines.specs.Tables.{table_lines, table_links}
use Rattle.markdown_gutters.specs.Forms.{is_big, leaf_gutters, items_gutters}
use Rattle.markdown_gutters.specs.Lists.{no_list, last_list, number_in, list_after, item_gutter, is_item, up_to_bar, last_gutter}
use Rattle.markdown_gutters.specs.Signs.{after_box, box_of, after_line, alert_word, alert_of}
use Rattle.markdown_gutters.specs.declared.forms.Form.{Form}
use Rattle.markdown_gutters.specs.declared.forms.Form.TheVariants.{Words, Large, Listed, Boxed}
use Rattle.markdown_gutters.specs.declared.lists.Counted.{Counted}

-- a link: the number of a section, and the address to which the link leads
pub record LinkSaid : Type 0 where
  pub section : ℕ
  pub address : List ℕ

-- The sections so far with their links, and what the next ones depend on: the gutters of the open containers, the outermost first; of how many of them, the
-- outermost, something is shown; outside and for each of them the list whose item began last; whether blank lines came before the last item, since it began,
-- and since something was shown last; whether anything was, and whether that wants blank rows beside it. Last come the marks
-- of the next section.
pub record Mapping : Type 0 where
  pub sections : List SectionContent
  pub links : List LinkSaid
  pub gutters : List Gutter
  pub seen : ℕ
  pub lists : List Counted
  pub item_apart : Bool
  pub since : Bool
  pub apart : Bool
  pub some : Bool
  pub big : Bool
  pub marks : List MarkRun

-- before the text nothing is shown, and no container is open
abbrev pub nothing_shown : Mapping
nothing_shown = record { sections = []; links = []; gutters = []; seen = 0; lists = no_list ∷ []; item_apart = false; since = false; apart = false; some = false; big = false; marks = [] }

-- ---- lists

-- the lists of the containers around it, and this one there
abbrev pub with_list : List Counted → Counted → List Counted
with_list lists list = take (length lists - 1) lists ++ list ∷ []

-- ---- gutters

-- the gutter of the innermost open container, if nothing of that is shown yet
abbrev pub new_gutter : Mapping → Option Gutter
new_gutter m = if nat_lt m.seen (length m.gutters) then last_gutter m.gutters else None

-- another gutter in the place of the last
abbrev pub with_last : Gutter → Mapping → Mapping
with_last gutter m = record m { gutters = take (length m.gutters - 1) m.gutters ++ gutter ∷ [] }

-- ---- sections

-- lines behind the gutters of all open containers; those begin with them of which nothing is shown yet, and the box of code
abbrev pub section_of : Form → List LineContent → Mapping → SectionContent
section_of form lines m = record { gutters = leaf_gutters form m.gutters; fresh = length (leaf_gutters form m.gutters) - m.seen; list = items_gutters form m.gutters; marks = m.marks; lines = lines }

-- one more section, by which something of all open containers is shown
abbrev pub with_section : Form → List LineContent → Mapping → Mapping
with_section form lines m = record m { sections = m.sections ++ section_of form lines m ∷ []; seen = length m.gutters; marks = [] }

-- A blank row is behind the gutters of the containers that both neighbours are in, up to the last bar: what is behind that is blank. No blank row is in a box.
abbrev pub blank_row : Mapping → SectionContent
blank_row m = record { gutters = up_to_bar (take m.seen m.gutters); fresh = 0; list = None; marks = []; lines = empty_line Paragraph ∷ [] }

-- something is shown, and then blank lines came, or one of both is big
abbrev pub is_spaced : Bool → Bool → Mapping → Bool
is_spaced apart big m = m.some && (apart || big || m.big)

-- a blank row where blank lines are in the source, and beside what is big
abbrev pub spaced : Bool → Bool → Mapping → Mapping
spaced apart big m = if is_spaced apart big m then record m { sections = m.sections ++ blank_row m ∷ [] } else m

-- a link that is in this section
abbrev pub link_at : ℕ → List ℕ → LinkSaid
link_at section address = record { section = section; address = address }

-- these are links of the next section
abbrev pub linked : List (List ℕ) → Mapping → Mapping
linked addresses m = record m { links = m.links ++ map (link_at (length m.sections)) addresses }

-- one more section, and where its links lead; no blank lines came since
abbrev pub added : Form → List LineContent → List (List ℕ) → Mapping → Mapping
added form lines addresses m = record (with_section form lines (linked addresses m)) { apart = false; some = true; big = is_big form }

-- the lines of a leaf, and where its links lead; a leaf without lines isn't shown
abbrev pub put : Form → List LineContent → List (List ℕ) → Mapping → Mapping
put form lines addresses m = if length lines == 0 then m else added form lines addresses (spaced m.apart (is_big form) m)

-- ---- containers

-- blank lines came, or didn't
abbrev pub passed : Bool → Mapping → Mapping
passed apart m = record m { apart = m.apart || apart; since = m.since || apart }

-- what isn't an item ends the list beside it
abbrev pub list_ended : Mapping → Mapping
list_ended m = record m { lists = with_list m.lists no_list }

-- a quote begins, which ends the list beside it
abbrev pub quote_begun : Mapping → Mapping
quote_begun m = record m { gutters = m.gutters ++ Bar ∷ []; lists = with_list m.lists no_list ++ no_list ∷ [] }

-- an item begins, whose list goes on with the next number
abbrev pub numbered : ℕ → ℕ → Mapping → Mapping
numbered sign number m = record m {
  gutters = m.gutters ++ item_gutter sign number ∷ [];
  lists = with_list m.lists (list_after sign number) ++ no_list ∷ [];
  item_apart = m.apart;
  since = false;
}

-- a container begins
abbrev pub begun : Container → Mapping → Mapping
begun Quote m = quote_begun m
begun (Item sign number content) m = numbered sign (number_in (last_list m.lists) sign number) m

-- an item's row is shown, and only blank lines came since it began
abbrev pub nothing_since : Mapping → Mapping
nothing_since m = record m { apart = m.since; some = true; big = false }

-- an item of which nothing was shown has a row where it began
abbrev pub item_ended : Mapping → Mapping
item_ended m = nothing_since (with_section Words (empty_line Paragraph ∷ []) (spaced m.item_apart false m))

-- the container ends whose gutter is new, if there is one: only an item has a row then
abbrev pub ended_by : Option Gutter → Mapping → Mapping
ended_by None m = m
ended_by (Some gutter) m = if is_item gutter then item_ended m else m

-- the innermost container is open no more
abbrev pub closed : Mapping → Mapping
closed m = record m { gutters = take (length m.gutters - 1) m.gutters; lists = take (length m.lists - 1) m.lists; seen = min m.seen (length m.gutters - 1) }

-- a container ends
abbrev pub ended : Mapping → Mapping
ended m = closed (ended_by (new_gutter m) m)

-- ---- leaves

-- the text of a leaf, without blanks at the end
abbrev pub text_of : List ℕ → List ℕ
text_of bytes = utf8_lossy (without_end 32 9 bytes)

-- the rows that a text shows
abbrev pub words : Defined → List ℕ → List LineContent
words defined bytes = leaf_rows defined.labels (text_of bytes)

-- where the links of a text lead
abbrev pub addresses_in : Defined → List ℕ → List (List ℕ)
addresses_in defined bytes = leaf_addresses defined (text_of bytes)

-- the rows and links of a text are shown
abbrev pub words_shown : Defined → List ℕ → Mapping → Mapping
words_shown defined bytes m = put Words (words defined bytes) (addresses_in defined bytes) m

-- the first paragraph of an item with a bullet: the box in front of it is the item's gutter
abbrev pub task_by : Option Bool → Defined → List ℕ → Mapping → Mapping
task_by None defined bytes m = words_shown defined bytes m
task_by (Some done) defined bytes m = words_shown defined (after_box bytes) (with_last (Task done) m)

-- the flags that a text in bold has
abbrev pub bold : Flags
bold = record { bold = true; italic = false; code = false; strikeout = false; link = false; picture = false; picture_sign = false }

-- the row of an alert
abbrev pub alert_line : Alert → LineContent
alert_line alert = normal (record { style = Paragraph; runs = record { flags = bold; text = alert_word alert } ∷ [] })

-- the first paragraph of a quote: the alert that its first line is has a row of its own, and the bar is the alert's
abbrev pub alert_by : Option Alert → Defined → List ℕ → Mapping → Mapping
alert_by None defined bytes m = words_shown defined bytes m
alert_by (Some alert) defined bytes m = put Words (alert_line alert ∷ restyled Paragraph Paragraph (words defined (after_line bytes))) (addresses_in defined (after_line bytes)) (with_last (AlertBar alert) m)

-- a paragraph, by the gutter that is new in front of it
abbrev pub paragraph_by : Option Gutter → Defined → List ℕ → Mapping → Mapping
paragraph_by (Some Bullet) defined bytes m = task_by (box_of bytes) defined bytes m
paragraph_by (Some Bar) defined bytes m = alert_by (alert_of bytes) defined bytes m
paragraph_by _ defined bytes m = words_shown defined bytes m

-- the style that a heading's rows have
abbrev pub heading_style : ℕ → CompositeStyle
heading_style level = Header (min level 255)

-- the rows and links of a heading are shown
abbrev pub heading_shown : Defined → ℕ → List ℕ → Mapping → Mapping
heading_shown defined level bytes m = put Large (restyled (heading_style level) (heading_style level) (words defined bytes)) (addresses_in defined bytes) m

-- the text of a leaf of html
abbrev pub html_text : List ℕ → List ℕ
html_text bytes = utf8_lossy bytes

-- the rows and links of a leaf of html are shown: a heading's, or words
abbrev pub html_by : (words : Bool) → ℕ → List ℕ → Mapping → Mapping
html_by true level text m = put Words (html_lines text) (html_addresses text) m
html_by false level text m = put Large (restyled (heading_style level) (heading_style level) (html_lines text)) (html_addresses text) m

-- a leaf of html
abbrev pub html_shown : List ℕ → Mapping → Mapping
html_shown bytes m = html_by (html_level bytes == 0) (html_level bytes) (html_text bytes) m

-- where a link of a table leads
abbrev pub address_said : line_links.LinkSaid → List ℕ
address_said link = link.address

-- where the links of a table lead
abbrev pub table_addresses : Defined → ℕ → List Remaining → List (List ℕ)
table_addresses defined columns lines = map address_said (table_links defined columns 0 lines)

-- these are the marks of the next section
abbrev pub with_marks : List MarkRun → Mapping → Mapping
with_marks marks m = record m { marks = marks }

-- the lines of code are shown in a box, with their marks
abbrev pub code_shown : List MarkRun → List Remaining → Mapping → Mapping
code_shown marks lines m = with_marks [] (put Boxed (code_lines 0 lines) [] (with_marks marks m))

-- a leaf is shown as its kind is; nothing and definitions aren't shown
abbrev pub leaf_shown : Defined → Kind → List Remaining → Mapping → Mapping
leaf_shown defined ParagraphKind lines m = paragraph_by (new_gutter m) defined (joined [] lines) m
leaf_shown defined Html lines m = html_shown (joined [] lines) m
leaf_shown defined (Heading level) lines m = heading_shown defined level (joined [] lines) m
leaf_shown defined Indented lines m = code_shown [] lines m
leaf_shown defined Fenced lines m = code_shown (fence_marks lines) (drop 1 lines) m
leaf_shown defined (Table columns) lines m = put Listed (table_lines defined.labels columns lines) (table_addresses defined columns lines) m
leaf_shown defined Rule lines m = put Large (horizontal_rule ∷ []) [] m
leaf_shown defined _ lines m = m

-- ---- leaves of html

-- a leaf of html with this text
abbrev pub html_leaf : Bool → List ℕ → PartContent
html_leaf apart text = block (record { kind = Html; apart = apart; lines = whole text ∷ [] })

-- these are leaves of a block; blank lines are before the first alone
abbrev pub html_parts : Bool → List (List ℕ) → List PartContent
html_parts apart [] = []
html_parts apart (leaf ∷ leaves) = html_leaf apart leaf ∷ map (html_leaf false) leaves

-- the leaves that a block is: one, but for html, in which each tag of a heading begins another
abbrev pub leaves_by : Kind → BlockContent → List PartContent
leaves_by Html leaf = html_parts leaf.apart (html_leaves (joined [] leaf.lines))
leaves_by _ leaf = block leaf ∷ []

-- a part of the text as those that are shown one by one
abbrev pub leaves_in : PartContent → List PartContent
leaves_in (block leaf) = leaves_by leaf.kind leaf
leaves_in part = part ∷ []

-- ---- parts

-- a part of the text
unfoldable pub shown_part : Defined → PartContent → Mapping → Mapping
shown_part defined (begins container apart) m = begun container (passed apart m)
shown_part defined ends m = ended m
shown_part defined (block leaf) m = leaf_shown defined leaf.kind leaf.lines (list_ended (passed leaf.apart m))

-- parts of the text, one after the other
unfoldable pub shown_parts : Defined → List PartContent → Mapping → Mapping
shown_parts defined [] m = m
shown_parts defined (part ∷ parts) m = shown_parts defined parts (shown_part defined part m)
