-- Which containers are open where a section is told, and which of them begin with it: by the parts of the text, and the number of sections before each.
use Rattle.std.specs.Prelude.{◌≡◌, ℕ, Bool, ◌+◌, ◌-◌, true, false, ◌==◌, List, [], ◌∷◌, ◌++◌, length, take, None, if◌then◌else◌}
use Rattle.markdown_blocks.specs.declared.containers.Container.{Container}
use Rattle.markdown_blocks.specs.declared.containers.Container.TheVariants.{Quote, Item}
use Rattle.markdown_leaves.specs.Parts.{PartContent, begins, ends, block}
use Rattle.markdown_leaves.specs.declared.parts.Kind.{Kind}
use Rattle.markdown_leaves.specs.declared.parts.Kind.TheVariants.{Heading, Indented, Fenced, Html, Table, Rule}
use Rattle.markdown_leaves.specs.Defining.{joined}
use Rattle.markdown_marks.specs.Remaining.{Remaining}
use Rattle.markdown_html_text.specs.HtmlLeaves.{html_level}
use Rattle.mad_md.specs.declared.composite.CompositeStyle.TheVariants.{Paragraph}
use Rattle.mad_sections.specs.Sections.{SectionContent}
use Rattle.mad_sections.specs.declared.gutters.Gutter.{Gutter}
use Rattle.mad_sections.specs.declared.gutters.Gutter.TheVariants.{Bar, AlertBar, Bullet, Number, Task}
use Rattle.markdown_lines.specs.Links.{Defined}
use Rattle.markdown_lines.specs.Restyled.{empty_line}
use Rattle.markdown_gutters.specs.Forms.{leaf_gutters, items_gutters}
use Rattle.markdown_gutters.specs.Lists.{is_number, up_to_bar}
use Rattle.markdown_gutters.specs.declared.forms.Form.{Form}
use Rattle.markdown_gutters.specs.declared.forms.Form.TheVariants.{Words, Large, Listed, Boxed}
use Rattle.markdown_reader.specs.Mapping.{Mapping, nothing_shown, shown_part, shown_parts}

-- a container that is open, and how many sections there were when it began
pub record Opened : Type 0 where
  pub container : Container
  pub since : ℕ

-- what is open after a part that comes after so many sections
abbrev pub opened_by : PartContent → ℕ → List Opened → List Opened
opened_by (begins container apart) count opened = opened ++ record { container = container; since = count } ∷ []
opened_by ends count opened = take (length opened - 1) opened
opened_by (block leaf) count opened = opened

-- what is open after these parts, that come after some
unfoldable pub opened_in : Defined → List PartContent → Mapping → List Opened → List Opened
opened_in defined [] m opened = opened
opened_in defined (part ∷ parts) m opened = opened_in defined parts (shown_part defined part m) (opened_by part (length m.sections) opened)

-- the form of a leaf of html: of words, or of a heading
abbrev pub html_form : (words : Bool) → Form
html_form true = Words
html_form false = Large

-- the form of a leaf
abbrev pub form_of : Kind → List Remaining → Form
form_of (Heading level) lines = Large
form_of Html lines = html_form (html_level (joined [] lines) == 0)
form_of Rule lines = Large
form_of (Table columns) lines = Listed
form_of Indented lines = Boxed
form_of Fenced lines = Boxed
form_of _ lines = Words

-- the form of what a part is shown as: of an item that ends a row without text
abbrev pub form_by : PartContent → Form
form_by (block leaf) = form_of leaf.kind leaf.lines
form_by _ = Words

-- a gutter that a container has: a bar, or that of an alert; a number, a bullet, or a task's box in the place of that
abbrev pub IsOf : Container → Gutter → Type 0
IsOf Quote Bar = Unit {0}
IsOf Quote (AlertBar alert) = Unit {0}
IsOf (Item sign number content) (Number n) = is_number sign ≡ true
IsOf (Item sign number content) Bullet = is_number sign ≡ false
IsOf (Item sign number content) (Task done) = is_number sign ≡ false
IsOf _ _ = ⊥

-- the gutters of these containers, one for each, in their order
abbrev pub AreOf : List Opened → List Gutter → Type 0
AreOf [] [] = Unit {0}
AreOf (o ∷ opened) (g ∷ gutters) = IsOf o.container g × AreOf opened gutters
AreOf _ _ = ⊥

-- how many of these began after the last of so many sections
abbrev pub new_ones : ℕ → List Opened → ℕ
new_ones count [] = 0
new_ones count (o ∷ opened) = if o.since == count then 1 + new_ones count opened else new_ones count opened

-- those that began before it
abbrev pub old_ones : ℕ → List Opened → List Opened
old_ones count opened = take (length opened - new_ones count opened) opened

-- A section after so many is behind the gutters of all containers that are open, and of code behind its box. Those begin with it that no section was in, and its
-- box. A table may be shown as a list, whose items are behind the same gutters and a bullet; nothing else may. A section has a line.
pub record IsBehindAll (form : Form) (opened : List Opened) (count : ℕ) (s : SectionContent) : Type 0 where
  pub all : List Gutter
  pub of_all : AreOf opened all
  pub gutters : s.gutters ≡ leaf_gutters form all
  pub fresh : s.fresh ≡ length (leaf_gutters form []) + new_ones count opened
  pub list : s.list ≡ items_gutters form all
  pub some : (length s.lines == 0) ≡ false

-- A blank row is behind the gutters of those that both neighbours are in, up to the last bar, and nothing begins with it. It is in no box.
pub record IsBlankRow (opened : List Opened) (count : ℕ) (s : SectionContent) : Type 0 where
  pub both : List Gutter
  pub of_both : AreOf (old_ones count opened) both
  pub gutters : s.gutters ≡ up_to_bar both
  pub fresh : s.fresh ≡ 0
  pub list : s.list ≡ None
  pub lines : s.lines ≡ empty_line Paragraph ∷ []

-- no section, or one, or a blank row and one
abbrev pub AreNested : Form → List Opened → ℕ → List SectionContent → Type 0
AreNested form opened count [] = Unit {0}
AreNested form opened count (s ∷ []) = IsBehindAll form opened count s
AreNested form opened count (b ∷ s ∷ []) = IsBlankRow opened count b × IsBehindAll form opened count s
AreNested form opened count _ = ⊥

-- such sections are added
pub record AddsNested (form : Form) (opened : List Opened) (before after : Mapping) : Type 0 where
  pub new : List SectionContent
  pub joins : after.sections ≡ before.sections ++ new
  pub nested : AreNested form opened (length before.sections) new

-- Whatever comes after whatever parts: what it adds is behind exactly the containers that are open there, each of which begins with the first section in it.
abbrev pub SectionsNest : Type 0
SectionsNest = (defined : Defined) (parts : List PartContent) (part : PartContent)
    → AddsNested (form_by part) (opened_in defined parts nothing_shown []) (shown_parts defined parts nothing_shown) (shown_part defined part (shown_parts defined parts nothing_shown))
