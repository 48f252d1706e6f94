-- What each part of a text adds to the sections that are shown of it.
use Rattle.std.specs.Prelude.{◌≡◌, ℕ, Bool, true, false, ◌==◌, List, [], ◌∷◌, ◌++◌, drop, Some, ◌⊎◌}
use Rattle.std.specs.List.{flat_map}
use Rattle.markdown_marks.specs.Remaining.{Remaining}
use Rattle.markdown_leaves.specs.Defining.{joined}
use Rattle.markdown_leaves.specs.Parts.{PartContent, begins, ends, block}
use Rattle.markdown_leaves.specs.Told.{parts_of}
use Rattle.markdown_leaves.specs.declared.parts.Kind.{Kind}
use Rattle.markdown_leaves.specs.declared.parts.Kind.TheVariants.{Paragraph as ParagraphKind, Heading, Indented, Fenced, Html, Table, Rule}
use Rattle.mad_md.specs.Lines.{LineContent, horizontal_rule}
use Rattle.mad_md.specs.declared.composite.CompositeStyle.TheVariants.{Paragraph}
use Rattle.mad_sections.specs.Sections.{SectionContent}
use Rattle.mad_sections.specs.declared.gutters.Alert.{Alert}
use Rattle.markdown_html_text.specs.HtmlLeaves.{html_level}
use Rattle.markdown_lines.specs.Code.{code_lines}
use Rattle.markdown_lines.specs.Leaf.{html_lines}
use Rattle.markdown_lines.specs.Links.{Defined}
use Rattle.markdown_lines.specs.Restyled.{restyled, empty_line}
use Rattle.markdown_lines.specs.Tables.{table_lines}
use Rattle.markdown_lines.specs.Texts.{behind_mark}
use Rattle.markdown_definitions.specs.Definitions.{definitions_of}
use Rattle.markdown_gutters.specs.Signs.{after_box, box_of, after_line, alert_of}
use Rattle.markdown_reader.specs.Mapping.{alert_line, heading_style, html_text, leaves_in, words}
use Rattle.markdown_reader.specs.Markdown.{markdown_sections, steady_sections}

-- the lines of a heading of this level
abbrev pub heading_lines : ℕ → List LineContent → List LineContent
heading_lines level lines = restyled (heading_style level) (heading_style level) lines

-- A paragraph says the rows of its text. Where it begins with a task's box, it may say those of what is behind that, and where its first line is that of an alert, the
-- word of the alert and the rows of its other lines.
abbrev pub IsParagraphSaid : Defined → List ℕ → List LineContent → Type 0
IsParagraphSaid defined text said =
    (said ≡ words defined text)
    ⊎ (((done : Bool) × (box_of text ≡ Some done) × (said ≡ words defined (after_box text)))
    ⊎ ((alert : Alert) × (alert_of text ≡ Some alert) × (said ≡ alert_line alert ∷ restyled Paragraph Paragraph (words defined (after_line text)))))

-- what a block of html says: the rows of its text, or of a heading of this level
abbrev pub html_said_by : (plain : Bool) → ℕ → List ℕ → List LineContent
html_said_by true level text = html_lines (html_text text)
html_said_by false level text = heading_lines level (html_lines (html_text text))

-- A block of html says the rows of its text, in the style of a heading where it is one.
abbrev pub html_said : List ℕ → List LineContent
html_said text = html_said_by (html_level text == 0) (html_level text) text

-- The lines that a leaf of each kind says. Definitions of links say none.
abbrev pub IsSaidOf : Defined → Kind → List Remaining → List LineContent → Type 0
IsSaidOf defined ParagraphKind lines said = IsParagraphSaid defined (joined [] lines) said
IsSaidOf defined (Heading level) lines said = said ≡ heading_lines level (words defined (joined [] lines))
IsSaidOf defined Indented lines said = said ≡ code_lines 0 lines
IsSaidOf defined Fenced lines said = said ≡ code_lines 0 (drop 1 lines)
IsSaidOf defined Html lines said = said ≡ html_said (joined [] lines)
IsSaidOf defined (Table columns) lines said = said ≡ table_lines defined.labels columns lines
IsSaidOf defined Rule lines said = said ≡ horizontal_rule ∷ []
IsSaidOf defined _ lines said = said ≡ []

-- Lines are one section, behind a blank row or none. No lines are none.
abbrev pub AreInOne : List LineContent → List SectionContent → Type 0
AreInOne said [] = said ≡ []
AreInOne said (s ∷ []) = s.lines ≡ said
AreInOne said (b ∷ s ∷ []) = (b.lines ≡ empty_line Paragraph ∷ []) × (s.lines ≡ said)
AreInOne said _ = ⊥

-- The sections that a part adds. A leaf adds its lines. A container adds none where it begins, and none where it ends, but for the empty row of an item that shows nothing.
abbrev pub IsAdded : Defined → PartContent → List SectionContent → Type 0
IsAdded defined (begins container apart) new = new ≡ []
IsAdded defined ends new = (new ≡ []) ⊎ AreInOne (empty_line Paragraph ∷ []) new
IsAdded defined (block leaf) new = (said : List LineContent) × IsSaidOf defined leaf.kind leaf.lines said × AreInOne said new

-- so do parts, one after another, and there are no other sections
abbrev pub AreAdded : Defined → List PartContent → List SectionContent → Type 0
AreAdded defined [] sections = sections ≡ []
AreAdded defined (part ∷ parts) sections =
    (own : List SectionContent) × (more : List SectionContent) × (sections ≡ own ++ more) × IsAdded defined part own × AreAdded defined parts more

-- THE LAW: what a text is shown as are the sections of its parts, in order, each made steady. Html with tags of headings is as many leaves.
abbrev pub LeavesAreShown : Type 0
LeavesAreShown =
    (source : List ℕ) → (printable : List SectionContent) × (markdown_sections source ≡ steady_sections printable)
    × AreAdded (definitions_of (parts_of (behind_mark source))) (flat_map leaves_in (parts_of (behind_mark source))) printable
