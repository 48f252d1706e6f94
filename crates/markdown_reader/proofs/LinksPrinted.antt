-- Where links lead: nothing that a terminal obeys.
use Rattle.std.proofs.Common.{◌≡◌, ℕ, zero, suc, ◌+◌, Bool, true, false, ◌==◌, List, [], ◌∷◌, ◌++◌, length, drop, map, Option, Some, None, slice_get, refl, sym, subst, if◌then◌else◌}
use Rattle.std.specs.List.{AllByRecursion, list_any, flat_map}
use Rattle.std.specs.Str.{NoCharPasses, bytes_eq}
use Rattle.markdown_brackets.specs.Labels.{normal}
use Rattle.markdown_marks.specs.Definitions.{after_definition}
use Rattle.markdown_marks.specs.Remaining.{Remaining}
use Rattle.markdown_blocks.specs.declared.containers.Container.{Container}
use Rattle.markdown_blocks.specs.declared.containers.Container.TheVariants.{Quote, Item}
use Rattle.markdown_destinations.specs.Destinations.{Leads, link_leads}
use Rattle.markdown_link_parts.specs.Parts.{defined_destination}
use Rattle.markdown_link_parts.specs.Texts.{text_of}
use Rattle.markdown_inlines.specs.declared.inlines.LinkTarget.{LinkTarget}
use Rattle.markdown_inlines.specs.declared.inlines.LinkTarget.TheVariants.{Definition, Inline, Address, Attribute}
use Rattle.markdown_inlines.specs.Inlines.{leaf_links, links_from}
use Rattle.markdown_leaves.specs.Defining.{joined}
use Rattle.markdown_leaves.specs.Parts.{PartContent, begins, ends, block}
use Rattle.markdown_leaves.specs.Told.{parts_of}
use Rattle.markdown_leaves.specs.declared.parts.Kind.{Kind}
use Rattle.markdown_leaves.specs.declared.parts.Kind.TheVariants.{Nothing, Paragraph as ParagraphKind, Heading, Indented, Fenced, Html, Table, Rule, Definitions}
use Rattle.markdown_cells.specs.Cells.{cell_text, after_cell}
use Rattle.markdown_lines.specs.Tables.{cells_addresses, row_addresses, rows_links, table_lines}
use Rattle.markdown_gutters.specs.Forms.{is_big}
use Rattle.markdown_gutters.specs.Lists.{is_item}
use Rattle.markdown_gutters.specs.Signs.{after_box, box_of, after_line, alert_of}
use Rattle.markdown_gutters.specs.declared.forms.Form.{Form}
use Rattle.markdown_gutters.specs.declared.forms.Form.TheVariants.{Words, Large, Listed, Boxed}
use Rattle.markdown_definitions.specs.Definitions.{label_of, with_definition, defined_or, defined_in, leaf_defined, part_defined, parts_defined, nothing_defined, definitions_of}
use Rattle.markdown_reader.specs.Markdown.{unmarked_links}
use Rattle.mad_md.specs.Lines.{LineContent, horizontal_rule}
use Rattle.mad_md.specs.declared.composite.CompositeStyle.TheVariants.{Paragraph}
use Rattle.mad_sections.specs.declared.gutters.Alert.{Alert}
use Rattle.mad_sections.specs.declared.gutters.Gutter.{Gutter}
use Rattle.mad_sections.specs.declared.gutters.Gutter.TheVariants.{Bar, AlertBar, Bullet, Number, Task, Code, Signs, Below}
use Rattle.markdown_lines.specs.Code.{code_lines}
use Rattle.markdown_lines.specs.Leaf.{html_lines}
use Rattle.markdown_lines.specs.Links as line_links
use Rattle.markdown_lines.specs.Links.{html_addresses, Defined, definition_address, address_or_none, address_by, address_in, address_of, leaf_addresses, links_at}
use Rattle.markdown_lines.specs.Restyled.{restyled}
use Rattle.markdown_tones.specs.Fences.{fence_marks}
use Rattle.markdown_html_text.specs.HtmlLeaves.{html_level}
use Rattle.markdown_html_text.specs.HtmlPieces.{html_pieces}
use Rattle.markdown_reader.specs.Mapping.{LinkSaid, Mapping, nothing_shown, new_gutter, with_last, is_spaced, spaced, link_at, put, passed, list_ended, begun, item_ended, ended_by, words, addresses_in, text_of as leaf_text, words_shown, task_by, alert_line, alert_by, paragraph_by, heading_style, html_text, html_by, leaves_in, address_said, table_addresses, leaf_shown, shown_part, shown_parts, with_marks}
use Rattle.markdown_reader.proofs.LinesPrinted.{text_printed}
use Rattle.markdown_lines.specs.Printed.{is_obeyed}
use Rattle.markdown_reader.specs.Printed.{ArePrintedLinks}

abbrev IsPrintedText : List ℕ → Type 0
IsPrintedText text = NoCharPasses is_obeyed text

abbrev ArePrintedTexts : List (List ℕ) → Type 0
ArePrintedTexts texts = AllByRecursion IsPrintedText texts

empty_printed : IsPrintedText []
empty_printed = ([], refl, tt)

texts_append : (xs ys : List (List ℕ)) → ArePrintedTexts xs → ArePrintedTexts ys → ArePrintedTexts (xs ++ ys)
texts_append [] ys h k = k
texts_append (x ∷ xs) ys h k = (h.0, texts_append xs ys h.1 k)

-- ---- definitions

abbrev LeadsPrinted : Defined → Type 0
LeadsPrinted defined = ArePrintedTexts defined.addresses

if_defined : (t : Bool) (a b : Defined) → LeadsPrinted a → LeadsPrinted b → LeadsPrinted (if t then a else b)
if_defined true a b h k = h
if_defined false a b h k = k

with_printed : (defined : Defined) (label : Option (List ℕ)) (text : List ℕ) → LeadsPrinted defined → LeadsPrinted (with_definition defined label text)
with_printed defined None text h = h
with_printed defined (Some label) text h =
    if_defined (list_any (bytes_eq label) defined.labels) defined _ h (texts_append defined.addresses (definition_address text ∷ []) h (text_printed (text_of (defined_destination text)), tt))

mutual_or : (count : ℕ) (rest : Option (List ℕ)) (defined : Defined) (text : List ℕ) → ((d : Defined) (t : List ℕ) → LeadsPrinted d → LeadsPrinted (defined_in count d t)) → LeadsPrinted defined → LeadsPrinted (defined_or rest defined text (defined_in count))
mutual_or count None defined text k h = h
mutual_or count (Some rest) defined text k h = k (with_definition defined (normal (label_of text)) text) rest (with_printed defined (normal (label_of text)) text h)

in_printed : (count : ℕ) (defined : Defined) (text : List ℕ) → LeadsPrinted defined → LeadsPrinted (defined_in count defined text)
unfolding defined_in
in_printed zero defined text h = h
in_printed (suc count) defined text h = mutual_or count (after_definition text) defined text (in_printed count) h

leaf_defined_printed : (kind : Kind) (defined : Defined) (lines : List Remaining) → LeadsPrinted defined → LeadsPrinted (leaf_defined kind defined lines)
leaf_defined_printed Definitions defined lines h = in_printed (length (joined [] lines)) defined (joined [] lines) h
leaf_defined_printed Nothing defined lines h = h
leaf_defined_printed ParagraphKind defined lines h = h
leaf_defined_printed (Heading level) defined lines h = h
leaf_defined_printed Indented defined lines h = h
leaf_defined_printed Fenced defined lines h = h
leaf_defined_printed Html defined lines h = h
leaf_defined_printed (Table columns) defined lines h = h
leaf_defined_printed Rule defined lines h = h

part_defined_printed : (defined : Defined) (part : PartContent) → LeadsPrinted defined → LeadsPrinted (part_defined defined part)
part_defined_printed defined (block leaf) h = leaf_defined_printed leaf.kind defined leaf.lines h
part_defined_printed defined (begins container apart) h = h
part_defined_printed defined ends h = h

parts_defined_printed : (defined : Defined) (parts : List PartContent) → LeadsPrinted defined → LeadsPrinted (parts_defined defined parts)
unfolding parts_defined
parts_defined_printed defined [] h = h
parts_defined_printed defined (part ∷ parts) h = parts_defined_printed (part_defined defined part) parts (part_defined_printed defined part h)

definitions_printed : (parts : List PartContent) → LeadsPrinted (definitions_of parts)
definitions_printed parts = parts_defined_printed nothing_defined parts tt

-- ---- addresses

get_printed : (addresses : List (List ℕ)) (index : ℕ) → ArePrintedTexts addresses → IsPrintedText (address_or_none (slice_get addresses index))
get_printed [] index h = empty_printed
get_printed (a ∷ addresses) zero h = h.0
get_printed (a ∷ addresses) (suc index) h = get_printed addresses index h.1

by_printed : (addresses : List (List ℕ)) (link : LinkTarget) → ArePrintedTexts addresses → IsPrintedText (address_by addresses link)
by_printed addresses (Definition index) h = get_printed addresses index h
by_printed addresses (Inline at len) h = empty_printed
by_printed addresses (Address scheme at len) h = empty_printed
by_printed addresses (Attribute at value) h = empty_printed

in_leads : (defined : List ℕ) (leads : Option Leads) → IsPrintedText defined → IsPrintedText (address_in defined leads)
in_leads defined None h = h
in_leads defined (Some leads) h = text_printed leads.destination

addresses_printed : (addresses : List (List ℕ)) (text : List ℕ) (links : List LinkTarget) → ArePrintedTexts addresses → ArePrintedTexts (map (address_of addresses text) links)
addresses_printed addresses text [] h = tt
addresses_printed addresses text (link ∷ links) h = (in_leads (address_by addresses link) (link_leads text link) (by_printed addresses link h), addresses_printed addresses text links h)

leaf_addresses_printed : (defined : Defined) (text : List ℕ) → LeadsPrinted defined → ArePrintedTexts (leaf_addresses defined text)
leaf_addresses_printed defined text h = addresses_printed defined.addresses text (leaf_links defined.labels text) h

cells_printed : (defined : Defined) (columns : ℕ) (row : List ℕ) → LeadsPrinted defined → ArePrintedTexts (cells_addresses defined columns row)
unfolding cells_addresses
cells_printed defined zero row h = tt
cells_printed defined (suc columns) row h = texts_append (leaf_addresses defined (cell_text row)) (cells_addresses defined columns (after_cell row)) (leaf_addresses_printed defined (cell_text row) h) (cells_printed defined columns (after_cell row) h)

-- ---- tables

at_printed : (line : ℕ) (addresses : List (List ℕ)) → ArePrintedTexts addresses → ArePrintedTexts (map address_said (links_at line addresses))
at_printed line [] h = tt
at_printed line (a ∷ addresses) h = (h.0, at_printed line addresses h.1)

said_append : (xs ys : List line_links.LinkSaid) → ArePrintedTexts (map address_said xs) → ArePrintedTexts (map address_said ys) → ArePrintedTexts (map address_said (xs ++ ys))
said_append [] ys h k = k
said_append (x ∷ xs) ys h k = (h.0, said_append xs ys h.1 k)

rows_printed : (defined : Defined) (columns at : ℕ) (lines : List Remaining) → LeadsPrinted defined → ArePrintedTexts (map address_said (rows_links defined columns at lines))
unfolding rows_links
rows_printed defined columns at [] h = tt
rows_printed defined columns at (line ∷ lines) h =
    said_append (links_at at (row_addresses defined columns line)) (rows_links defined columns (at + 1) lines)
    (at_printed at (row_addresses defined columns line) (cells_printed defined _ _ h)) (rows_printed defined columns (at + 1) lines h)

table_printed : (defined : Defined) (columns : ℕ) (lines : List Remaining) → LeadsPrinted defined → ArePrintedTexts (table_addresses defined columns lines)
table_printed defined columns [] h = tt
table_printed defined columns (head ∷ []) h = tt
table_printed defined columns (head ∷ delimiters ∷ lines) h =
    said_append (links_at 1 (row_addresses defined columns head)) (rows_links defined columns 3 lines)
    (at_printed 1 (row_addresses defined columns head) (cells_printed defined _ _ h)) (rows_printed defined columns 3 lines h)

-- ---- the mapping

no_links : ArePrintedLinks []
unfolding ArePrintedLinks
no_links = tt

section_links : (section : ℕ) (addresses : List (List ℕ)) → ArePrintedTexts addresses → ArePrintedLinks (map (link_at section) addresses)
unfolding ArePrintedLinks
section_links section [] h = tt
section_links section (a ∷ addresses) h = (h.0, section_links section addresses h.1)

links_append : (xs ys : List LinkSaid) → ArePrintedLinks xs → ArePrintedLinks ys → ArePrintedLinks (xs ++ ys)
unfolding ArePrintedLinks
links_append [] ys h k = k
links_append (x ∷ xs) ys h k = (h.0, links_append xs ys h.1 k)

abbrev HasPrinted : Mapping → Type 0
HasPrinted m = ArePrintedLinks m.links

if_mapping : (t : Bool) (m n : Mapping) → HasPrinted m → HasPrinted n → HasPrinted (if t then m else n)
if_mapping true m n h k = h
if_mapping false m n h k = k

spaced_has : (apart big : Bool) (m : Mapping) → HasPrinted m → HasPrinted (spaced apart big m)
spaced_has apart big m h = if_mapping (is_spaced apart big m) _ m h h

put_has : (form : Form) (lines : List LineContent) (addresses : List (List ℕ)) (m : Mapping) → ArePrintedTexts addresses → HasPrinted m → HasPrinted (put form lines addresses m)
put_has form lines addresses m k h =
    let apart : Mapping = spaced m.apart (is_big form) m in
    if_mapping (length lines == 0) m _ h (links_append apart.links (map (link_at (length apart.sections)) addresses) (spaced_has m.apart (is_big form) m h) (section_links (length apart.sections) addresses k))

begun_has : (container : Container) (m : Mapping) → HasPrinted m → HasPrinted (begun container m)
begun_has Quote m h = h
begun_has (Item sign number content) m h = h

ended_has : (gutter : Option Gutter) (m : Mapping) → HasPrinted m → HasPrinted (ended_by gutter m)
ended_has None m h = h
ended_has (Some gutter) m h = if_mapping (is_item gutter) (item_ended m) m (spaced_has m.item_apart false m h) h

words_has : (defined : Defined) (bytes : List ℕ) (m : Mapping) → LeadsPrinted defined → HasPrinted m → HasPrinted (words_shown defined bytes m)
words_has defined bytes m k h = put_has Words (words defined bytes) (addresses_in defined bytes) m (leaf_addresses_printed defined (leaf_text bytes) k) h

task_has : (done : Option Bool) (defined : Defined) (bytes : List ℕ) (m : Mapping) → LeadsPrinted defined → HasPrinted m → HasPrinted (task_by done defined bytes m)
task_has None defined bytes m k h = words_has defined bytes m k h
task_has (Some done) defined bytes m k h = words_has defined (after_box bytes) (with_last (Task done) m) k h

alert_has : (alert : Option Alert) (defined : Defined) (bytes : List ℕ) (m : Mapping) → LeadsPrinted defined → HasPrinted m → HasPrinted (alert_by alert defined bytes m)
alert_has None defined bytes m k h = words_has defined bytes m k h
alert_has (Some alert) defined bytes m k h =
    put_has Words (alert_line alert ∷ restyled Paragraph Paragraph (words defined (after_line bytes))) (addresses_in defined (after_line bytes)) (with_last (AlertBar alert) m) (leaf_addresses_printed defined (leaf_text (after_line bytes)) k) h

paragraph_has : (gutter : Option Gutter) (defined : Defined) (bytes : List ℕ) (m : Mapping) → LeadsPrinted defined → HasPrinted m → HasPrinted (paragraph_by gutter defined bytes m)
paragraph_has (Some Bullet) defined bytes m k h = task_has (box_of bytes) defined bytes m k h
paragraph_has (Some Bar) defined bytes m k h = alert_has (alert_of bytes) defined bytes m k h
paragraph_has (Some (Number number)) defined bytes m k h = words_has defined bytes m k h
paragraph_has (Some (Task done)) defined bytes m k h = words_has defined bytes m k h
paragraph_has (Some Code) defined bytes m k h = words_has defined bytes m k h
paragraph_has (Some (AlertBar alert)) defined bytes m k h = words_has defined bytes m k h
paragraph_has (Some (Signs level)) defined bytes m k h = words_has defined bytes m k h
paragraph_has (Some (Below level)) defined bytes m k h = words_has defined bytes m k h
paragraph_has None defined bytes m k h = words_has defined bytes m k h

html_has : (t : Bool) (level : ℕ) (text : List ℕ) (m : Mapping) → HasPrinted m → HasPrinted (html_by t level text m)
html_has true level text m h = put_has Words (html_lines text) (html_addresses text) m (addresses_printed [] text (links_from 0 (html_pieces text)) tt) h
html_has false level text m h = put_has Large (restyled (heading_style level) (heading_style level) (html_lines text)) (html_addresses text) m (addresses_printed [] text (links_from 0 (html_pieces text)) tt) h

leaf_has : (defined : Defined) (kind : Kind) (lines : List Remaining) (m : Mapping) → LeadsPrinted defined → HasPrinted m → HasPrinted (leaf_shown defined kind lines m)
leaf_has defined ParagraphKind lines m k h = paragraph_has (new_gutter m) defined (joined [] lines) m k h
leaf_has defined Html lines m k h = html_has (html_level (joined [] lines) == 0) (html_level (joined [] lines)) (html_text (joined [] lines)) m h
leaf_has defined (Heading level) lines m k h =
    put_has Large (restyled (heading_style level) (heading_style level) (words defined (joined [] lines))) (addresses_in defined (joined [] lines)) m (leaf_addresses_printed defined (leaf_text (joined [] lines)) k) h
leaf_has defined Indented lines m k h = put_has Boxed (code_lines 0 lines) [] (with_marks [] m) tt h
leaf_has defined Fenced lines m k h = put_has Boxed (code_lines 0 (drop 1 lines)) [] (with_marks (fence_marks lines) m) tt h
leaf_has defined (Table columns) lines m k h = put_has Listed (table_lines defined.labels columns lines) (table_addresses defined columns lines) m (table_printed defined columns lines k) h
leaf_has defined Rule lines m k h = put_has Large (horizontal_rule ∷ []) [] m tt h
leaf_has defined Nothing lines m k h = h
leaf_has defined Definitions lines m k h = h

part_has : (defined : Defined) (part : PartContent) (m : Mapping) → LeadsPrinted defined → HasPrinted m → HasPrinted (shown_part defined part m)
unfolding shown_part
part_has defined (begins container apart) m k h = begun_has container (passed apart m) h
part_has defined ends m k h = ended_has (new_gutter m) m h
part_has defined (block leaf) m k h = leaf_has defined leaf.kind leaf.lines (list_ended (passed leaf.apart m)) k h

parts_have : (defined : Defined) (parts : List PartContent) (m : Mapping) → LeadsPrinted defined → HasPrinted m → HasPrinted (shown_parts defined parts m)
unfolding shown_parts
parts_have defined [] m k h = h
parts_have defined (part ∷ parts) m k h = parts_have defined parts (shown_part defined part m) k (part_has defined part m k h)

source_has : (source : List ℕ) → ArePrintedLinks (unmarked_links source)
unfolding unmarked_links
source_has source = parts_have (definitions_of (parts_of source)) (flat_map leaves_in (parts_of source)) nothing_shown (definitions_printed (parts_of source)) no_links

-- where the links of a text lead has nothing that a terminal obeys
pub links_printed : (source : List ℕ) (links : List LinkSaid) → links ≡ unmarked_links source → ArePrintedLinks links
links_printed source links e = subst ArePrintedLinks (sym e) (source_has source)
