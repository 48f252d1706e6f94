-- A section of Markdown has no row of a table, or is one that may be shown as a list.
use Rattle.std.proofs.Common.{◌≡◌, inl, inr, ◌∙◌, ℕ, Bool, true, false, ◌&&◌, ◌==◌, List, [], ◌∷◌, ◌++◌, map, length, drop, Option, Some, None, refl, if◌then◌else◌}
use Rattle.std.specs.List.{AllByRecursion, flat_map}
use Rattle.markdown_marks.specs.Remaining.{Remaining}
use Rattle.markdown_blocks.specs.declared.containers.Container.{Container}
use Rattle.markdown_blocks.specs.declared.containers.Container.TheVariants.{Quote, Item}
use Rattle.markdown_leaves.specs.Defining.{joined}
use Rattle.markdown_leaves.specs.Parts.{PartContent, begins, ends, block}
use Rattle.markdown_leaves.specs.Told.{parts_of}
use Rattle.markdown_leaves.specs.declared.parts.Kind.{Kind}
use Rattle.markdown_leaves.specs.declared.parts.Kind.TheVariants.{Nothing, Paragraph as ParagraphKind, Heading, Indented, Fenced, Html, Table, Rule, Definitions}
use Rattle.mad_md.specs.Lines.{LineContent, normal, table_row, table_rule, horizontal_rule}
use Rattle.mad_md.specs.declared.alignment.Alignment.{Alignment}
use Rattle.mad_md.specs.declared.composite.CompositeStyle.{CompositeStyle}
use Rattle.mad_md.specs.declared.composite.CompositeStyle.TheVariants.{Paragraph}
use Rattle.mad_sections.specs.Sections.{SectionContent}
use Rattle.mad_sections.specs.declared.gutters.Alert.{Alert}
use Rattle.mad_sections.specs.declared.gutters.Gutter.{Gutter}
use Rattle.mad_sections.specs.declared.gutters.Gutter.TheVariants.{Bar, AlertBar, Bullet, Number, Task, Code, Signs, Below}
use Rattle.markdown_html_text.specs.HtmlLeaves.{html_level}
use Rattle.markdown_lines.specs.Code.{code_lines}
use Rattle.markdown_lines.specs.Glyphs.{html_glyphs, leaf_glyphs, trimmed}
use Rattle.markdown_lines.specs.Leaf.{row_of, rows_from, leaf_rows, html_lines}
use Rattle.markdown_lines.specs.Links.{html_addresses, Defined}
use Rattle.markdown_lines.specs.Restyled.{restyled, empty_line}
use Rattle.markdown_lines.specs.Steady.{steady_lines}
use Rattle.markdown_marks.specs.Tables as tables
use Rattle.markdown_cells.specs.Cells.{alignments}
use Rattle.markdown_lines.specs.Tables.{row_said, body, table_lines}
use Rattle.markdown_lines.specs.Texts.{behind_mark}
use Rattle.markdown_lines.specs.declared.glyphs.Glyph.{Glyph}
use Rattle.markdown_gutters.specs.Forms.{is_big}
use Rattle.markdown_gutters.specs.Lists.{is_item}
use Rattle.markdown_gutters.specs.Signs.{after_box, box_of, after_line, alert_of}
use Rattle.markdown_gutters.specs.declared.forms.Form.{Form}
use Rattle.markdown_gutters.specs.declared.forms.Form.TheVariants.{Words, Large, Listed, Boxed}
use Rattle.markdown_definitions.specs.Definitions.{definitions_of}
use Rattle.mad_mark_runs.specs.declared.mark_runs.MarkRun.{MarkRun}
use Rattle.markdown_tones.specs.Fences.{fence_marks}
use Rattle.markdown_reader.specs.Mapping.{html_text, html_by, leaves_in, Mapping, nothing_shown, new_gutter, with_last, is_spaced, spaced, blank_row, linked, section_of, put, passed, list_ended, begun, item_ended, ended_by, text_of, words, addresses_in, words_shown, task_by, alert_line, alert_by, paragraph_by, heading_style, table_addresses, code_shown, leaf_shown, shown_part, shown_parts, with_marks}
use Rattle.markdown_reader.specs.Markdown.{printable_sections}
use Rattle.markdown_reader.specs.Steady.{steady_section, steady_sections}
use Rattle.markdown_page_laws.specs.TableSections.{IsNoRow, HaveNoRow, IsTableOrNone, TablesMayBeLists}
use Rattle.mad_sections.specs.TableTexts.{are_table}

-- ---- lines of leaves

if_none : (t : Bool) (a b : List LineContent) → HaveNoRow a → HaveNoRow b → HaveNoRow (if t then a else b)
if_none true a b h k = h
if_none false a b h k = k

if_line : (t : Bool) (a b : LineContent) → IsNoRow a → IsNoRow b → IsNoRow (if t then a else b)
if_line true a b h k = h
if_line false a b h k = k

rows_none : (row gs : List Glyph) → HaveNoRow (rows_from row gs)
unfolding rows_from
rows_none row [] = (tt, tt)
rows_none row (g ∷ gs) = if_none (g.c == 10) (row_of row ∷ rows_from [] gs) (rows_from (row ++ g ∷ []) gs) (tt, rows_none [] gs) (rows_none (row ++ g ∷ []) gs)

leaf_none : (labels : List (List ℕ)) (text : List ℕ) → HaveNoRow (leaf_rows labels text)
unfolding leaf_rows
leaf_none labels text =
    let gs : List Glyph = trimmed (leaf_glyphs labels false text) in
    if_none (length gs == 0) [] (rows_from [] gs) tt (rows_none [] gs)

html_none : (text : List ℕ) → HaveNoRow (html_lines text)
unfolding html_lines
html_none text =
    let gs : List Glyph = trimmed (html_glyphs text) in
    if_none (length gs == 0) [] (rows_from [] gs) tt (rows_none [] gs)

restyled_none : (style : CompositeStyle) (rows : List LineContent) → HaveNoRow (restyled style style rows)
unfolding restyled
restyled_none style [] = tt
restyled_none style (row ∷ rows) = (tt, restyled_none style rows)

code_none : (column : ℕ) (lines : List Remaining) → HaveNoRow (code_lines column lines)
unfolding code_lines
code_none column [] = tt
code_none column (line ∷ lines) = (if_line ((line.pending == 0) && (length line.bytes == 0)) _ _ tt tt, code_none column lines)

rows_ruled : (labels : List (List ℕ)) (columns : ℕ) (rule : List Alignment) (lines : List Remaining) → are_table (map (row_said labels false columns) lines ++ table_rule rule ∷ []) ≡ true
rows_ruled labels columns rule [] = refl
rows_ruled labels columns rule (line ∷ lines) = rows_ruled labels columns rule lines

body_is : (labels : List (List ℕ)) (columns : ℕ) (rule : List Alignment) (lines : List Remaining) → are_table (body labels columns rule lines ++ table_rule rule ∷ []) ≡ true
body_is labels columns rule [] = refl
body_is labels columns rule (line ∷ lines) = rows_ruled labels columns rule (line ∷ lines)

table_is : (labels : List (List ℕ)) (columns : ℕ) (lines : List Remaining) → are_table (table_lines labels columns lines) ≡ true
unfolding table_lines
table_is labels columns [] = refl
table_is labels columns (head ∷ []) = refl
table_is labels columns (head ∷ delimiters ∷ lines) = body_is labels columns (alignments columns (tables.row_of delimiters.bytes)) lines

-- ---- the mapping

abbrev AreTablesOrNone : List SectionContent → Type 0
AreTablesOrNone sections = AllByRecursion IsTableOrNone sections

abbrev HasTables : Mapping → Type 0
HasTables m = AreTablesOrNone m.sections

one_more : (sections : List SectionContent) (s : SectionContent) → AreTablesOrNone sections → IsTableOrNone s → AreTablesOrNone (sections ++ s ∷ [])
one_more [] s h k = (k, tt)
one_more (x ∷ sections) s h k = (h.0, one_more sections s h.1 k)

if_mapping : (t : Bool) (m n : Mapping) → HasTables m → HasTables n → HasTables (if t then m else n)
if_mapping true m n h k = h
if_mapping false m n h k = k

spaced_has : (apart big : Bool) (m : Mapping) → HasTables m → HasTables (spaced apart big m)
spaced_has apart big m h = if_mapping (is_spaced apart big m) _ m (one_more m.sections (blank_row m) h (inl (tt, tt))) h

put_has : (form : Form) (lines : List LineContent) (addresses : List (List ℕ)) (m : Mapping) → ((n : Mapping) → IsTableOrNone (section_of form lines n)) → HasTables m → HasTables (put form lines addresses m)
put_has form lines addresses m k h =
    let apart : Mapping = spaced m.apart (is_big form) m in
    if_mapping (length lines == 0) m _ h (one_more apart.sections (section_of form lines (linked addresses apart)) (spaced_has m.apart (is_big form) m h) (k (linked addresses apart)))

begun_has : (container : Container) (m : Mapping) → HasTables m → HasTables (begun container m)
begun_has Quote m h = h
begun_has (Item sign number content) m h = h

item_has : (m : Mapping) → HasTables m → HasTables (item_ended m)
item_has m h = one_more (spaced m.item_apart false m).sections (section_of Words (empty_line Paragraph ∷ []) (spaced m.item_apart false m)) (spaced_has m.item_apart false m h) (inl (tt, tt))

ended_has : (gutter : Option Gutter) (m : Mapping) → HasTables m → HasTables (ended_by gutter m)
ended_has None m h = h
ended_has (Some gutter) m h = if_mapping (is_item gutter) (item_ended m) m (item_has m h) h

words_has : (defined : Defined) (bytes : List ℕ) (m : Mapping) → HasTables m → HasTables (words_shown defined bytes m)
words_has defined bytes m h = put_has Words (words defined bytes) (addresses_in defined bytes) m (λ n. inl (leaf_none defined.labels (text_of bytes))) h

task_has : (done : Option Bool) (defined : Defined) (bytes : List ℕ) (m : Mapping) → HasTables m → HasTables (task_by done defined bytes m)
task_has None defined bytes m h = words_has defined bytes m h
task_has (Some done) defined bytes m h = words_has defined (after_box bytes) (with_last (Task done) m) h

alert_has : (alert : Option Alert) (defined : Defined) (bytes : List ℕ) (m : Mapping) → HasTables m → HasTables (alert_by alert defined bytes m)
alert_has None defined bytes m h = words_has defined bytes m h
alert_has (Some alert) defined bytes m h =
    let rows = words defined (after_line bytes) in
    put_has Words (alert_line alert ∷ restyled Paragraph Paragraph rows) (addresses_in defined (after_line bytes)) (with_last (AlertBar alert) m) (λ n. inl (tt, restyled_none Paragraph rows)) h

paragraph_has : (gutter : Option Gutter) (defined : Defined) (bytes : List ℕ) (m : Mapping) → HasTables m → HasTables (paragraph_by gutter defined bytes m)
paragraph_has (Some Bullet) defined bytes m h = task_has (box_of bytes) defined bytes m h
paragraph_has (Some Bar) defined bytes m h = alert_has (alert_of bytes) defined bytes m h
paragraph_has (Some (AlertBar alert)) defined bytes m h = words_has defined bytes m h
paragraph_has (Some (Number number)) defined bytes m h = words_has defined bytes m h
paragraph_has (Some (Task done)) defined bytes m h = words_has defined bytes m h
paragraph_has (Some Code) defined bytes m h = words_has defined bytes m h
paragraph_has (Some (Signs level)) defined bytes m h = words_has defined bytes m h
paragraph_has (Some (Below level)) defined bytes m h = words_has defined bytes m h
paragraph_has None defined bytes m h = words_has defined bytes m h

code_has : (marks : List MarkRun) (lines : List Remaining) (m : Mapping) → HasTables m → HasTables (code_shown marks lines m)
code_has marks lines m h = put_has Boxed (code_lines 0 lines) [] (with_marks marks m) (λ n. inl (code_none 0 lines)) h

html_has : (t : Bool) (level : ℕ) (text : List ℕ) (m : Mapping) → HasTables m → HasTables (html_by t level text m)
html_has true level text m h = put_has Words (html_lines text) (html_addresses text) m (λ n. inl (html_none text)) h
html_has false level text m h =
    put_has Large (restyled (heading_style level) (heading_style level) (html_lines text)) (html_addresses text) m (λ n. inl (restyled_none (heading_style level) (html_lines text))) h

leaf_has : (defined : Defined) (kind : Kind) (lines : List Remaining) (m : Mapping) → HasTables m → HasTables (leaf_shown defined kind lines m)
leaf_has defined ParagraphKind lines m h = paragraph_has (new_gutter m) defined (joined [] lines) m h
leaf_has defined Html lines m h = html_has (html_level (joined [] lines) == 0) (html_level (joined [] lines)) (html_text (joined [] lines)) m h
leaf_has defined (Heading level) lines m h =
    let rows = words defined (joined [] lines) in
    put_has Large (restyled (heading_style level) (heading_style level) rows) (addresses_in defined (joined [] lines)) m (λ n. inl (restyled_none (heading_style level) rows)) h
leaf_has defined Indented lines m h = code_has [] lines m h
leaf_has defined Fenced lines m h = code_has (fence_marks lines) (drop 1 lines) m h
leaf_has defined (Table columns) lines m h = put_has Listed (table_lines defined.labels columns lines) (table_addresses defined columns lines) m (λ n. inr (table_is defined.labels columns lines, refl)) h
leaf_has defined Rule lines m h = put_has Large (horizontal_rule ∷ []) [] m (λ n. inl (tt, tt)) h
leaf_has defined Nothing lines m h = h
leaf_has defined Definitions lines m h = h

part_has : (defined : Defined) (part : PartContent) (m : Mapping) → HasTables m → HasTables (shown_part defined part m)
unfolding shown_part
part_has defined (begins container apart) m h = begun_has container (passed apart m) h
part_has defined ends m h = ended_has (new_gutter m) m h
part_has defined (block leaf) m h = leaf_has defined leaf.kind leaf.lines (list_ended (passed leaf.apart m)) h

parts_have : (defined : Defined) (parts : List PartContent) (m : Mapping) → HasTables m → HasTables (shown_parts defined parts m)
unfolding shown_parts
parts_have defined [] m h = h
parts_have defined (part ∷ parts) m h = parts_have defined parts (shown_part defined part m) (part_has defined part m h)

source_has : (source : List ℕ) → AreTablesOrNone (printable_sections source)
unfolding printable_sections
source_has source = parts_have (definitions_of (parts_of source)) (flat_map leaves_in (parts_of source)) nothing_shown tt

-- ---- steady lines

steady_none : (lines : List LineContent) → HaveNoRow lines → HaveNoRow (steady_lines lines)
unfolding steady_lines
steady_none [] h = tt
steady_none (normal row ∷ lines) h = (tt, steady_none lines h.1)
steady_none (table_row row ∷ lines) h = absurd h.0
steady_none (table_rule rule ∷ lines) h = (tt, steady_none lines h.1)
steady_none (horizontal_rule ∷ lines) h = (tt, steady_none lines h.1)

steady_table : (lines : List LineContent) → are_table (steady_lines lines) ≡ are_table lines
unfolding steady_lines
steady_table [] = refl
steady_table (normal row ∷ lines) = refl
steady_table (table_row row ∷ lines) = steady_table lines
steady_table (table_rule rule ∷ lines) = steady_table lines
steady_table (horizontal_rule ∷ lines) = refl

one_steady : (s : SectionContent) → IsTableOrNone s → IsTableOrNone (steady_section s)
one_steady s (inl none) = inl (steady_none s.lines none)
one_steady s (inr h) = inr (steady_table s.lines ∙ h.0, h.1)

all_steady : (sections : List SectionContent) → AreTablesOrNone sections → AreTablesOrNone (steady_sections sections)
all_steady [] h = tt
all_steady (s ∷ sections) h = (one_steady s h.0, all_steady sections h.1)

-- so it is with what each text is shown as
pub tables_may_be_lists : TablesMayBeLists
tables_may_be_lists source = all_steady (printable_sections (behind_mark source)) (source_has (behind_mark source))
