-- What is shown has no character that a terminal obeys.
use Rattle.std.proofs.Common.{◌≡◌, ℕ, ◌<◌, Bool, true, false, not, ◌&&◌, nat_lt, ◌==◌, ap, ◌∙◌, arith, List, [], ◌∷◌, ◌++◌, length, drop, Option, Some, None, refl, sym, subst, if◌then◌else◌}
use Rattle.std.specs.Prelude.{encode_utf8_all}
use Rattle.std.specs.List.{list_all, flat_map}
use Rattle.std.specs.Str.{NoCharPasses, NonePass}
use Rattle.std.proofs.lemmas.Bool.{and_parts}
use Rattle.std.proofs.lemmas.Bool.Decides.{nat_tests}
use Rattle.std.proofs.lemmas.Str.{encode_ascii}
use Rattle.markdown_marks.specs.Remaining.{Remaining}
use Rattle.markdown_blocks.specs.declared.containers.Container.{Container}
use Rattle.markdown_blocks.specs.declared.containers.Container.TheVariants.{Quote, Item}
use Rattle.markdown_leaves.specs.Defining.{joined}
use Rattle.markdown_leaves.specs.Parts.{PartContent, begins, ends, block}
use Rattle.markdown_leaves.specs.Told.{parts_of}
use Rattle.markdown_leaves.specs.declared.parts.Kind.{Kind}
use Rattle.markdown_leaves.specs.declared.parts.Kind.TheVariants.{Nothing, Paragraph as ParagraphKind, Heading, Indented, Fenced, Html, Table, Rule, Definitions}
use Rattle.mad_md.specs.Lines.{LineContent, horizontal_rule}
use Rattle.mad_md.specs.declared.composite.CompositeStyle.TheVariants.{Paragraph}
use Rattle.mad_sections.specs.Sections.{SectionContent}
use Rattle.mad_sections.specs.declared.gutters.Alert.{Alert}
use Rattle.mad_sections.specs.declared.gutters.Alert.TheVariants.{Note, Tip, Important, Warning, Caution}
use Rattle.mad_sections.specs.declared.gutters.Gutter.{Gutter}
use Rattle.mad_sections.specs.declared.gutters.Gutter.TheVariants.{Bar, AlertBar, Bullet, Number, Task, Code, Signs, Below}
use Rattle.markdown_lines.specs.Code.{code_lines}
use Rattle.markdown_lines.specs.Leaf.{html_lines}
use Rattle.markdown_lines.specs.Links.{html_addresses, Defined}
use Rattle.markdown_lines.specs.Printed.{is_obeyed, ArePrinted}
use Rattle.markdown_lines.specs.Restyled.{restyled, empty_line}
use Rattle.markdown_lines.specs.Tables.{table_lines}
use Rattle.markdown_gutters.specs.Forms.{is_big}
use Rattle.markdown_gutters.specs.Lists.{is_item}
use Rattle.markdown_gutters.specs.Signs.{after_box, box_of, after_line, alert_word, alert_of}
use Rattle.markdown_gutters.specs.declared.forms.Form.{Form}
use Rattle.markdown_gutters.specs.declared.forms.Form.TheVariants.{Words, Large, Listed, Boxed}
use Rattle.markdown_definitions.specs.Definitions.{definitions_of}
use Rattle.mad_mark_runs.specs.declared.mark_runs.MarkRun.{MarkRun}
use Rattle.markdown_tones.specs.Fences.{fence_marks}
use Rattle.markdown_html_text.specs.HtmlLeaves.{html_level}
use Rattle.markdown_reader.specs.Mapping.{Mapping, nothing_shown, new_gutter, with_last, is_spaced, spaced, blank_row, linked, section_of, put, passed, list_ended, begun, item_ended, ended_by, text_of, words, addresses_in, words_shown, task_by, alert_line, alert_by, paragraph_by, heading_style, html_text, html_by, leaves_in, table_addresses, code_shown, leaf_shown, shown_part, shown_parts, with_marks}
use Rattle.markdown_reader.specs.Markdown.{printable_sections}
use Rattle.markdown_reader.specs.Printed.{ArePrintedSections}
use Rattle.markdown_reader.proofs.GlyphsPrinted.{nothing_printed, cons_printed, leaf_printed}
use Rattle.markdown_reader.proofs.GlyphsPrinted.{html_printed}
use Rattle.markdown_reader.proofs.LinesPrinted.{restyled_printed, code_lines_printed, table_printed}

-- ---- sections

-- where there are no sections, no character is obeyed
pub no_sections : ArePrintedSections []
unfolding ArePrintedSections
no_sections = tt

one_more : (sections : List SectionContent) (s : SectionContent) → ArePrintedSections sections → ArePrinted s.lines → ArePrintedSections (sections ++ s ∷ [])
unfolding ArePrintedSections
one_more [] s h k = (k, tt)
one_more (x ∷ sections) s h k = (h.0, one_more sections s h.1 k)

abbrev HasPrinted : Mapping → Type 0
HasPrinted m = ArePrintedSections m.sections

if_mapping : (t : Bool) (m n : Mapping) → HasPrinted m → HasPrinted n → HasPrinted (if t then m else n)
if_mapping true m n h k = h
if_mapping false m n h k = k

empty_row : ArePrinted (empty_line Paragraph ∷ [])
empty_row = cons_printed (empty_line Paragraph) [] tt nothing_printed

spaced_has : (apart big : Bool) (m : Mapping) → HasPrinted m → HasPrinted (spaced apart big m)
spaced_has apart big m h = if_mapping (is_spaced apart big m) _ m (one_more m.sections (blank_row m) h empty_row) h

put_has : (form : Form) (lines : List LineContent) (addresses : List (List ℕ)) (m : Mapping) → ArePrinted lines → HasPrinted m → HasPrinted (put form lines addresses m)
put_has form lines addresses m k h =
    let apart : Mapping = spaced m.apart (is_big form) m in
    if_mapping (length lines == 0) m _ h (one_more apart.sections (section_of form lines (linked addresses apart)) (spaced_has m.apart (is_big form) m h) k)

-- ---- containers

begun_has : (container : Container) (m : Mapping) → HasPrinted m → HasPrinted (begun container m)
begun_has Quote m h = h
begun_has (Item sign number content) m h = h

item_has : (m : Mapping) → HasPrinted m → HasPrinted (item_ended m)
item_has m h = one_more (spaced m.item_apart false m).sections (section_of Words (empty_line Paragraph ∷ []) (spaced m.item_apart false m)) (spaced_has m.item_apart false m h) empty_row

ended_has : (gutter : Option Gutter) (m : Mapping) → HasPrinted m → HasPrinted (ended_by gutter m)
ended_has None m h = h
ended_has (Some gutter) m h = if_mapping (is_item gutter) (item_ended m) m (item_has m h) h

-- ---- leaves

words_has : (defined : Defined) (bytes : List ℕ) (m : Mapping) → HasPrinted m → HasPrinted (words_shown defined bytes m)
words_has defined bytes m h = put_has Words (words defined bytes) (addresses_in defined bytes) m (leaf_printed defined.labels (text_of bytes)) h

task_has : (done : Option Bool) (defined : Defined) (bytes : List ℕ) (m : Mapping) → HasPrinted m → HasPrinted (task_by done defined bytes m)
task_has None defined bytes m h = words_has defined bytes m h
task_has (Some done) defined bytes m h = words_has defined (after_box bytes) (with_last (Task done) m) h

-- characters of ASCII that no terminal obeys
abbrev is_plain : ℕ → Bool
is_plain c = nat_lt c 128 && not (is_obeyed c)

is_low : (c : ℕ) → nat_lt c 128 ≡ true → c < 128
is_low c on = grind (arith, nat_tests, on)

not_obeyed : (b : Bool) → not b ≡ true → b ≡ false
not_obeyed false h = refl
not_obeyed true h = absurd (no h)
  where
    no : false ≡ true → ⊥
    no e = cc

plain_text : (cs : List ℕ) → list_all is_plain cs ≡ true → encode_utf8_all cs ≡ cs
plain_text [] h = refl
plain_text (c ∷ cs) h =
    let both = and_parts (is_plain c) (list_all is_plain cs) h in
    let low = and_parts (nat_lt c 128) (not (is_obeyed c)) both.0 in
    ap (λ (l : List ℕ). l ++ encode_utf8_all cs) (encode_ascii c (is_low c low.0)) ∙ ap (λ (l : List ℕ). c ∷ l) (plain_text cs both.1)

plain_none : (cs : List ℕ) → list_all is_plain cs ≡ true → NonePass is_obeyed cs
plain_none [] h = tt
plain_none (c ∷ cs) h =
    let both = and_parts (is_plain c) (list_all is_plain cs) h in
    let low = and_parts (nat_lt c 128) (not (is_obeyed c)) both.0 in
    (not_obeyed (is_obeyed c) low.1, plain_none cs both.1)

plain_printed : (text : List ℕ) → list_all is_plain text ≡ true → NoCharPasses is_obeyed text
plain_printed text h = (text, plain_text text h, plain_none text h)

word_printed : (alert : Alert) → NoCharPasses is_obeyed (alert_word alert)
word_printed Note = plain_printed (alert_word Note) refl
word_printed Tip = plain_printed (alert_word Tip) refl
word_printed Important = plain_printed (alert_word Important) refl
word_printed Warning = plain_printed (alert_word Warning) refl
word_printed Caution = plain_printed (alert_word Caution) refl

alert_has : (alert : Option Alert) (defined : Defined) (bytes : List ℕ) (m : Mapping) → HasPrinted m → HasPrinted (alert_by alert defined bytes m)
alert_has None defined bytes m h = words_has defined bytes m h
alert_has (Some alert) defined bytes m h =
    let rows = words defined (after_line bytes) in
    put_has Words (alert_line alert ∷ restyled Paragraph Paragraph rows) (addresses_in defined (after_line bytes)) (with_last (AlertBar alert) m)
    (cons_printed (alert_line alert) (restyled Paragraph Paragraph rows) (word_printed alert, tt) (restyled_printed Paragraph Paragraph rows (leaf_printed defined.labels (text_of (after_line bytes))))) h

paragraph_has : (gutter : Option Gutter) (defined : Defined) (bytes : List ℕ) (m : Mapping) → HasPrinted m → HasPrinted (paragraph_by gutter defined bytes m)
paragraph_has (Some Bullet) defined bytes m h = task_has (box_of bytes) defined bytes m h
paragraph_has (Some Bar) defined bytes m h = alert_has (alert_of bytes) defined bytes m h
paragraph_has (Some (Number number)) defined bytes m h = words_has defined bytes m h
paragraph_has (Some (Task done)) defined bytes m h = words_has defined bytes m h
paragraph_has (Some Code) defined bytes m h = words_has defined bytes m h
paragraph_has (Some (AlertBar alert)) defined bytes m h = words_has defined bytes m h
paragraph_has (Some (Signs level)) defined bytes m h = words_has defined bytes m h
paragraph_has (Some (Below level)) defined bytes m h = words_has defined bytes m h
paragraph_has None defined bytes m h = words_has defined bytes m h

code_has : (marks : List MarkRun) (lines : List Remaining) (m : Mapping) → HasPrinted m → HasPrinted (code_shown marks lines m)
code_has marks lines m h = put_has Boxed (code_lines 0 lines) [] (with_marks marks m) (code_lines_printed 0 lines) h

html_has : (t : Bool) (level : ℕ) (text : List ℕ) (m : Mapping) → HasPrinted m → HasPrinted (html_by t level text m)
html_has true level text m h = put_has Words (html_lines text) (html_addresses text) m (html_printed text) h
html_has false level text m h = put_has Large (restyled (heading_style level) (heading_style level) (html_lines text)) (html_addresses text) m (restyled_printed (heading_style level) (heading_style level) (html_lines text) (html_printed text)) h

leaf_has : (defined : Defined) (kind : Kind) (lines : List Remaining) (m : Mapping) → HasPrinted m → HasPrinted (leaf_shown defined kind lines m)
leaf_has defined ParagraphKind lines m h = paragraph_has (new_gutter m) defined (joined [] lines) m h
leaf_has defined Html lines m h = html_has (html_level (joined [] lines) == 0) (html_level (joined [] lines)) (html_text (joined [] lines)) m h
leaf_has defined (Heading level) lines m h =
    let rows = words defined (joined [] lines) in
    put_has Large (restyled (heading_style level) (heading_style level) rows) (addresses_in defined (joined [] lines)) m
    (restyled_printed (heading_style level) (heading_style level) rows (leaf_printed defined.labels (text_of (joined [] lines)))) h
leaf_has defined Indented lines m h = code_has [] lines m h
leaf_has defined Fenced lines m h = code_has (fence_marks lines) (drop 1 lines) m h
leaf_has defined (Table columns) lines m h = put_has Listed (table_lines defined.labels columns lines) (table_addresses defined columns lines) m (table_printed defined.labels columns lines) h
leaf_has defined Rule lines m h = put_has Large (horizontal_rule ∷ []) [] m (cons_printed horizontal_rule [] tt nothing_printed) h
leaf_has defined Nothing lines m h = h
leaf_has defined Definitions lines m h = h

part_has : (defined : Defined) (part : PartContent) (m : Mapping) → HasPrinted m → HasPrinted (shown_part defined part m)
unfolding shown_part
part_has defined (begins container apart) m h = begun_has container (passed apart m) h
part_has defined ends m h = ended_has (new_gutter m) m h
part_has defined (block leaf) m h = leaf_has defined leaf.kind leaf.lines (list_ended (passed leaf.apart m)) h

parts_have : (defined : Defined) (parts : List PartContent) (m : Mapping) → HasPrinted m → HasPrinted (shown_parts defined parts m)
unfolding shown_parts
parts_have defined [] m h = h
parts_have defined (part ∷ parts) m h = parts_have defined parts (shown_part defined part m) (part_has defined part m h)

source_has : (source : List ℕ) → ArePrintedSections (printable_sections source)
unfolding printable_sections
source_has source = parts_have (definitions_of (parts_of source)) (flat_map leaves_in (parts_of source)) nothing_shown no_sections

-- what a text is shown as has nothing that a terminal obeys
pub markdown_printed : (source : List ℕ) (sections : List SectionContent) → sections ≡ printable_sections source → ArePrintedSections sections
markdown_printed source sections e = subst ArePrintedSections (sym e) (source_has source)
