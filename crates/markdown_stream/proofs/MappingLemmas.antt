-- Sections that were shown before change nothing of those that are shown next.
use Rattle.std.proofs.Common.{◌≡◌, ℕ, ◌+◌, Bool, true, false, ◌==◌, List, [], ◌∷◌, ◌++◌, map, length, drop, Option, Some, None, refl, sym, ap, ◌∙◌, append_assoc, append-nil, if◌then◌else◌}
use Rattle.std.proofs.lemmas.List.{map-append, length-append}
use Rattle.mad_md.specs.Lines.{LineContent, horizontal_rule}
use Rattle.mad_md.specs.declared.composite.CompositeStyle.TheVariants.{Paragraph}
use Rattle.mad_sections.specs.Sections.{SectionContent}
use Rattle.mad_sections.specs.declared.gutters.Alert.{Alert}
use Rattle.mad_sections.specs.declared.gutters.Gutter.{Gutter}
use Rattle.mad_sections.specs.declared.gutters.Gutter.TheVariants.{Bar, AlertBar, Bullet, Number, Task, Code, Signs, Below}
use Rattle.markdown_blocks.specs.declared.containers.Container.{Container}
use Rattle.markdown_blocks.specs.declared.containers.Container.TheVariants.{Quote, Item}
use Rattle.markdown_marks.specs.Remaining.{Remaining}
use Rattle.markdown_leaves.specs.Defining.{joined}
use Rattle.markdown_leaves.specs.Parts.{PartContent, begins, ends, block}
use Rattle.markdown_leaves.specs.declared.parts.Kind.{Kind}
use Rattle.markdown_leaves.specs.declared.parts.Kind.TheVariants.{Nothing, Paragraph as ParagraphKind, Heading, Indented, Fenced, Html, Table, Rule, Definitions}
use Rattle.markdown_lines.specs.Code.{code_lines}
use Rattle.markdown_lines.specs.Leaf.{html_lines}
use Rattle.markdown_lines.specs.Links.{html_addresses, Defined}
use Rattle.markdown_lines.specs.Restyled.{restyled, empty_line}
use Rattle.markdown_lines.specs.Tables.{table_lines}
use Rattle.markdown_gutters.specs.Forms.{is_big}
use Rattle.markdown_gutters.specs.Lists.{is_item}
use Rattle.markdown_gutters.specs.Signs.{after_box, box_of, after_line, alert_of}
use Rattle.markdown_gutters.specs.declared.forms.Form.{Form}
use Rattle.markdown_gutters.specs.declared.forms.Form.TheVariants.{Words, Large, Listed, Boxed}
use Rattle.mad_mark_runs.specs.declared.mark_runs.MarkRun.{MarkRun}
use Rattle.markdown_tones.specs.Fences.{fence_marks}
use Rattle.markdown_html_text.specs.HtmlLeaves.{html_level}
use Rattle.markdown_reader.specs.Mapping.{html_text, html_by, leaves_in, LinkSaid, Mapping, new_gutter, with_last, is_spaced, spaced, blank_row, link_at, linked, section_of, with_section, added, put, passed, list_ended, begun, closed, item_ended, nothing_since, ended_by, ended, words, addresses_in, words_shown, task_by, alert_line, alert_by, paragraph_by, heading_style, table_addresses, leaf_shown, shown_part, shown_parts, with_marks, code_shown}
use Rattle.markdown_reader.proofs.PartsLemmas.{shown_joined}
use Rattle.markdown_stream.specs.Laws.{SectionsComeInTurn}
use Rattle.markdown_stream.specs.Provisional.{part_provided}
use Rattle.markdown_stream.specs.Streamed.{parts_provided}
use Rattle.markdown_stream.specs.Streaming.{taken, link_after, shown_after}

-- ---- sections and links

links_moved : (count before : ℕ) (addresses : List (List ℕ)) → map (link_at (count + before)) addresses ≡ map (link_after count) (map (link_at before) addresses)
links_moved count before [] = refl
links_moved count before (address ∷ addresses) = ap (λ (links : List LinkSaid). link_at (count + before) address ∷ links) (links_moved count before addresses)

linked_behind : (addresses : List (List ℕ)) (ss : List SectionContent) (ls : List LinkSaid) (m : Mapping) → linked addresses (shown_after ss ls m) ≡ shown_after ss ls (linked addresses m)
linked_behind addresses ss ls m =
    ap (λ (links : List LinkSaid). record (shown_after ss ls m) { links = links }) (
    ap (λ (n : ℕ). (ls ++ map (link_after (length ss)) m.links) ++ map (link_at n) addresses) (length-append ss m.sections)
    ∙ ap (λ (links : List LinkSaid). (ls ++ map (link_after (length ss)) m.links) ++ links) (links_moved (length ss) (length m.sections) addresses)
    ∙ append_assoc ls (map (link_after (length ss)) m.links) (map (link_after (length ss)) (map (link_at (length m.sections)) addresses))
    ∙ ap (λ (links : List LinkSaid). ls ++ links) (sym (map-append (link_after (length ss)) m.links (map (link_at (length m.sections)) addresses)))
    )

section_behind : (form : Form) (lines : List LineContent) (ss : List SectionContent) (ls : List LinkSaid) (m : Mapping) → with_section form lines (shown_after ss ls m) ≡ shown_after ss ls (with_section form lines m)
section_behind form lines ss ls m =
    ap (λ (all : List SectionContent). record (shown_after ss ls (with_section form lines m)) { sections = all }) (append_assoc ss m.sections (section_of form lines m ∷ []))

abbrev blank_if : Bool → Mapping → Mapping
blank_if t m = if t then record m { sections = m.sections ++ blank_row m ∷ [] } else m

blank_behind : (t : Bool) (ss : List SectionContent) (ls : List LinkSaid) (m : Mapping) → blank_if t (shown_after ss ls m) ≡ shown_after ss ls (blank_if t m)
blank_behind true ss ls m = ap (λ (all : List SectionContent). record (shown_after ss ls m) { sections = all }) (append_assoc ss m.sections (blank_row m ∷ []))
blank_behind false ss ls m = refl

spaced_behind : (apart big : Bool) (ss : List SectionContent) (ls : List LinkSaid) (m : Mapping) → spaced apart big (shown_after ss ls m) ≡ shown_after ss ls (spaced apart big m)
spaced_behind apart big ss ls m = blank_behind (is_spaced apart big m) ss ls m

added_behind : (form : Form) (lines : List LineContent) (addresses : List (List ℕ)) (ss : List SectionContent) (ls : List LinkSaid) (m : Mapping)
    → added form lines addresses (shown_after ss ls m) ≡ shown_after ss ls (added form lines addresses m)
added_behind form lines addresses ss ls m =
    let done : Mapping → Mapping = λ (n : Mapping). record n { apart = false; some = true; big = is_big form } in
    ap (λ (n : Mapping). done (with_section form lines n)) (linked_behind addresses ss ls m)
    ∙ ap done (section_behind form lines ss ls (linked addresses m))

put_behind : (form : Form) (lines : List LineContent) (addresses : List (List ℕ)) (ss : List SectionContent) (ls : List LinkSaid) (m : Mapping)
    → put form lines addresses (shown_after ss ls m) ≡ shown_after ss ls (put form lines addresses m)
put_behind form lines addresses ss ls m = put_if (length lines == 0)
  where
    put_if : (t : Bool) → (if t then shown_after ss ls m else added form lines addresses (spaced m.apart (is_big form) (shown_after ss ls m)))
        ≡ shown_after ss ls (if t then m else added form lines addresses (spaced m.apart (is_big form) m))
    put_if true = refl
    put_if false = ap (added form lines addresses) (spaced_behind m.apart (is_big form) ss ls m) ∙ added_behind form lines addresses ss ls (spaced m.apart (is_big form) m)

-- ---- containers

begun_behind : (container : Container) (ss : List SectionContent) (ls : List LinkSaid) (m : Mapping) → begun container (shown_after ss ls m) ≡ shown_after ss ls (begun container m)
begun_behind Quote ss ls m = refl
begun_behind (Item sign number content) ss ls m = refl

item_behind : (ss : List SectionContent) (ls : List LinkSaid) (m : Mapping) → item_ended (shown_after ss ls m) ≡ shown_after ss ls (item_ended m)
item_behind ss ls m =
    ap (λ (n : Mapping). nothing_since (with_section Words (empty_line Paragraph ∷ []) n)) (spaced_behind m.item_apart false ss ls m)
    ∙ ap nothing_since (section_behind Words (empty_line Paragraph ∷ []) ss ls (spaced m.item_apart false m))

ended_by_behind : (gutter : Option Gutter) (ss : List SectionContent) (ls : List LinkSaid) (m : Mapping) → ended_by gutter (shown_after ss ls m) ≡ shown_after ss ls (ended_by gutter m)
ended_by_behind None ss ls m = refl
ended_by_behind (Some gutter) ss ls m = item_if (is_item gutter)
  where
    item_if : (t : Bool) → (if t then item_ended (shown_after ss ls m) else shown_after ss ls m) ≡ shown_after ss ls (if t then item_ended m else m)
    item_if true = item_behind ss ls m
    item_if false = refl

ended_behind : (ss : List SectionContent) (ls : List LinkSaid) (m : Mapping) → ended (shown_after ss ls m) ≡ shown_after ss ls (ended m)
ended_behind ss ls m = ap closed (ended_by_behind (new_gutter m) ss ls m)

-- ---- leaves

words_behind : (defined : Defined) (bytes : List ℕ) (ss : List SectionContent) (ls : List LinkSaid) (m : Mapping) → words_shown defined bytes (shown_after ss ls m) ≡ shown_after ss ls (words_shown defined bytes m)
words_behind defined bytes ss ls m = put_behind Words (words defined bytes) (addresses_in defined bytes) ss ls m

task_behind : (done : Option Bool) (defined : Defined) (bytes : List ℕ) (ss : List SectionContent) (ls : List LinkSaid) (m : Mapping) → task_by done defined bytes (shown_after ss ls m) ≡ shown_after ss ls (task_by done defined bytes m)
task_behind None defined bytes ss ls m = words_behind defined bytes ss ls m
task_behind (Some done) defined bytes ss ls m = words_behind defined (after_box bytes) ss ls (with_last (Task done) m)

alert_behind : (alert : Option Alert) (defined : Defined) (bytes : List ℕ) (ss : List SectionContent) (ls : List LinkSaid) (m : Mapping) → alert_by alert defined bytes (shown_after ss ls m) ≡ shown_after ss ls (alert_by alert defined bytes m)
alert_behind None defined bytes ss ls m = words_behind defined bytes ss ls m
alert_behind (Some alert) defined bytes ss ls m =
    put_behind Words (alert_line alert ∷ restyled Paragraph Paragraph (words defined (after_line bytes))) (addresses_in defined (after_line bytes)) ss ls (with_last (AlertBar alert) m)

paragraph_behind : (gutter : Option Gutter) (defined : Defined) (bytes : List ℕ) (ss : List SectionContent) (ls : List LinkSaid) (m : Mapping)
    → paragraph_by gutter defined bytes (shown_after ss ls m) ≡ shown_after ss ls (paragraph_by gutter defined bytes m)
paragraph_behind None defined bytes ss ls m = words_behind defined bytes ss ls m
paragraph_behind (Some Bar) defined bytes ss ls m = alert_behind (alert_of bytes) defined bytes ss ls m
paragraph_behind (Some (AlertBar alert)) defined bytes ss ls m = words_behind defined bytes ss ls m
paragraph_behind (Some Bullet) defined bytes ss ls m = task_behind (box_of bytes) defined bytes ss ls m
paragraph_behind (Some (Number number)) defined bytes ss ls m = words_behind defined bytes ss ls m
paragraph_behind (Some (Task done)) defined bytes ss ls m = words_behind defined bytes ss ls m
paragraph_behind (Some Code) defined bytes ss ls m = words_behind defined bytes ss ls m
paragraph_behind (Some (Signs level)) defined bytes ss ls m = words_behind defined bytes ss ls m
paragraph_behind (Some (Below level)) defined bytes ss ls m = words_behind defined bytes ss ls m

code_behind : (marks : List MarkRun) (lines : List Remaining) (ss : List SectionContent) (ls : List LinkSaid) (m : Mapping) → code_shown marks lines (shown_after ss ls m) ≡ shown_after ss ls (code_shown marks lines m)
code_behind marks lines ss ls m = ap (with_marks []) (put_behind Boxed (code_lines 0 lines) [] ss ls (with_marks marks m))

html_behind : (t : Bool) (level : ℕ) (text : List ℕ) (ss : List SectionContent) (ls : List LinkSaid) (m : Mapping) → html_by t level text (shown_after ss ls m) ≡ shown_after ss ls (html_by t level text m)
html_behind true level text ss ls m = put_behind Words (html_lines text) (html_addresses text) ss ls m
html_behind false level text ss ls m = put_behind Large (restyled (heading_style level) (heading_style level) (html_lines text)) (html_addresses text) ss ls m

leaf_behind : (defined : Defined) (kind : Kind) (lines : List Remaining) (ss : List SectionContent) (ls : List LinkSaid) (m : Mapping)
    → leaf_shown defined kind lines (shown_after ss ls m) ≡ shown_after ss ls (leaf_shown defined kind lines m)
leaf_behind defined ParagraphKind lines ss ls m = paragraph_behind (new_gutter m) defined (joined [] lines) ss ls m
leaf_behind defined Html lines ss ls m = html_behind (html_level (joined [] lines) == 0) (html_level (joined [] lines)) (html_text (joined [] lines)) ss ls m
leaf_behind defined (Heading level) lines ss ls m =
    put_behind Large (restyled (heading_style level) (heading_style level) (words defined (joined [] lines))) (addresses_in defined (joined [] lines)) ss ls m
leaf_behind defined Indented lines ss ls m = code_behind [] lines ss ls m
leaf_behind defined Fenced lines ss ls m = code_behind (fence_marks lines) (drop 1 lines) ss ls m
leaf_behind defined (Table columns) lines ss ls m = put_behind Listed (table_lines defined.labels columns lines) (table_addresses defined columns lines) ss ls m
leaf_behind defined Rule lines ss ls m = put_behind Large (horizontal_rule ∷ []) [] ss ls m
leaf_behind defined Nothing lines ss ls m = refl
leaf_behind defined Definitions lines ss ls m = refl

-- ---- parts

-- a part is shown behind other sections as it is without them
part_behind : (defined : Defined) (part : PartContent) (ss : List SectionContent) (ls : List LinkSaid) (m : Mapping) → shown_part defined part (shown_after ss ls m) ≡ shown_after ss ls (shown_part defined part m)
unfolding shown_part
part_behind defined (begins container apart) ss ls m = begun_behind container ss ls (passed apart m)
part_behind defined ends ss ls m = ended_behind ss ls m
part_behind defined (block leaf) ss ls m = leaf_behind defined leaf.kind leaf.lines ss ls (list_ended (passed leaf.apart m))

-- so are parts
pub parts_behind : (defined : Defined) (parts : List PartContent) (ss : List SectionContent) (ls : List LinkSaid) (m : Mapping) → shown_parts defined parts (shown_after ss ls m) ≡ shown_after ss ls (shown_parts defined parts m)
unfolding shown_parts
parts_behind defined [] ss ls m = refl
parts_behind defined (part ∷ parts) ss ls m = ap (shown_parts defined parts) (part_behind defined part ss ls m) ∙ parts_behind defined parts ss ls (shown_part defined part m)

-- so are parts by the definitions that their words name, too
pub provided_behind : (defined : Defined) (parts : List PartContent) (ss : List SectionContent) (ls : List LinkSaid) (m : Mapping) → parts_provided defined parts (shown_after ss ls m) ≡ shown_after ss ls (parts_provided defined parts m)
unfolding parts_provided
provided_behind defined [] ss ls m = refl
provided_behind defined (part ∷ parts) ss ls m =
    let own : Defined = part_provided defined part in
    ap (parts_provided defined parts) (parts_behind own (leaves_in part) ss ls m) ∙ provided_behind defined parts ss ls (shown_parts own (leaves_in part) m)

-- a mapping is its sections and links, and behind them what goes on
pub kept : (m : Mapping) → m ≡ shown_after m.sections m.links (taken m)
kept m =
    ap (λ (all : List SectionContent). record m { sections = all }) (sym (append-nil m.sections))
    ∙ ap (λ (links : List LinkSaid). record m { sections = m.sections ++ []; links = links }) (sym (append-nil m.links))

-- sections that were taken change nothing of those that are shown next
pub sections_come_in_turn : SectionsComeInTurn
sections_come_in_turn defined parts later m =
    let n = shown_parts defined parts m in
    shown_joined defined parts later m
    ∙ ap (shown_parts defined later) (kept n)
    ∙ parts_behind defined later n.sections n.links (taken n)
