-- Sections have the marks of the fences that they show.
use Rattle.std.proofs.Common.{◌≡◌, ◌⊎◌, inl, inr, ℕ, Bool, true, false, ◌==◌, List, [], ◌∷◌, ◌++◌, map, length, drop, Option, Some, None, refl, sym, ap, subst, ◌∙◌, append-nil, append_assoc, arith, if◌then◌else◌}
use Rattle.std.specs.List.{AllByRecursion, flat_map}
use Rattle.bstr.proofs.lemmas.PieceLemmas.{pieces-nil}
use Rattle.bstr.specs.Utf8.{Decoded}
use Rattle.code_tables.specs.declared.rules.Language.{Language}
use Rattle.code_colors.specs.Tokens.{tokens_by}
use Rattle.code_tones.specs.Tones.{byte_tones, counted_tones, toned}
use Rattle.mad_mark_runs.specs.Values as runs
use Rattle.mad_mark_runs.specs.declared.mark_runs.MarkRun.{MarkRun}
use Rattle.markdown_marks.specs.Remaining.{Remaining, whole}
use Rattle.markdown_blocks.specs.declared.containers.Container.{Container}
use Rattle.markdown_blocks.specs.declared.containers.Container.TheVariants.{Quote, Item}
use Rattle.markdown_leaves.specs.Defining.{joined}
use Rattle.markdown_leaves.specs.Parts.{BlockContent, PartContent, begins, ends, block}
use Rattle.markdown_leaves.specs.Told.{parts_of}
use Rattle.markdown_leaves.specs.declared.parts.Kind.{Kind}
use Rattle.markdown_leaves.specs.declared.parts.Kind.TheVariants.{Nothing, Paragraph as ParagraphKind, Heading, Indented, Fenced, Html, Table, Rule, Definitions}
use Rattle.mad_md.specs.Lines.{LineContent, horizontal_rule}
use Rattle.mad_md.specs.declared.composite.CompositeStyle.TheVariants.{Paragraph}
use Rattle.mad_sections.specs.Sections.{SectionContent}
use Rattle.mad_sections.specs.declared.gutters.Alert.{Alert}
use Rattle.mad_sections.specs.declared.gutters.Gutter.{Gutter}
use Rattle.mad_sections.specs.declared.gutters.Gutter.TheVariants.{Bar, AlertBar, Bullet, Number, Task, Code, Signs, Below}
use Rattle.std.proofs.lemmas.Bool.Decides.{nat_tests}
use Rattle.markdown_lines.specs.Code.{code_line, code_lines}
use Rattle.markdown_lines.specs.Leaf.{html_lines}
use Rattle.markdown_lines.specs.Links.{html_addresses, Defined}
use Rattle.markdown_lines.specs.Restyled.{restyled, empty_line}
use Rattle.markdown_lines.specs.Steady.{steady_lines}
use Rattle.markdown_lines.specs.Tables.{table_lines}
use Rattle.markdown_lines.specs.Texts.{behind_mark}
use Rattle.markdown_gutters.specs.Forms.{is_big}
use Rattle.markdown_gutters.specs.Lists.{is_item}
use Rattle.markdown_gutters.specs.Signs.{after_box, box_of, after_line, alert_of}
use Rattle.markdown_gutters.specs.declared.forms.Form.{Form}
use Rattle.markdown_gutters.specs.declared.forms.Form.TheVariants.{Words, Large, Listed, Boxed}
use Rattle.markdown_tones.specs.Fences.{fence_language, fence_marks, marks_in}
use Rattle.markdown_definitions.specs.Definitions.{definitions_of}
use Rattle.markdown_html_text.specs.HtmlLeaves.{html_leaves, html_level}
use Rattle.markdown_reader.specs.Mapping.{Mapping, nothing_shown, new_gutter, with_last, is_spaced, spaced, blank_row, linked, section_of, put, added, passed, list_ended, begun, closed, item_ended, ended_by, words, addresses_in, words_shown, task_by, alert_line, alert_by, paragraph_by, heading_style, html_text, html_by, html_leaf, html_parts, leaves_by, leaves_in, table_addresses, code_shown, leaf_shown, shown_part, shown_parts, with_marks}
use Rattle.markdown_reader.specs.Markdown.{printable_sections}
use Rattle.markdown_reader.specs.Marked.{SectionsAreMarked, ShowsFence, kind_marks, part_marks}
use Rattle.markdown_reader.specs.Steady.{steady_section, steady_sections}
use Rattle.markdown_reader.proofs.PartsLemmas.{shown_joined}

-- ---- what sections have

-- the same as `ShowsFence` before runs are steady
record Shows (parts : List PartContent) (s : SectionContent) : Type 0 where
  before : List PartContent
  fence : BlockContent
  after : List PartContent
  told : parts ≡ before ++ block fence ∷ after
  fenced : fence.kind ≡ Fenced
  lines : s.lines ≡ code_lines 0 (drop 1 fence.lines)
  marks : s.marks ≡ fence_marks fence.lines

abbrev IsMarked : List PartContent → SectionContent → Type 0
IsMarked parts s = (s.marks ≡ []) ⊎ Shows parts s

abbrev marks_in_all : List SectionContent → List MarkRun
marks_in_all sections = flat_map (λ (s : SectionContent). s.marks) sections

record Has (parts : List PartContent) (all : List MarkRun) (sections : List SectionContent) : Type 0 where
  each : AllByRecursion (IsMarked parts) sections
  said : marks_in_all sections ≡ all

record HasMarked (parts : List PartContent) (all : List MarkRun) (m : Mapping) : Type 0 where
  has : Has parts all m.sections
  next : m.marks ≡ []

one_each : (parts : List PartContent) (sections : List SectionContent) (s : SectionContent) → AllByRecursion (IsMarked parts) sections → IsMarked parts s → AllByRecursion (IsMarked parts) (sections ++ s ∷ [])
one_each parts [] s h k = (k, tt)
one_each parts (x ∷ sections) s h k = (h.0, one_each parts sections s h.1 k)

one_said : (sections : List SectionContent) (s : SectionContent) → marks_in_all (sections ++ s ∷ []) ≡ marks_in_all sections ++ s.marks
one_said [] s = append-nil s.marks
one_said (x ∷ sections) s = ap (λ (l : List MarkRun). x.marks ++ l) (one_said sections s) ∙ sym (append_assoc x.marks (marks_in_all sections) s.marks)

one_more : (parts : List PartContent) (all marks : List MarkRun) (sections : List SectionContent) (s : SectionContent) → Has parts all sections → IsMarked parts s → s.marks ≡ marks → Has parts (all ++ marks) (sections ++ s ∷ [])
one_more parts all marks sections s h k e = record {
  each = one_each parts sections s h.each k;
  said = one_said sections s ∙ ap (λ (l : List MarkRun). l ++ s.marks) h.said ∙ ap (λ (l : List MarkRun). all ++ l) e;
}

no_more : (parts : List PartContent) (all : List MarkRun) (sections : List SectionContent) (s : SectionContent) → Has parts all sections → s.marks ≡ [] → Has parts all (sections ++ s ∷ [])
no_more parts all sections s h e = record {
  each = one_each parts sections s h.each (inl e);
  said = one_said sections s ∙ ap (λ (l : List MarkRun). l ++ s.marks) h.said ∙ ap (λ (l : List MarkRun). all ++ l) e ∙ append-nil all;
}

-- ---- the mapping

if_mapping : (parts : List PartContent) (all : List MarkRun) (t : Bool) (m n : Mapping) → HasMarked parts all m → HasMarked parts all n → HasMarked parts all (if t then m else n)
if_mapping parts all true m n h k = h
if_mapping parts all false m n h k = k

blank_more : (parts : List PartContent) (all : List MarkRun) (t : Bool) (m : Mapping) → Has parts all m.sections → Has parts all (if t then record m { sections = m.sections ++ blank_row m ∷ [] } else m).sections
blank_more parts all true m h = no_more parts all m.sections (blank_row m) h refl
blank_more parts all false m h = h

blank_marks : (t : Bool) (m : Mapping) → (if t then record m { sections = m.sections ++ blank_row m ∷ [] } else m).marks ≡ m.marks
blank_marks true m = refl
blank_marks false m = refl

spaced_has : (parts : List PartContent) (all : List MarkRun) (apart big : Bool) (m : Mapping) → Has parts all m.sections → Has parts all (spaced apart big m).sections
spaced_has parts all apart big m h = blank_more parts all (is_spaced apart big m) m h

spaced_marks : (apart big : Bool) (m : Mapping) → (spaced apart big m).marks ≡ m.marks
spaced_marks apart big m = blank_marks (is_spaced apart big m) m

put_has : (parts : List PartContent) (all : List MarkRun) (form : Form) (lines : List LineContent) (addresses : List (List ℕ)) (m : Mapping) → HasMarked parts all m → HasMarked parts all (put form lines addresses m)
put_has parts all form lines addresses m h =
    let apart : Mapping = spaced m.apart (is_big form) m in
    if_mapping parts all (length lines == 0) m (added form lines addresses apart) h
    (record { has = no_more parts all apart.sections (section_of form lines (linked addresses apart)) (spaced_has parts all m.apart (is_big form) m h.has) (spaced_marks m.apart (is_big form) m ∙ h.next); next = refl })

begun_has : (parts : List PartContent) (all : List MarkRun) (container : Container) (m : Mapping) → HasMarked parts all m → HasMarked parts all (begun container m)
begun_has parts all Quote m h = record { has = h.has; next = h.next }
begun_has parts all (Item sign number content) m h = record { has = h.has; next = h.next }

item_has : (parts : List PartContent) (all : List MarkRun) (m : Mapping) → HasMarked parts all m → HasMarked parts all (item_ended m)
item_has parts all m h =
    let apart : Mapping = spaced m.item_apart false m in
    record { has = no_more parts all apart.sections (section_of Words (empty_line Paragraph ∷ []) apart) (spaced_has parts all m.item_apart false m h.has) (spaced_marks m.item_apart false m ∙ h.next); next = refl }

ended_has : (parts : List PartContent) (all : List MarkRun) (gutter : Option Gutter) (m : Mapping) → HasMarked parts all m → HasMarked parts all (ended_by gutter m)
ended_has parts all None m h = h
ended_has parts all (Some gutter) m h = if_mapping parts all (is_item gutter) (item_ended m) m (item_has parts all m h) h

closed_has : (parts : List PartContent) (all : List MarkRun) (m : Mapping) → HasMarked parts all m → HasMarked parts all (closed m)
closed_has parts all m h = record { has = h.has; next = h.next }

words_has : (parts : List PartContent) (all : List MarkRun) (defined : Defined) (bytes : List ℕ) (m : Mapping) → HasMarked parts all m → HasMarked parts all (words_shown defined bytes m)
words_has parts all defined bytes m h = put_has parts all Words (words defined bytes) (addresses_in defined bytes) m h

last_has : (parts : List PartContent) (all : List MarkRun) (gutter : Gutter) (m : Mapping) → HasMarked parts all m → HasMarked parts all (with_last gutter m)
last_has parts all gutter m h = record { has = h.has; next = h.next }

task_has : (parts : List PartContent) (all : List MarkRun) (done : Option Bool) (defined : Defined) (bytes : List ℕ) (m : Mapping) → HasMarked parts all m → HasMarked parts all (task_by done defined bytes m)
task_has parts all None defined bytes m h = words_has parts all defined bytes m h
task_has parts all (Some done) defined bytes m h = words_has parts all defined (after_box bytes) (with_last (Task done) m) (last_has parts all (Task done) m h)

alert_has : (parts : List PartContent) (all : List MarkRun) (alert : Option Alert) (defined : Defined) (bytes : List ℕ) (m : Mapping) → HasMarked parts all m → HasMarked parts all (alert_by alert defined bytes m)
alert_has parts all None defined bytes m h = words_has parts all defined bytes m h
alert_has parts all (Some alert) defined bytes m h =
    let rows = words defined (after_line bytes) in
    put_has parts all Words (alert_line alert ∷ restyled Paragraph Paragraph rows) (addresses_in defined (after_line bytes)) (with_last (AlertBar alert) m) (last_has parts all (AlertBar alert) m h)

paragraph_has : (parts : List PartContent) (all : List MarkRun) (gutter : Option Gutter) (defined : Defined) (bytes : List ℕ) (m : Mapping) → HasMarked parts all m → HasMarked parts all (paragraph_by gutter defined bytes m)
paragraph_has parts all (Some Bullet) defined bytes m h = task_has parts all (box_of bytes) defined bytes m h
paragraph_has parts all (Some Bar) defined bytes m h = alert_has parts all (alert_of bytes) defined bytes m h
paragraph_has parts all (Some (AlertBar alert)) defined bytes m h = words_has parts all defined bytes m h
paragraph_has parts all (Some (Number number)) defined bytes m h = words_has parts all defined bytes m h
paragraph_has parts all (Some (Task done)) defined bytes m h = words_has parts all defined bytes m h
paragraph_has parts all (Some Code) defined bytes m h = words_has parts all defined bytes m h
paragraph_has parts all (Some (Signs level)) defined bytes m h = words_has parts all defined bytes m h
paragraph_has parts all (Some (Below level)) defined bytes m h = words_has parts all defined bytes m h
paragraph_has parts all None defined bytes m h = words_has parts all defined bytes m h

-- ---- code

-- a section with these marks and lines is one that may be there
abbrev MayBe : List PartContent → List MarkRun → List LineContent → Type 0
MayBe parts marks lines = (s : SectionContent) → s.marks ≡ marks → s.lines ≡ lines → IsMarked parts s

code_by : (parts : List PartContent) (all marks : List MarkRun) (rows : List LineContent) (m : Mapping) (t : Bool) → (t ≡ true → marks ≡ []) → MayBe parts marks rows → HasMarked parts all m
    → HasMarked parts (all ++ marks) (with_marks [] (if t then with_marks marks m else added Boxed rows [] (spaced m.apart (is_big Boxed) (with_marks marks m))))
code_by parts all marks rows m true none may h = record {
  has = record { each = h.has.each; said = h.has.said ∙ sym (append-nil all) ∙ ap (λ (l : List MarkRun). all ++ l) (sym (none refl)) };
  next = refl;
}
code_by parts all marks rows m false none may h =
    let apart : Mapping = spaced m.apart (is_big Boxed) (with_marks marks m) in
    let s : SectionContent = section_of Boxed rows (linked [] apart) in
    let has : Has parts all (spaced m.apart (is_big Boxed) (with_marks marks m)).sections = spaced_has parts all m.apart (is_big Boxed) (with_marks marks m) h.has in
    let own : s.marks ≡ marks = spaced_marks m.apart (is_big Boxed) (with_marks marks m) in
    record { has = one_more parts all marks apart.sections s has (may s own refl) own; next = refl }

no_code : (language : Option Language) → marks_in language [] ≡ []
no_code None = refl
no_code (Some language) = ap (λ (ps : List Decoded). runs.joined (counted_tones (toned (byte_tones (tokens_by (Some language) [])) ps))) pieces-nil

some_rows : (row : LineContent) (rows : List LineContent) → (length (row ∷ rows) == 0) ≡ true → ⊥
some_rows row rows e = grind (arith, nat_tests, e)

no_rows : (lines : List Remaining) → (length (code_lines 0 (drop 1 lines)) == 0) ≡ true → fence_marks lines ≡ []
unfolding code_lines
no_rows [] e = refl
no_rows (info ∷ []) e = no_code (fence_language info [])
no_rows (info ∷ line ∷ lines) e = absurd (some_rows (code_line 0 line) (map (code_line 0) lines) e)

indented_has : (parts : List PartContent) (all : List MarkRun) (lines : List Remaining) (m : Mapping) → HasMarked parts all m → HasMarked parts (all ++ []) (code_shown [] lines m)
indented_has parts all lines m h = code_by parts all [] (code_lines 0 lines) m (length (code_lines 0 lines) == 0) (λ e. refl) (λ s marks lines_are. inl marks) h

fenced_has : (parts : List PartContent) (all : List MarkRun) (lines : List Remaining) (m : Mapping) → MayBe parts (fence_marks lines) (code_lines 0 (drop 1 lines)) → HasMarked parts all m
    → HasMarked parts (all ++ fence_marks lines) (code_shown (fence_marks lines) (drop 1 lines) m)
fenced_has parts all lines m may h = code_by parts all (fence_marks lines) (code_lines 0 (drop 1 lines)) m (length (code_lines 0 (drop 1 lines)) == 0) (no_rows lines) may h

-- ---- leaves and parts

same_all : (parts : List PartContent) (all others : List MarkRun) (m : Mapping) → all ≡ others → HasMarked parts all m → HasMarked parts others m
same_all parts all others m e h = record { has = record { each = h.has.each; said = h.has.said ∙ e }; next = h.next }

more_none : (parts : List PartContent) (all : List MarkRun) (m : Mapping) → HasMarked parts all m → HasMarked parts (all ++ []) m
more_none parts all m h = same_all parts all (all ++ []) m (sym (append-nil all)) h

html_has : (parts : List PartContent) (all : List MarkRun) (t : Bool) (level : ℕ) (text : List ℕ) (m : Mapping) → HasMarked parts all m → HasMarked parts all (html_by t level text m)
html_has parts all true level text m h = put_has parts all Words (html_lines text) (html_addresses text) m h
html_has parts all false level text m h = put_has parts all Large (restyled (heading_style level) (heading_style level) (html_lines text)) (html_addresses text) m h

leaf_has : (parts : List PartContent) (all : List MarkRun) (defined : Defined) (kind : Kind) (lines : List Remaining) (m : Mapping) → (kind ≡ Fenced → MayBe parts (fence_marks lines) (code_lines 0 (drop 1 lines))) → HasMarked parts all m
    → HasMarked parts (all ++ kind_marks kind lines) (leaf_shown defined kind lines m)
leaf_has parts all defined ParagraphKind lines m may h = more_none parts all _ (paragraph_has parts all (new_gutter m) defined (joined [] lines) m h)
leaf_has parts all defined Html lines m may h = more_none parts all _ (html_has parts all (html_level (joined [] lines) == 0) (html_level (joined [] lines)) (html_text (joined [] lines)) m h)
leaf_has parts all defined (Heading level) lines m may h =
    more_none parts all _ (put_has parts all Large (restyled (heading_style level) (heading_style level) (words defined (joined [] lines))) (addresses_in defined (joined [] lines)) m h)
leaf_has parts all defined Indented lines m may h = indented_has parts all lines m h
leaf_has parts all defined Fenced lines m may h = fenced_has parts all lines m (may refl) h
leaf_has parts all defined (Table columns) lines m may h = more_none parts all _ (put_has parts all Listed (table_lines defined.labels columns lines) (table_addresses defined columns lines) m h)
leaf_has parts all defined Rule lines m may h = more_none parts all _ (put_has parts all Large (horizontal_rule ∷ []) [] m h)
leaf_has parts all defined Nothing lines m may h = more_none parts all m h
leaf_has parts all defined Definitions lines m may h = more_none parts all m h

shows_it : (parts before after : List PartContent) (fence : BlockContent) (s : SectionContent) → parts ≡ before ++ block fence ∷ after → fence.kind ≡ Fenced → s.lines ≡ code_lines 0 (drop 1 fence.lines) → s.marks ≡ fence_marks fence.lines
    → IsMarked parts s
shows_it parts before after fence s told fenced lines marks =
    let it : Shows parts s = record { before = before; fence = fence; after = after; told = told; fenced = fenced; lines = lines; marks = marks } in
    inr it

part_has : (parts before after : List PartContent) (all : List MarkRun) (defined : Defined) (part : PartContent) (m : Mapping) → parts ≡ before ++ part ∷ after → HasMarked parts all m
    → HasMarked parts (all ++ part_marks part) (shown_part defined part m)
unfolding shown_part
part_has parts before after all defined (begins container apart) m told h =
    more_none parts all _ (begun_has parts all container (passed apart m) (record { has = h.has; next = h.next }))
part_has parts before after all defined ends m told h =
    more_none parts all _ (closed_has parts all (ended_by (new_gutter m) m) (ended_has parts all (new_gutter m) m h))
part_has parts before after all defined (block leaf) m told h =
    leaf_has parts all defined leaf.kind leaf.lines (list_ended (passed leaf.apart m))
    (λ fenced s marks lines_are. shows_it parts before after leaf s told fenced lines_are marks)
    (record { has = h.has; next = h.next })

-- ---- html leaf by leaf

html_leaf_has : (parts : List PartContent) (all : List MarkRun) (defined : Defined) (apart : Bool) (text : List ℕ) (m : Mapping) → HasMarked parts all m → HasMarked parts all (shown_part defined (html_leaf apart text) m)
unfolding shown_part
html_leaf_has parts all defined apart text m h =
    html_has parts all (html_level (joined [] (whole text ∷ [])) == 0) (html_level (joined [] (whole text ∷ []))) (html_text (joined [] (whole text ∷ []))) (list_ended (passed apart m)) (record { has = h.has; next = h.next })

html_rest_have : (parts : List PartContent) (all : List MarkRun) (defined : Defined) (leaves : List (List ℕ)) (m : Mapping) → HasMarked parts all m → HasMarked parts all (shown_parts defined (map (html_leaf false) leaves) m)
unfolding shown_parts
html_rest_have parts all defined [] m h = h
html_rest_have parts all defined (leaf ∷ leaves) m h = html_rest_have parts all defined leaves (shown_part defined (html_leaf false leaf) m) (html_leaf_has parts all defined false leaf m h)

html_parts_have : (parts : List PartContent) (all : List MarkRun) (defined : Defined) (apart : Bool) (leaves : List (List ℕ)) (m : Mapping) → HasMarked parts all m → HasMarked parts all (shown_parts defined (html_parts apart leaves) m)
unfolding shown_parts
html_parts_have parts all defined apart [] m h = h
html_parts_have parts all defined apart (leaf ∷ leaves) m h = html_rest_have parts all defined leaves (shown_part defined (html_leaf apart leaf) m) (html_leaf_has parts all defined apart leaf m h)

one_part : (defined : Defined) (part : PartContent) (m : Mapping) → shown_part defined part m ≡ shown_parts defined (part ∷ []) m
unfolding shown_parts
one_part defined part m = refl

other_have : (parts before after : List PartContent) (all : List MarkRun) (defined : Defined) (leaf : BlockContent) (kind : Kind) (m : Mapping) → parts ≡ before ++ block leaf ∷ after → leaf.kind ≡ kind → HasMarked parts all m
    → HasMarked parts (all ++ kind_marks kind leaf.lines) (shown_parts defined (block leaf ∷ []) m)
other_have parts before after all defined leaf kind m told is h =
    subst (HasMarked parts (all ++ kind_marks kind leaf.lines)) (one_part defined (block leaf) m)
    (subst (λ (k : Kind). HasMarked parts (all ++ kind_marks k leaf.lines) (shown_part defined (block leaf) m)) is (part_has parts before after all defined (block leaf) m told h))

kind_have : (parts before after : List PartContent) (all : List MarkRun) (defined : Defined) (leaf : BlockContent) (kind : Kind) (m : Mapping) → parts ≡ before ++ block leaf ∷ after → leaf.kind ≡ kind → HasMarked parts all m
    → HasMarked parts (all ++ kind_marks kind leaf.lines) (shown_parts defined (leaves_by kind leaf) m)
kind_have parts before after all defined leaf Html m told is h = more_none parts all _ (html_parts_have parts all defined leaf.apart (html_leaves (joined [] leaf.lines)) m h)
kind_have parts before after all defined leaf ParagraphKind m told is h = other_have parts before after all defined leaf ParagraphKind m told is h
kind_have parts before after all defined leaf (Heading level) m told is h = other_have parts before after all defined leaf (Heading level) m told is h
kind_have parts before after all defined leaf Indented m told is h = other_have parts before after all defined leaf Indented m told is h
kind_have parts before after all defined leaf Fenced m told is h = other_have parts before after all defined leaf Fenced m told is h
kind_have parts before after all defined leaf (Table columns) m told is h = other_have parts before after all defined leaf (Table columns) m told is h
kind_have parts before after all defined leaf Rule m told is h = other_have parts before after all defined leaf Rule m told is h
kind_have parts before after all defined leaf Nothing m told is h = other_have parts before after all defined leaf Nothing m told is h
kind_have parts before after all defined leaf Definitions m told is h = other_have parts before after all defined leaf Definitions m told is h

leaves_have : (parts before after : List PartContent) (all : List MarkRun) (defined : Defined) (part : PartContent) (m : Mapping) → parts ≡ before ++ part ∷ after → HasMarked parts all m
    → HasMarked parts (all ++ part_marks part) (shown_parts defined (leaves_in part) m)
leaves_have parts before after all defined (begins container apart) m told h =
    subst (HasMarked parts (all ++ [])) (one_part defined (begins container apart) m) (part_has parts before after all defined (begins container apart) m told h)
leaves_have parts before after all defined ends m told h = subst (HasMarked parts (all ++ [])) (one_part defined ends m) (part_has parts before after all defined ends m told h)
leaves_have parts before after all defined (block leaf) m told h = kind_have parts before after all defined leaf leaf.kind m told refl h

nothing_shown_of : (defined : Defined) (m : Mapping) → m ≡ shown_parts defined [] m
unfolding shown_parts
nothing_shown_of defined m = refl

parts_have : (parts before rest : List PartContent) (all : List MarkRun) (defined : Defined) (m : Mapping) → parts ≡ before ++ rest → HasMarked parts all m → HasMarked parts (all ++ flat_map part_marks rest) (shown_parts defined (flat_map leaves_in rest) m)
parts_have parts before [] all defined m told h = subst (HasMarked parts (all ++ [])) (nothing_shown_of defined m) (more_none parts all m h)
parts_have parts before (part ∷ rest) all defined m told h =
    let here = leaves_have parts before rest all defined part m told h in
    let behind : Mapping = shown_parts defined (leaves_in part) m in
    let later = parts_have parts (before ++ part ∷ []) rest (all ++ part_marks part) defined behind (told ∙ sym (append_assoc before (part ∷ []) rest)) here in
    subst (HasMarked parts (all ++ (part_marks part ++ flat_map part_marks rest))) (sym (shown_joined defined (leaves_in part) (flat_map leaves_in rest) m))
    (same_all parts ((all ++ part_marks part) ++ flat_map part_marks rest) (all ++ (part_marks part ++ flat_map part_marks rest)) _ (append_assoc all (part_marks part) (flat_map part_marks rest)) later)

source_has : (source : List ℕ) → Has (parts_of source) (flat_map part_marks (parts_of source)) (printable_sections source)
unfolding printable_sections
source_has source =
    (parts_have (parts_of source) [] (parts_of source) [] (definitions_of (parts_of source)) nothing_shown refl (record { has = record { each = tt; said = refl }; next = refl })).has

-- ---- steady sections

steady_marked : (parts : List PartContent) (s : SectionContent) → IsMarked parts s → (s.marks ≡ []) ⊎ ShowsFence parts (steady_section s)
steady_marked parts s (inl none) = inl none
steady_marked parts s (inr h) =
    let it : ShowsFence parts (steady_section s) =
    record { before = h.before; fence = h.fence; after = h.after; told = h.told; fenced = h.fenced; lines = ap steady_lines h.lines; marks = h.marks } in
    inr it

steady_each : (parts : List PartContent) (sections : List SectionContent) → AllByRecursion (IsMarked parts) sections → AllByRecursion (λ (s : SectionContent). (s.marks ≡ []) ⊎ ShowsFence parts s) (steady_sections sections)
steady_each parts [] h = tt
steady_each parts (s ∷ sections) h = (steady_marked parts s h.0, steady_each parts sections h.1)

steady_said : (sections : List SectionContent) → marks_in_all (steady_sections sections) ≡ marks_in_all sections
steady_said [] = refl
steady_said (s ∷ sections) = ap (λ (l : List MarkRun). s.marks ++ l) (steady_said sections)

-- the sections of what a text is shown as have the marks of the fences that they show, and all of them
pub sections_are_marked : SectionsAreMarked
sections_are_marked source =
    let h = source_has (behind_mark source) in
    record { each = steady_each (parts_of (behind_mark source)) (printable_sections (behind_mark source)) h.each; all = steady_said (printable_sections (behind_mark source)) ∙ h.said }
