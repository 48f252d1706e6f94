-- Each item's bullet, number or box is in front of exactly one row.
use Rattle.std.proofs.Common.{◌≡◌, ℕ, ◌+◌, ◌-◌, ◌<◌, ◌≤◌, nat_lt, min, Bool, true, false, ◌==◌, List, [], ◌∷◌, ◌++◌, length, take, drop, Option, Some, None, refl, sym, ap, subst, ◌∙◌, arith, length-append, length-take, if◌then◌else◌}
use Rattle.std.specs.Prelude.{slice_index_or}
use Rattle.std.proofs.Math.Seq.{take-length}
use Rattle.std.proofs.Math.ListN.{drop_of_length-le}
use Rattle.std.proofs.lemmas.List.{drop-append-le, take_more}
use Rattle.std.proofs.lemmas.Bool.Decides.{nat_tests}
use Rattle.markdown_marks.specs.Remaining.{Remaining}
use Rattle.markdown_blocks.specs.declared.containers.Container.TheVariants.{Quote, Item}
use Rattle.markdown_leaves.specs.Defining.{joined}
use Rattle.markdown_leaves.specs.Parts.{PartContent, begins, ends, block}
use Rattle.markdown_leaves.specs.declared.parts.Kind.{Kind}
use Rattle.markdown_leaves.specs.declared.parts.Kind.TheVariants.{Nothing, Paragraph as ParagraphKind, Heading, Indented, Fenced, Html, Table, Rule, Definitions}
use Rattle.mad_md.specs.Lines.{LineContent, horizontal_rule}
use Rattle.mad_md.specs.declared.composite.CompositeStyle.TheVariants.{Paragraph}
use Rattle.mad_sections.specs.Sections.{SectionContent}
use Rattle.mad_sections.specs.declared.gutters.Alert.{Alert}
use Rattle.mad_sections.specs.declared.gutters.Gutter.{Gutter}
use Rattle.mad_sections.specs.declared.gutters.Gutter.TheVariants.{Bar, AlertBar, Bullet, Number, Task, Code, Signs, Below}
use Rattle.markdown_lines.specs.Code.{code_lines}
use Rattle.markdown_lines.specs.Leaf.{html_lines}
use Rattle.markdown_lines.specs.Links.{html_addresses, Defined}
use Rattle.markdown_lines.specs.Restyled.{restyled, empty_line}
use Rattle.markdown_lines.specs.Tables.{table_lines}
use Rattle.markdown_gutters.specs.Forms.{is_big}
use Rattle.markdown_gutters.specs.Lists.{is_number, item_gutter, is_item, up_to_bar, number_in, last_list}
use Rattle.markdown_gutters.specs.Signs.{after_box, box_of, after_line, alert_of}
use Rattle.markdown_gutters.specs.declared.forms.Form.{Form}
use Rattle.markdown_gutters.specs.declared.forms.Form.TheVariants.{Words, Large, Listed, Boxed}
use Rattle.markdown_reader.specs.Faces.{items_in, faces_in, faces_of, begun_by, items_of, waiting, FacesOnce}
use Rattle.mad_mark_runs.specs.declared.mark_runs.MarkRun.{MarkRun}
use Rattle.markdown_tones.specs.Fences.{fence_marks}
use Rattle.markdown_html_text.specs.HtmlLeaves.{html_level}
use Rattle.markdown_reader.specs.Mapping.{Mapping, nothing_shown, new_gutter, with_last, is_spaced, spaced, blank_row, section_of, with_section, added, put, passed, list_ended, begun, nothing_since, item_ended, ended_by, closed, ended, words, addresses_in, words_shown, task_by, alert_line, alert_by, paragraph_by, heading_style, html_text, html_by, table_addresses, leaf_shown, shown_part, shown_parts, with_marks, code_shown}

by_bool : (P : Bool → Type 0) (b : Bool) → (b ≡ true → P true) → (b ≡ false → P false) → P b
by_bool P true on off = on refl
by_bool P false on off = off refl

-- ---- items among gutters

if_more : (t : Bool) (a b n : ℕ) → a ≡ n + b → (if t then 1 + a else a) ≡ n + (if t then 1 + b else b)
if_more true a b n e = omega (arith, e)
if_more false a b n e = e

items_append : (xs ys : List Gutter) → items_in (xs ++ ys) ≡ items_in ys + items_in xs
items_append [] ys = omega arith
items_append (x ∷ xs) ys = if_more (is_item x) (items_in (xs ++ ys)) (items_in xs) (items_in ys) (items_append xs ys)

-- the last gutter, and those before it
last_split : (gutters : List Gutter) → 0 < length gutters → gutters ≡ take (length gutters - 1) gutters ++ slice_index_or gutters (length gutters - 1) Bar ∷ []
last_split gutters some =
    let n : length gutters ≡ (length gutters - 1) + 1 = omega (arith, some) in
    sym (take-length gutters) ∙ ap (λ (k : ℕ). take k gutters) n ∙ take_more gutters (length gutters - 1) Bar (omega (arith, some))

-- the items from some place on, with another last gutter
pub items_with_last : (n : ℕ) (front : List Gutter) (g : Gutter) → n ≤ length front → items_in (drop n (front ++ g ∷ [])) ≡ items_in (g ∷ []) + items_in (drop n front)
items_with_last n front g fits = ap items_in (drop-append-le n front (g ∷ []) fits) ∙ items_append (drop n front) (g ∷ [])

none_past : (gutters : List Gutter) (n : ℕ) → length gutters ≤ n → items_in (drop n gutters) ≡ 0
none_past gutters n past = ap items_in (drop_of_length-le gutters past)

-- ---- sections

faces_append : (sections : List SectionContent) (s : SectionContent) → faces_of (sections ++ s ∷ []) ≡ faces_of sections + faces_in s
faces_append [] s = omega arith
faces_append (x ∷ sections) s = let rest = faces_append sections s in omega (arith, rest)

blank_has_none : (m : Mapping) → faces_in (blank_row m) ≡ 0
blank_has_none m = none_past (up_to_bar (take m.seen m.gutters)) (length (up_to_bar (take m.seen m.gutters)) - 0) (omega arith)

-- so many items began
record Began (count : ℕ) (m : Mapping) : Type 0 where
  within : m.seen ≤ length m.gutters
  faces : faces_of m.sections + waiting m ≡ count

open_faces : (m : Mapping) → m.seen ≤ length m.gutters → items_in (drop (length m.gutters - (length m.gutters - m.seen)) m.gutters) ≡ waiting m
open_faces m within =
    let n : length m.gutters - (length m.gutters - m.seen) ≡ m.seen = omega (arith, within) in
    ap (λ (k : ℕ). items_in (drop k m.gutters)) n

-- the box of code is no item's
section_faces : (form : Form) (lines : List LineContent) (m : Mapping) → m.seen ≤ length m.gutters → faces_in (section_of form lines m) ≡ waiting m
section_faces Words lines m within = open_faces m within
section_faces Large lines m within = open_faces m within
section_faces Listed lines m within = open_faces m within
section_faces Boxed lines m within =
    let all : List Gutter = m.gutters ++ Code ∷ [] in
    let long = length-append m.gutters (Code ∷ []) in
    let n : length all - (length all - m.seen) ≡ m.seen = omega (arith, within, long) in
    let none : 0 + waiting m ≡ waiting m = omega arith in
    ap (λ (k : ℕ). items_in (drop k all)) n ∙ items_with_last m.seen m.gutters Code within ∙ none

abbrev with_lines : Form → Bool → List LineContent → Mapping → Mapping
with_lines form t lines m = with_section form lines (if t then record m { sections = m.sections ++ blank_row m ∷ [] } else m)

lines_began : (form : Form) (t : Bool) (lines : List LineContent) (count : ℕ) (m : Mapping) → Began count m → Began count (with_lines form t lines m)
lines_began form true lines count m h =
    let one = faces_append m.sections (blank_row m) in
    let two = faces_append (m.sections ++ blank_row m ∷ []) (section_of form lines m) in
    let none = blank_has_none m in
    let own = section_faces form lines m h.within in
    let past = none_past m.gutters (length m.gutters) (omega arith) in
    let faces = h.faces in
    record { within = omega arith; faces = omega (arith, one, two, none, own, past, faces) }
lines_began form false lines count m h =
    let two = faces_append m.sections (section_of form lines m) in
    let own = section_faces form lines m h.within in
    let past = none_past m.gutters (length m.gutters) (omega arith) in
    let faces = h.faces in
    record { within = omega arith; faces = omega (arith, two, own, past, faces) }

-- the other fields don't matter
began_as : (count : ℕ) (m n : Mapping) → Began count m → n.sections ≡ m.sections → n.gutters ≡ m.gutters → n.seen ≡ m.seen → Began count n
began_as count m n h sections gutters seen =
    let same : waiting n ≡ waiting m = ap (λ (k : ℕ). items_in (drop k n.gutters)) seen ∙ ap (λ (l : List Gutter). items_in (drop m.seen l)) gutters in
    let faces = h.faces in
    let within = h.within in
    record { within = omega (arith, within, seen, ap length gutters); faces = omega (arith, faces, same, ap faces_of sections) }

put_began : (count : ℕ) (form : Form) (lines : List LineContent) (addresses : List (List ℕ)) (m : Mapping) → Began count m → Began count (put form lines addresses m)
put_began count form lines addresses m h =
    by_bool (λ t. Began count (if t then m else added form lines addresses (spaced m.apart (is_big form) m))) (length lines == 0) (λ none. h)
    (λ some. added_began (is_spaced m.apart (is_big form) m))
  where
    added_began : (t : Bool) → Began count (added form lines addresses (if t then record m { sections = m.sections ++ blank_row m ∷ [] } else m))
    added_began true = began_as count (with_lines form true lines m) _ (lines_began form true lines count m h) refl refl refl
    added_began false = began_as count (with_lines form false lines m) _ (lines_began form false lines count m h) refl refl refl

-- ---- containers

item_began : (count : ℕ) (m : Mapping) → Began count m → Began count (item_ended m)
item_began count m h = by_spaced (is_spaced m.item_apart false m)
  where
    by_spaced : (t : Bool) → Began count (nothing_since (with_section Words (empty_line Paragraph ∷ []) (if t then record m { sections = m.sections ++ blank_row m ∷ [] } else m)))
    by_spaced true = began_as count (with_lines Words true (empty_line Paragraph ∷ []) m) _ (lines_began Words true (empty_line Paragraph ∷ []) count m h) refl refl refl
    by_spaced false = began_as count (with_lines Words false (empty_line Paragraph ∷ []) m) _ (lines_began Words false (empty_line Paragraph ∷ []) count m h) refl refl refl

-- closed where something of the last container is shown
closed_seen : (count : ℕ) (m : Mapping) → Began count m → length m.gutters ≤ m.seen → Began count (closed m)
closed_seen count m h all =
    let k : ℕ = length m.gutters - 1 in
    let short : length (take k m.gutters) ≤ k = omega (arith, length-take k m.gutters) in
    let now = none_past (take k m.gutters) (min m.seen k) (omega (arith, all, h.within, length-take k m.gutters)) in
    let before = none_past m.gutters m.seen all in
    let faces = h.faces in
    record { within = omega (arith, h.within, length-take k m.gutters); faces = omega (arith, now, before, faces) }

-- closed where the last one is no item, and nothing of it is shown
closed_bar : (count : ℕ) (m : Mapping) → Began count m → m.seen < length m.gutters → is_item (slice_index_or m.gutters (length m.gutters - 1) Bar) ≡ false → Began count (closed m)
closed_bar count m h new bar =
    let g : Gutter = slice_index_or m.gutters (length m.gutters - 1) Bar in
    let none : items_in (g ∷ []) ≡ 0 = ap (λ (t : Bool). if t then 1 + 0 else 0) bar in
    let k : ℕ = length m.gutters - 1 in
    let long : length (take k m.gutters) ≡ k = omega (arith, length-take k m.gutters, new) in
    let few : min m.seen k ≡ m.seen = omega (arith, new) in
    let split : m.gutters ≡ take k m.gutters ++ g ∷ [] = last_split m.gutters (omega (arith, new)) in
    let before : waiting m ≡ items_in (g ∷ []) + items_in (drop m.seen (take k m.gutters)) = ap (λ (l : List Gutter). items_in (drop m.seen l)) split ∙ items_with_last m.seen (take k m.gutters) g (omega (arith, long, new)) in
    let now : waiting (closed m) ≡ items_in (drop m.seen (take k m.gutters)) = ap (λ (n : ℕ). items_in (drop n (take k m.gutters))) few in
    let faces = h.faces in
    record { within = omega (arith, long, few, new); faces = omega (arith, before, now, none, faces) }

new_by : (a b : Bool) (x : Gutter) → (P : Option Gutter → Type 0) → (a ≡ false → P None) → (b ≡ true → P None) → (a ≡ true → P (Some x)) → P (if a then (if b then None else Some x) else None)
new_by true true x P seen none new = none refl
new_by true false x P seen none new = new refl
new_by false b x P seen none new = seen refl

item_all : (m : Mapping) → length (item_ended m).gutters ≤ (item_ended m).seen
item_all m = by_spaced (is_spaced m.item_apart false m)
  where
    by_spaced : (t : Bool) → length (nothing_since (with_section Words (empty_line Paragraph ∷ []) (if t then record m { sections = m.sections ++ blank_row m ∷ [] } else m))).gutters ≤ (nothing_since (with_section Words (empty_line Paragraph ∷ []) (if t then record m { sections = m.sections ++ blank_row m ∷ [] } else m))).seen
    by_spaced true = omega arith
    by_spaced false = omega arith

past_by : (m n : ℕ) → nat_lt m n ≡ false → n ≤ m
past_by m n off = grind (arith, nat_tests, off)

less_by : (m n : ℕ) → nat_lt m n ≡ true → m < n
less_by m n on = grind (arith, nat_tests, on)

none_by : (n m : ℕ) → (n == 0) ≡ true → n ≤ m
none_by n m on = grind (arith, nat_tests, on)

ended_began : (count : ℕ) (m : Mapping) → Began count m → Began count (ended m)
ended_began count m h =
    new_by (nat_lt m.seen (length m.gutters)) (length m.gutters == 0) (slice_index_or m.gutters (length m.gutters - 1) Bar) (λ g. Began count (closed (ended_by g m)))
    (λ seen. closed_seen count m h (past_by m.seen (length m.gutters) seen))
    (λ none. closed_seen count m h (none_by (length m.gutters) m.seen none))
    (λ new. by_item (less_by m.seen (length m.gutters) new))
  where
    by_item : m.seen < length m.gutters → Began count (closed (ended_by (Some (slice_index_or m.gutters (length m.gutters - 1) Bar)) m))
    by_item new = by_bool (λ t. Began count (closed (if t then item_ended m else m))) (is_item (slice_index_or m.gutters (length m.gutters - 1) Bar))
        (λ item. closed_seen count (item_ended m) (item_began count m h) (item_all m))
        (λ bar. closed_bar count m h new bar)

-- ---- leaves

last_is : (a b : Bool) (x g : Gutter) → (if a then (if b then None else Some x) else None) ≡ Some g → (a ≡ true) × (x ≡ g)
last_is true true x g e = absurd (no e)
  where
    no : None ≡ Some g → ⊥
    no e = cc
last_is true false x g e = (refl, cc)
last_is false b x g e = absurd (no e)
  where
    no : None ≡ Some g → ⊥
    no e = cc

-- another gutter in the place of the last, an item's if that was one
replaced_began : (count : ℕ) (old new : Gutter) (m : Mapping) → items_in (new ∷ []) ≡ items_in (old ∷ []) → Began count m → new_gutter m ≡ Some old → Began count (with_last new m)
replaced_began count old new m same h e =
    let last = last_is (nat_lt m.seen (length m.gutters)) (length m.gutters == 0) (slice_index_or m.gutters (length m.gutters - 1) Bar) old e in
    let fewer : m.seen < length m.gutters = less_by m.seen (length m.gutters) last.0 in
    let k : ℕ = length m.gutters - 1 in
    let long : length (take k m.gutters) ≡ k = omega (arith, length-take k m.gutters, fewer) in
    let split : m.gutters ≡ take k m.gutters ++ old ∷ [] = last_split m.gutters (omega (arith, fewer)) ∙ ap (λ (g : Gutter). take k m.gutters ++ g ∷ []) last.1 in
    let before : waiting m ≡ items_in (old ∷ []) + items_in (drop m.seen (take k m.gutters)) = ap (λ (l : List Gutter). items_in (drop m.seen l)) split ∙ items_with_last m.seen (take k m.gutters) old (omega (arith, long, fewer)) in
    let now : waiting (with_last new m) ≡ items_in (new ∷ []) + items_in (drop m.seen (take k m.gutters)) = items_with_last m.seen (take k m.gutters) new (omega (arith, long, fewer)) in
    let faces = h.faces in
    record { within = omega (arith, length-append (take k m.gutters) (new ∷ []), long, fewer); faces = omega (arith, before, now, same, faces) }

words_began : (count : ℕ) (defined : Defined) (bytes : List ℕ) (m : Mapping) → Began count m → Began count (words_shown defined bytes m)
words_began count defined bytes m h = put_began count Words (words defined bytes) (addresses_in defined bytes) m h

task_began : (count : ℕ) (done : Option Bool) (defined : Defined) (bytes : List ℕ) (m : Mapping) → Began count m → new_gutter m ≡ Some Bullet → Began count (task_by done defined bytes m)
task_began count None defined bytes m h e = words_began count defined bytes m h
task_began count (Some done) defined bytes m h e = words_began count defined (after_box bytes) (with_last (Task done) m) (replaced_began count Bullet (Task done) m refl h e)

alert_began : (count : ℕ) (alert : Option Alert) (defined : Defined) (bytes : List ℕ) (m : Mapping) → Began count m → new_gutter m ≡ Some Bar → Began count (alert_by alert defined bytes m)
alert_began count None defined bytes m h e = words_began count defined bytes m h
alert_began count (Some alert) defined bytes m h e =
    put_began count Words (alert_line alert ∷ restyled Paragraph Paragraph (words defined (after_line bytes))) (addresses_in defined (after_line bytes)) (with_last (AlertBar alert) m) (replaced_began count Bar (AlertBar alert) m refl h e)

paragraph_began : (count : ℕ) (gutter : Option Gutter) (defined : Defined) (bytes : List ℕ) (m : Mapping) → Began count m → new_gutter m ≡ gutter → Began count (paragraph_by gutter defined bytes m)
paragraph_began count (Some Bullet) defined bytes m h e = task_began count (box_of bytes) defined bytes m h e
paragraph_began count (Some Bar) defined bytes m h e = alert_began count (alert_of bytes) defined bytes m h e
paragraph_began count (Some (Number number)) defined bytes m h e = words_began count defined bytes m h
paragraph_began count (Some (Task done)) defined bytes m h e = words_began count defined bytes m h
paragraph_began count (Some Code) defined bytes m h e = words_began count defined bytes m h
paragraph_began count (Some (AlertBar alert)) defined bytes m h e = words_began count defined bytes m h
paragraph_began count (Some (Signs level)) defined bytes m h e = words_began count defined bytes m h
paragraph_began count (Some (Below level)) defined bytes m h e = words_began count defined bytes m h
paragraph_began count None defined bytes m h e = words_began count defined bytes m h

code_began : (count : ℕ) (marks : List MarkRun) (lines : List Remaining) (m : Mapping) → Began count m → Began count (code_shown marks lines m)
code_began count marks lines m h =
    began_as count (put Boxed (code_lines 0 lines) [] (with_marks marks m)) _ (put_began count Boxed (code_lines 0 lines) [] (with_marks marks m) (began_as count m (with_marks marks m) h refl refl refl)) refl refl refl

html_began : (count : ℕ) (t : Bool) (level : ℕ) (text : List ℕ) (m : Mapping) → Began count m → Began count (html_by t level text m)
html_began count true level text m h = put_began count Words (html_lines text) (html_addresses text) m h
html_began count false level text m h = put_began count Large (restyled (heading_style level) (heading_style level) (html_lines text)) (html_addresses text) m h

leaf_began : (count : ℕ) (defined : Defined) (kind : Kind) (lines : List Remaining) (m : Mapping) → Began count m → Began count (leaf_shown defined kind lines m)
leaf_began count defined ParagraphKind lines m h = paragraph_began count (new_gutter m) defined (joined [] lines) m h refl
leaf_began count defined Html lines m h = html_began count (html_level (joined [] lines) == 0) (html_level (joined [] lines)) (html_text (joined [] lines)) m h
leaf_began count defined (Heading level) lines m h =
    put_began count Large (restyled (heading_style level) (heading_style level) (words defined (joined [] lines))) (addresses_in defined (joined [] lines)) m h
leaf_began count defined Indented lines m h = code_began count [] lines m h
leaf_began count defined Fenced lines m h = code_began count (fence_marks lines) (drop 1 lines) m h
leaf_began count defined (Table columns) lines m h = put_began count Listed (table_lines defined.labels columns lines) (table_addresses defined columns lines) m h
leaf_began count defined Rule lines m h = put_began count Large (horizontal_rule ∷ []) [] m h
leaf_began count defined Nothing lines m h = h
leaf_began count defined Definitions lines m h = h

-- ---- parts

more_gutters : (count : ℕ) (m n : Mapping) (g : Gutter) → Began count m → n.sections ≡ m.sections → n.gutters ≡ m.gutters ++ g ∷ [] → n.seen ≡ m.seen → Began (items_in (g ∷ []) + count) n
more_gutters count m n g h sections gutters seen =
    let wait : waiting n ≡ items_in (g ∷ []) + waiting m = ap (λ (k : ℕ). items_in (drop k n.gutters)) seen ∙ ap (λ (l : List Gutter). items_in (drop m.seen l)) gutters ∙ items_with_last m.seen m.gutters g h.within in
    let faces = h.faces in
    record { within = omega (arith, h.within, seen, ap length gutters, length-append m.gutters (g ∷ [])); faces = omega (arith, faces, wait, ap faces_of sections) }

item_counts : (sign number : ℕ) → items_in (item_gutter sign number ∷ []) ≡ 1
item_counts sign number = by_bool (λ t. items_in ((if t then Number number else Bullet) ∷ []) ≡ 1) (is_number sign) (λ on. refl) (λ off. refl)

none_more : (count : ℕ) (m : Mapping) → Began count m → Began (0 + count) m
none_more count m h = let same : count ≡ 0 + count = omega arith in subst (λ (k : ℕ). Began k m) same h

part_began : (count : ℕ) (defined : Defined) (part : PartContent) (m : Mapping) → Began count m → Began (begun_by part + count) (shown_part defined part m)
unfolding shown_part
part_began count defined (begins Quote apart) m h = more_gutters count m (begun Quote (passed apart m)) Bar h refl refl refl
part_began count defined (begins (Item sign number content) apart) m h =
    let n : ℕ = number_in (last_list m.lists) sign number in
    subst (λ (k : ℕ). Began (k + count) (begun (Item sign number content) (passed apart m))) (item_counts sign n)
    (more_gutters count m (begun (Item sign number content) (passed apart m)) (item_gutter sign n) h refl refl refl)
part_began count defined ends m h = none_more count (ended m) (ended_began count m h)
part_began count defined (block leaf) m h =
    none_more count (leaf_shown defined leaf.kind leaf.lines (list_ended (passed leaf.apart m)))
    (leaf_began count defined leaf.kind leaf.lines (list_ended (passed leaf.apart m)) (began_as count m (list_ended (passed leaf.apart m)) h refl refl refl))

parts_began : (count : ℕ) (defined : Defined) (parts : List PartContent) (m : Mapping) → Began count m → Began (items_of parts + count) (shown_parts defined parts m)
unfolding shown_parts
parts_began count defined [] m h = none_more count m h
parts_began count defined (part ∷ parts) m h =
    let more = parts_began (begun_by part + count) defined parts (shown_part defined part m) (part_began count defined part m h) in
    let sum : items_of parts + (begun_by part + count) ≡ (begun_by part + items_of parts) + count = omega arith in
    subst (λ (k : ℕ). Began k (shown_parts defined parts (shown_part defined part m))) sum more

-- each item's bullet, number or box is in front of exactly one row
pub faces_once : FacesOnce
faces_once defined parts =
    let all = parts_began 0 defined parts nothing_shown (record { within = omega arith; faces = refl }) in
    let faces = all.faces in
    omega (arith, faces)
