-- A section is behind exactly the containers that are open, and each of these begins with the first section in it.
use Rattle.std.proofs.Common.{◌≡◌, ℕ, zero, suc, ◌+◌, ◌-◌, ◌<◌, ◌≤◌, nat_lt, min, Bool, true, false, ◌==◌, List, [], ◌∷◌, ◌++◌, length, take, drop, Option, Some, None, refl, sym, ap, subst, ◌∙◌, ◌⊎◌, arith, inl, inr, append_assoc, append-nil, length-append, eq-eqb, if◌then◌else◌}
use Rattle.std.specs.Prelude.{slice_index_or}
use Rattle.std.specs.List.{AllByRecursion}
use Rattle.std.proofs.lemmas.Bool.Decides.{nat_tests}
use Rattle.markdown_marks.specs.Remaining.{Remaining}
use Rattle.markdown_blocks.specs.declared.containers.Container.{Container}
use Rattle.markdown_blocks.specs.declared.containers.Container.TheVariants.{Quote, Item}
use Rattle.markdown_leaves.specs.Defining.{joined}
use Rattle.markdown_leaves.specs.Parts.{PartContent, begins, ends, block}
use Rattle.markdown_leaves.specs.declared.parts.Kind.{Kind}
use Rattle.markdown_leaves.specs.declared.parts.Kind.TheVariants.{Nothing, Paragraph as ParagraphKind, Heading, Indented, Fenced, Html, Table, Rule, Definitions}
use Rattle.mad_md.specs.Lines.{LineContent, horizontal_rule}
use Rattle.mad_md.specs.declared.composite.CompositeStyle.TheVariants.{Paragraph}
use Rattle.mad_sections.specs.Sections.{SectionContent}
use Rattle.mad_sections.specs.declared.gutters.Alert.{Alert}
use Rattle.mad_sections.specs.declared.gutters.Gutter.{Gutter}
use Rattle.mad_sections.specs.declared.gutters.Gutter.TheVariants.{Bar, AlertBar, Bullet, Number, Task, Code, Signs, Below}
use Rattle.markdown_lines.specs.Code.{code_lines}
use Rattle.markdown_lines.specs.Leaf.{html_lines}
use Rattle.markdown_lines.specs.Links.{html_addresses, Defined}
use Rattle.markdown_lines.specs.Restyled.{restyled, empty_line}
use Rattle.markdown_lines.specs.Tables.{table_lines}
use Rattle.markdown_gutters.specs.Forms.{is_big, leaf_gutters, items_gutters}
use Rattle.markdown_gutters.specs.Lists.{is_number, item_gutter, is_item, number_in, last_list}
use Rattle.markdown_gutters.specs.Signs.{after_box, box_of, after_line, alert_of}
use Rattle.markdown_gutters.specs.declared.forms.Form.{Form}
use Rattle.markdown_gutters.specs.declared.forms.Form.TheVariants.{Words, Large, Listed, Boxed}
use Rattle.mad_mark_runs.specs.declared.mark_runs.MarkRun.{MarkRun}
use Rattle.markdown_tones.specs.Fences.{fence_marks}
use Rattle.markdown_html_text.specs.HtmlLeaves.{html_level}
use Rattle.markdown_reader.specs.Mapping.{Mapping, nothing_shown, new_gutter, with_last, is_spaced, spaced, blank_row, section_of, added, put, passed, list_ended, begun, nothing_since, with_section, item_ended, ended_by, closed, words, addresses_in, words_shown, task_by, alert_line, alert_by, paragraph_by, heading_style, html_text, html_by, table_addresses, leaf_shown, shown_part, shown_parts, with_marks, code_shown}
use Rattle.markdown_reader.specs.ListedSections.{MayBeListed, SectionsMayBeListed}
use Rattle.markdown_reader.specs.Nested.{Opened, opened_by, opened_in, IsOf, AreOf, AreNested, new_ones, IsBehindAll, IsBlankRow, AddsNested, SectionsNest, html_form, form_of, form_by}

by_bool : (P : Bool → Type 0) (b : Bool) → (b ≡ true → P true) → (b ≡ false → P false) → P b
by_bool P true on off = on refl
by_bool P false on off = off refl

-- ---- which are seen

-- the first so many began before the last of so many sections, and the others since
abbrev AreSeen : ℕ → ℕ → List Opened → Type 0
AreSeen count n [] = n ≡ 0
AreSeen count zero (o ∷ opened) = (o.since ≡ count) × AreSeen count zero opened
AreSeen count (suc n) (o ∷ opened) = (o.since < count) × AreSeen count n opened

seen_all : (count more n : ℕ) (opened : List Opened) → AreSeen count n opened → count < more → AreSeen more (length opened) opened
seen_all count more n [] h less = refl
seen_all count more zero (o ∷ opened) h less = (omega (arith, h.0), seen_all count more zero opened h.1 less)
seen_all count more (suc n) (o ∷ opened) h less = (omega (arith, h.0), seen_all count more n opened h.1 less)

seen_more : (count n : ℕ) (opened : List Opened) (container : Container) → AreSeen count n opened → AreSeen count n (opened ++ record { container = container; since = count } ∷ [])
seen_more count zero [] container h = (refl, refl)
seen_more count (suc n) [] container h = absurd (omega arith)
seen_more count zero (o ∷ opened) container h = (h.0, seen_more count zero opened container h.1)
seen_more count (suc n) (o ∷ opened) container h = (h.0, seen_more count n opened container h.1)

seen_few : (count n k m : ℕ) (opened : List Opened) → AreSeen count n opened → k ≤ length opened → m ≡ min n k → AreSeen count m (take k opened)
seen_few count n zero m [] h fits e = omega arith
seen_few count n (suc k) m [] h fits e = absurd (omega arith)
seen_few count n zero m (o ∷ opened) h fits e = omega arith
seen_few count zero (suc k) zero (o ∷ opened) h fits e = (h.0, seen_few count zero k zero opened h.1 (omega arith) (omega arith))
seen_few count zero (suc k) (suc m) (o ∷ opened) h fits e = absurd (omega arith)
seen_few count (suc n) (suc k) zero (o ∷ opened) h fits e = absurd (omega arith)
seen_few count (suc n) (suc k) (suc m) (o ∷ opened) h fits e = (h.0, seen_few count n k m opened h.1 (omega arith) (omega arith))

seen_within : (count n : ℕ) (opened : List Opened) → AreSeen count n opened → n ≤ length opened
seen_within count n [] h = omega arith
seen_within count zero (o ∷ opened) h = omega arith
seen_within count (suc n) (o ∷ opened) h = let rest = seen_within count n opened h.1 in omega (arith, rest)

new_are : (count n : ℕ) (opened : List Opened) → AreSeen count n opened → n + new_ones count opened ≡ length opened
new_are count n [] h = omega arith
new_are count zero (o ∷ opened) h =
    let rest = new_are count zero opened h.1 in
    let is : (o.since == count) ≡ true = eq-eqb o.since count h.0 in
    let one : new_ones count (o ∷ opened) ≡ 1 + new_ones count opened = ap (λ (b : Bool). if b then 1 + new_ones count opened else new_ones count opened) is in
    omega (arith, rest, one)
new_are count (suc n) (o ∷ opened) h =
    let rest = new_are count n opened h.1 in
    let less : o.since < count = h.0 in
    let isnt : (o.since == count) ≡ false = grind (arith, nat_tests) in
    let none : new_ones count (o ∷ opened) ≡ new_ones count opened = ap (λ (b : Bool). if b then 1 + new_ones count opened else new_ones count opened) isnt in
    omega (arith, rest, none)

-- ---- whose gutters they are

of_length : (opened : List Opened) (gutters : List Gutter) → AreOf opened gutters → length opened ≡ length gutters
of_length [] [] h = refl
of_length [] (g ∷ gutters) h = absurd h
of_length (o ∷ opened) [] h = absurd h
of_length (o ∷ opened) (g ∷ gutters) h = ap suc (of_length opened gutters h.1)

of_take : (k : ℕ) (opened : List Opened) (gutters : List Gutter) → AreOf opened gutters → AreOf (take k opened) (take k gutters)
of_take zero opened gutters h = tt
of_take (suc k) [] [] h = tt
of_take (suc k) [] (g ∷ gutters) h = absurd h
of_take (suc k) (o ∷ opened) [] h = absurd h
of_take (suc k) (o ∷ opened) (g ∷ gutters) h = (h.0, of_take k opened gutters h.1)

of_more : (opened : List Opened) (gutters : List Gutter) (o : Opened) (g : Gutter) → AreOf opened gutters → IsOf o.container g → AreOf (opened ++ o ∷ []) (gutters ++ g ∷ [])
of_more [] [] o g h k = (k, tt)
of_more [] (x ∷ gutters) o g h k = absurd h
of_more (x ∷ opened) [] o g h k = absurd h
of_more (x ∷ opened) (y ∷ gutters) o g h k = (h.0, of_more opened gutters o g h.1 k)

-- a task's box is of an item, as its bullet is
box_is : (done : Bool) (container : Container) → IsOf container Bullet → IsOf container (Task done)
box_is done Quote h = absurd h
box_is done (Item sign number content) h = h

-- an alert's bar is of a quote, as another bar is
bar_is : (alert : Alert) (container : Container) → IsOf container Bar → IsOf container (AlertBar alert)
bar_is alert Quote h = tt
bar_is alert (Item sign number content) h = absurd h

abbrev StandsFor : Gutter → Gutter → Type 0
StandsFor new old = (container : Container) → IsOf container old → IsOf container new

-- such a gutter in the place of the last
replaced_at : (k : ℕ) (opened : List Opened) (gutters : List Gutter) (old new : Gutter) → StandsFor new old → AreOf opened gutters → length gutters ≡ suc k → slice_index_or gutters k Bar ≡ old → AreOf opened (take k gutters ++ new ∷ [])
replaced_at zero [] [] old new f h e last = absurd (omega arith)
replaced_at zero [] (g ∷ gutters) old new f h e last = absurd h
replaced_at zero (o ∷ opened) [] old new f h e last = absurd h
replaced_at zero (o ∷ []) (g ∷ []) old new f h e last = (f o.container (subst (IsOf o.container) last h.0), tt)
replaced_at zero (o ∷ []) (g ∷ x ∷ gutters) old new f h e last = absurd h.1
replaced_at zero (o ∷ x ∷ opened) (g ∷ []) old new f h e last = absurd h.1
replaced_at zero (o ∷ x ∷ opened) (g ∷ y ∷ gutters) old new f h e last = absurd (omega arith)
replaced_at (suc k) [] [] old new f h e last = absurd (omega arith)
replaced_at (suc k) [] (g ∷ gutters) old new f h e last = absurd h
replaced_at (suc k) (o ∷ opened) [] old new f h e last = absurd h
replaced_at (suc k) (o ∷ opened) (g ∷ gutters) old new f h e last = (h.0, replaced_at k opened gutters old new f h.1 (omega arith) last)

last_is : (a b : Bool) (x g : Gutter) → (if a then (if b then None else Some x) else None) ≡ Some g → (b ≡ false) × (x ≡ g)
last_is true true x g e = absurd (no e)
  where
    no : None ≡ Some g → ⊥
    no e = cc
last_is true false x g e = (refl, cc)
last_is false b x g e = absurd (no e)
  where
    no : None ≡ Some g → ⊥
    no e = cc

-- ---- sections

-- what is known of the open containers between two parts
record Fits (opened : List Opened) (m : Mapping) : Type 0 where
  gutters : AreOf opened m.gutters
  seen : AreSeen (length m.sections) m.seen opened

record Does (form : Form) (opened : List Opened) (before after : Mapping) : Type 0 where
  adds : AddsNested form opened before after
  fits : Fits opened after

nothing : (form : Form) (opened : List Opened) (m : Mapping) → Fits opened m → Does form opened m m
nothing form opened m h = record { adds = record { new = []; joins = sym (append-nil m.sections); nested = tt }; fits = h }

-- the box of code is behind all others
box_more : (form : Form) (gutters : List Gutter) → length (leaf_gutters form gutters) ≡ length (leaf_gutters form []) + length gutters
box_more Words gutters = omega arith
box_more Large gutters = omega arith
box_more Listed gutters = omega arith
box_more Boxed gutters = let e = length-append gutters (Code ∷ []) in omega (arith, e)

behind_all : (form : Form) (opened : List Opened) (lines : List LineContent) (m : Mapping) → Fits opened m → (length lines == 0) ≡ false → IsBehindAll form opened (length m.sections) (section_of form lines m)
behind_all form opened lines m h some =
    let new = new_are (length m.sections) m.seen opened h.seen in
    let long = of_length opened m.gutters h.gutters in
    let more = box_more form m.gutters in
    record { all = m.gutters; of_all = h.gutters; gutters = refl; fresh = omega (arith, new, long, more); list = refl; some = some }

blank_is : (opened : List Opened) (m : Mapping) → Fits opened m → IsBlankRow opened (length m.sections) (blank_row m)
blank_is opened m h =
    let new = new_are (length m.sections) m.seen opened h.seen in
    let old : length opened - new_ones (length m.sections) opened ≡ m.seen = omega (arith, new) in
    record {
      both = take m.seen m.gutters;
      of_both = subst (λ (n : ℕ). AreOf (take n opened) (take m.seen m.gutters)) (sym old) (of_take m.seen opened m.gutters h.gutters);
      gutters = refl;
      fresh = refl;
      list = refl;
      lines = refl;
    }

all_seen : (opened : List Opened) (m : Mapping) (sections : List SectionContent) → Fits opened m → length m.sections < length sections → AreSeen (length sections) (length m.gutters) opened
all_seen opened m sections h more =
    subst (λ (n : ℕ). AreSeen (length sections) n opened) (of_length opened m.gutters h.gutters) (seen_all (length m.sections) (length sections) m.seen opened h.seen more)

longer : (sections : List SectionContent) (s : SectionContent) → length sections < length (sections ++ s ∷ [])
longer sections s = let e = length-append sections (s ∷ []) in omega (arith, e)

-- the mapping after lines are added, and maybe a blank row before them
abbrev with_lines : Form → Bool → List LineContent → Mapping → Mapping
with_lines form t lines m = with_section form lines (if t then record m { sections = m.sections ++ blank_row m ∷ [] } else m)

record SameAs (m n : Mapping) : Type 0 where
  sections : m.sections ≡ n.sections
  gutters : m.gutters ≡ n.gutters
  seen : m.seen ≡ n.seen

lines_does : (form : Form) (t : Bool) (opened : List Opened) (lines : List LineContent) (m : Mapping) → Fits opened m → (length lines == 0) ≡ false → Does form opened m (with_lines form t lines m)
lines_does form true opened lines m h some =
    let apart : List SectionContent = m.sections ++ blank_row m ∷ [] in
    let one = longer m.sections (blank_row m) in
    let two = longer apart (section_of form lines m) in
    record {
      adds = record { new = blank_row m ∷ section_of form lines m ∷ []; joins = append_assoc m.sections (blank_row m ∷ []) (section_of form lines m ∷ []); nested = (blank_is opened m h, behind_all form opened lines m h some) };
      fits = record { gutters = h.gutters; seen = all_seen opened m (apart ++ section_of form lines m ∷ []) h (omega (arith, one, two)) };
    }
lines_does form false opened lines m h some =
    record {
      adds = record { new = section_of form lines m ∷ []; joins = refl; nested = behind_all form opened lines m h some };
      fits = record { gutters = h.gutters; seen = all_seen opened m (m.sections ++ section_of form lines m ∷ []) h (longer m.sections (section_of form lines m)) };
    }

-- what is added doesn't depend on the other fields
does_as : (form : Form) (opened : List Opened) (before after other : Mapping) → Does form opened before after → SameAs other after → Does form opened before other
does_as form opened before after other d e =
    record {
      adds = record { new = d.adds.new; joins = e.sections ∙ d.adds.joins; nested = d.adds.nested };
      fits = record {
        gutters = subst (AreOf opened) (sym e.gutters) d.fits.gutters;
        seen = subst (λ (l : List SectionContent). AreSeen (length l) other.seen opened) (sym e.sections) (subst (λ (n : ℕ). AreSeen (length after.sections) n opened) (sym e.seen) d.fits.seen);
      };
    }

added_same : (form : Form) (t : Bool) (lines : List LineContent) (addresses : List (List ℕ)) (m : Mapping) → SameAs (added form lines addresses (if t then record m { sections = m.sections ++ blank_row m ∷ [] } else m)) (with_lines form t lines m)
added_same form true lines addresses m = record { sections = refl; gutters = refl; seen = refl }
added_same form false lines addresses m = record { sections = refl; gutters = refl; seen = refl }

put_does : (opened : List Opened) (form : Form) (lines : List LineContent) (addresses : List (List ℕ)) (m : Mapping) → Fits opened m → Does form opened m (put form lines addresses m)
put_does opened form lines addresses m h =
    let t : Bool = is_spaced m.apart (is_big form) m in
    by_bool (λ t. Does form opened m (if t then m else added form lines addresses (spaced m.apart (is_big form) m))) (length lines == 0) (λ none. nothing form opened m h)
    (λ some. does_as form opened m (with_lines form t lines m) _ (lines_does form t opened lines m h some) (added_same form t lines addresses m))

-- ---- containers

ended_same : (t : Bool) (m : Mapping) → SameAs (nothing_since (with_section Words (empty_line Paragraph ∷ []) (if t then record m { sections = m.sections ++ blank_row m ∷ [] } else m))) (with_lines Words t (empty_line Paragraph ∷ []) m)
ended_same true m = record { sections = refl; gutters = refl; seen = refl }
ended_same false m = record { sections = refl; gutters = refl; seen = refl }

item_does : (opened : List Opened) (m : Mapping) → Fits opened m → Does Words opened m (item_ended m)
item_does opened m h =
    does_as Words opened m (with_lines Words (is_spaced m.item_apart false m) (empty_line Paragraph ∷ []) m) _ (lines_does Words (is_spaced m.item_apart false m) opened (empty_line Paragraph ∷ []) m h refl) (ended_same (is_spaced m.item_apart false m) m)

ends_does : (opened : List Opened) (gutter : Option Gutter) (m : Mapping) → Fits opened m → Does Words opened m (ended_by gutter m)
ends_does opened None m h = nothing Words opened m h
ends_does opened (Some gutter) m h = by_bool (λ t. Does Words opened m (if t then item_ended m else m)) (is_item gutter) (λ item. item_does opened m h) (λ bar. nothing Words opened m h)

closed_fits : (opened : List Opened) (m : Mapping) → Fits opened m → Fits (take (length opened - 1) opened) (closed m)
closed_fits opened m h =
    let long = of_length opened m.gutters h.gutters in
    let few : length m.gutters - 1 ≡ length opened - 1 = omega (arith, long) in
    record {
      gutters = subst (λ (n : ℕ). AreOf (take (length opened - 1) opened) (take n m.gutters)) (sym few) (of_take (length opened - 1) opened m.gutters h.gutters);
      seen = seen_few (length m.sections) m.seen (length opened - 1) (min m.seen (length m.gutters - 1)) opened h.seen (omega arith) (ap (min m.seen) few);
    }

begun_fits : (opened : List Opened) (container : Container) (m : Mapping) → Fits opened m → Fits (opened ++ record { container = container; since = length m.sections } ∷ []) (begun container m)
begun_fits opened Quote m h = record { gutters = of_more opened m.gutters _ Bar h.gutters tt; seen = seen_more (length m.sections) m.seen opened Quote h.seen }
begun_fits opened (Item sign number content) m h =
    let n : ℕ = number_in (last_list m.lists) sign number in
    record {
      gutters = of_more opened m.gutters (record { container = Item sign number content; since = length m.sections }) (item_gutter sign n) h.gutters
          (by_bool (λ t. is_number sign ≡ t → IsOf (Item sign number content) (if t then Number n else Bullet)) (is_number sign) (λ on e. e) (λ off e. e) refl);
      seen = seen_more (length m.sections) m.seen opened (Item sign number content) h.seen;
    }

-- ---- leaves

replaced_fits : (opened : List Opened) (old new : Gutter) (m : Mapping) → StandsFor new old → Fits opened m → new_gutter m ≡ Some old → Fits opened (with_last new m)
replaced_fits opened old new m f h e =
    let last = last_is (nat_lt m.seen (length m.gutters)) (length m.gutters == 0) (slice_index_or m.gutters (length m.gutters - 1) Bar) old e in
    let off = last.0 in
    let some : length m.gutters ≡ suc (length m.gutters - 1) = grind (arith, nat_tests, off) in
    record { gutters = replaced_at (length m.gutters - 1) opened m.gutters old new f h.gutters some last.1; seen = h.seen }

words_does : (opened : List Opened) (defined : Defined) (bytes : List ℕ) (m : Mapping) → Fits opened m → Does Words opened m (words_shown defined bytes m)
words_does opened defined bytes m h = put_does opened Words (words defined bytes) (addresses_in defined bytes) m h

task_does : (opened : List Opened) (done : Option Bool) (defined : Defined) (bytes : List ℕ) (m : Mapping) → Fits opened m → new_gutter m ≡ Some Bullet → Does Words opened m (task_by done defined bytes m)
task_does opened None defined bytes m h e = words_does opened defined bytes m h
task_does opened (Some done) defined bytes m h e =
    let d = words_does opened defined (after_box bytes) (with_last (Task done) m) (replaced_fits opened Bullet (Task done) m (box_is done) h e) in
    record { adds = record { new = d.adds.new; joins = d.adds.joins; nested = d.adds.nested }; fits = d.fits }

alert_does : (opened : List Opened) (alert : Option Alert) (defined : Defined) (bytes : List ℕ) (m : Mapping) → Fits opened m → new_gutter m ≡ Some Bar → Does Words opened m (alert_by alert defined bytes m)
alert_does opened None defined bytes m h e = words_does opened defined bytes m h
alert_does opened (Some alert) defined bytes m h e =
    let d = put_does opened Words (alert_line alert ∷ restyled Paragraph Paragraph (words defined (after_line bytes))) (addresses_in defined (after_line bytes)) (with_last (AlertBar alert) m) (replaced_fits opened Bar (AlertBar alert) m (bar_is alert) h e) in
    record { adds = record { new = d.adds.new; joins = d.adds.joins; nested = d.adds.nested }; fits = d.fits }

paragraph_does : (opened : List Opened) (gutter : Option Gutter) (defined : Defined) (bytes : List ℕ) (m : Mapping) → Fits opened m → new_gutter m ≡ gutter → Does Words opened m (paragraph_by gutter defined bytes m)
paragraph_does opened (Some Bullet) defined bytes m h e = task_does opened (box_of bytes) defined bytes m h e
paragraph_does opened (Some Bar) defined bytes m h e = alert_does opened (alert_of bytes) defined bytes m h e
paragraph_does opened (Some (Number number)) defined bytes m h e = words_does opened defined bytes m h
paragraph_does opened (Some (Task done)) defined bytes m h e = words_does opened defined bytes m h
paragraph_does opened (Some Code) defined bytes m h e = words_does opened defined bytes m h
paragraph_does opened (Some (AlertBar alert)) defined bytes m h e = words_does opened defined bytes m h
paragraph_does opened (Some (Signs level)) defined bytes m h e = words_does opened defined bytes m h
paragraph_does opened (Some (Below level)) defined bytes m h e = words_does opened defined bytes m h
paragraph_does opened None defined bytes m h e = words_does opened defined bytes m h

code_does : (opened : List Opened) (marks : List MarkRun) (lines : List Remaining) (m : Mapping) → Fits opened m → Does Boxed opened m (code_shown marks lines m)
code_does opened marks lines m h =
    let fits : Fits opened (with_marks marks m) = record { gutters = h.gutters; seen = h.seen } in
    let d = put_does opened Boxed (code_lines 0 lines) [] (with_marks marks m) fits in
    record { adds = record { new = d.adds.new; joins = d.adds.joins; nested = d.adds.nested }; fits = record { gutters = d.fits.gutters; seen = d.fits.seen } }

html_does : (opened : List Opened) (t : Bool) (level : ℕ) (text : List ℕ) (m : Mapping) → Fits opened m → Does (html_form t) opened m (html_by t level text m)
html_does opened true level text m h = put_does opened Words (html_lines text) (html_addresses text) m h
html_does opened false level text m h = put_does opened Large (restyled (heading_style level) (heading_style level) (html_lines text)) (html_addresses text) m h

leaf_does : (opened : List Opened) (defined : Defined) (kind : Kind) (lines : List Remaining) (m : Mapping) → Fits opened m → Does (form_of kind lines) opened m (leaf_shown defined kind lines m)
leaf_does opened defined ParagraphKind lines m h = paragraph_does opened (new_gutter m) defined (joined [] lines) m h refl
leaf_does opened defined Html lines m h = html_does opened (html_level (joined [] lines) == 0) (html_level (joined [] lines)) (html_text (joined [] lines)) m h
leaf_does opened defined (Heading level) lines m h =
    put_does opened Large (restyled (heading_style level) (heading_style level) (words defined (joined [] lines))) (addresses_in defined (joined [] lines)) m h
leaf_does opened defined Indented lines m h = code_does opened [] lines m h
leaf_does opened defined Fenced lines m h = code_does opened (fence_marks lines) (drop 1 lines) m h
leaf_does opened defined (Table columns) lines m h = put_does opened Listed (table_lines defined.labels columns lines) (table_addresses defined columns lines) m h
leaf_does opened defined Rule lines m h = put_does opened Large (horizontal_rule ∷ []) [] m h
leaf_does opened defined Nothing lines m h = nothing Words opened m h
leaf_does opened defined Definitions lines m h = nothing Words opened m h

-- ---- parts

record Steps (opened : List Opened) (part : PartContent) (before after : Mapping) : Type 0 where
  adds : AddsNested (form_by part) opened before after
  fits : Fits (opened_by part (length before.sections) opened) after

part_steps : (opened : List Opened) (defined : Defined) (part : PartContent) (m : Mapping) → Fits opened m → Steps opened part m (shown_part defined part m)
unfolding shown_part
part_steps opened defined (begins container apart) m h =
    let same : Fits opened (passed apart m) = record { gutters = h.gutters; seen = h.seen } in
    let fits = begun_fits opened container (passed apart m) same in
    record { adds = adds_none opened container m (passed apart m) refl; fits = fits }
  where
    adds_none : (opened : List Opened) (container : Container) (m n : Mapping) → n.sections ≡ m.sections → AddsNested Words opened m (begun container n)
    adds_none opened Quote m n e = record { new = []; joins = e ∙ sym (append-nil m.sections); nested = tt }
    adds_none opened (Item sign number content) m n e = record { new = []; joins = e ∙ sym (append-nil m.sections); nested = tt }
part_steps opened defined ends m h =
    let d = ends_does opened (new_gutter m) m h in
    record { adds = record { new = d.adds.new; joins = d.adds.joins; nested = d.adds.nested }; fits = closed_fits opened (ended_by (new_gutter m) m) d.fits }
part_steps opened defined (block leaf) m h =
    let same : Fits opened (list_ended (passed leaf.apart m)) = record { gutters = h.gutters; seen = h.seen } in
    let d = leaf_does opened defined leaf.kind leaf.lines (list_ended (passed leaf.apart m)) same in
    record { adds = record { new = d.adds.new; joins = d.adds.joins; nested = d.adds.nested }; fits = d.fits }

parts_fit : (opened : List Opened) (defined : Defined) (parts : List PartContent) (m : Mapping) → Fits opened m → Fits (opened_in defined parts m opened) (shown_parts defined parts m)
unfolding shown_parts opened_in
parts_fit opened defined [] m h = h
parts_fit opened defined (part ∷ parts) m h =
    let s = part_steps opened defined part m h in
    parts_fit (opened_by part (length m.sections) opened) defined parts (shown_part defined part m) s.fits

-- each part is shown behind exactly the containers that are open
pub sections_nest : SectionsNest
sections_nest defined parts part =
    let fits = parts_fit [] defined parts nothing_shown (record { gutters = tt; seen = refl }) in
    let s = part_steps (opened_in defined parts nothing_shown []) defined part (shown_parts defined parts nothing_shown) fits in
    s.adds

-- ---- which may be lists

new_few : (count : ℕ) (opened : List Opened) → new_ones count opened ≤ length opened
new_few count [] = omega arith
new_few count (o ∷ opened) =
    let rest = new_few count opened in
    by_bool (λ t. (if t then 1 + new_ones count opened else new_ones count opened) ≤ length (o ∷ opened)) (o.since == count) (λ on. omega (arith, rest)) (λ off. omega (arith, rest))

listed_by : (form : Form) (all : List Gutter) (s : SectionContent) → s.gutters ≡ leaf_gutters form all → s.list ≡ items_gutters form all → (s.list ≡ None) ⊎ (s.list ≡ Some (s.gutters ++ Bullet ∷ []))
listed_by Words all s gutters list = inl list
listed_by Large all s gutters list = inl list
listed_by Boxed all s gutters list = inl list
listed_by Listed all s gutters list = inr (list ∙ ap (λ (gs : List Gutter). Some (gs ++ Bullet ∷ [])) (sym gutters))

behind_may : (form : Form) (opened : List Opened) (count : ℕ) (s : SectionContent) → IsBehindAll form opened count s → MayBeListed s
behind_may form opened count s h =
    let few = new_few count opened in
    let long = of_length opened h.all h.of_all in
    let more = box_more form h.all in
    let fresh = h.fresh in
    record { fresh = omega (arith, few, long, more, fresh, ap length h.gutters); list = listed_by form h.all s h.gutters h.list }

blank_may : (opened : List Opened) (count : ℕ) (s : SectionContent) → IsBlankRow opened count s → MayBeListed s
blank_may opened count s h = let fresh = h.fresh in record { fresh = omega (arith, fresh); list = inl h.list }

nested_may : (form : Form) (opened : List Opened) (count : ℕ) (new : List SectionContent) → AreNested form opened count new → AllByRecursion MayBeListed new
nested_may form opened count [] h = tt
nested_may form opened count (s ∷ []) h = (behind_may form opened count s h, tt)
nested_may form opened count (b ∷ s ∷ []) h = (blank_may opened count b h.0, (behind_may form opened count s h.1, tt))
nested_may form opened count (a ∷ b ∷ c ∷ new) h = absurd h

both_may : (xs ys : List SectionContent) → AllByRecursion MayBeListed xs → AllByRecursion MayBeListed ys → AllByRecursion MayBeListed (xs ++ ys)
both_may [] ys h k = k
both_may (x ∷ xs) ys h k = (h.0, both_may xs ys h.1 k)

parts_may : (opened : List Opened) (defined : Defined) (parts : List PartContent) (m : Mapping) → Fits opened m → AllByRecursion MayBeListed m.sections → AllByRecursion MayBeListed (shown_parts defined parts m).sections
unfolding shown_parts
parts_may opened defined [] m h k = k
parts_may opened defined (part ∷ parts) m h k =
    let s = part_steps opened defined part m h in
    let new = nested_may (form_by part) opened (length m.sections) s.adds.new s.adds.nested in
    parts_may (opened_by part (length m.sections) opened) defined parts (shown_part defined part m) s.fits (subst (AllByRecursion MayBeListed) (sym s.adds.joins) (both_may m.sections s.adds.new k new))

-- each section is no list, or may be one behind a further bullet
pub may_be_listed : SectionsMayBeListed
may_be_listed defined parts = parts_may [] defined parts nothing_shown (record { gutters = tt; seen = refl }) tt
