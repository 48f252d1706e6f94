-- Sections that parts are shown as: their lines and gutters are as types promise, no line has a sign of its own, and no terminal obeys any of it.
use Rattle.std.proofs.Common.{◌≡◌, ℕ, zero, suc, ◌+◌, ◌-◌, ◌<◌, ◌≤◌, ◌^◌, Bool, true, false, not, ◌==◌, List, [], ◌∷◌, ◌++◌, map, length, take, drop, get_or, Option, Some, None, refl, sym, ap, ◌∙◌, arith, if◌then◌else◌}
use Rattle.std.specs.Prelude.{chars, codes, min, IfSome}
use Rattle.std.specs.Char.{IsScalar}
use Rattle.std.specs.Int.{is_in_range}
use Rattle.std.specs.List.{AllByRecursion, list_all}
use Rattle.std.specs.Str.{IsUtf8, NonePass}
use Rattle.std.proofs.Math.Utf8.{scalar, scalars}
use Rattle.std.proofs.lemmas.Bool.{and_parts, and_from}
use Rattle.std.proofs.lemmas.Bool.Decides.{nat_tests}
use Rattle.std.proofs.lemmas.Str.{chars-encodes, scalars-chars}
use Rattle.mad_md.specs.Flagged.{Run}
use Rattle.mad_md.specs.Lines.{LineContent, StyledRuns, horizontal_rule, normal, table_row, table_rule}
use Rattle.mad_md.specs.declared.composite.CompositeStyle.TheVariants.{Paragraph}
use Rattle.mad_measure.proofs.AllLemmas.{all_each, all_joined}
use Rattle.mad_mark_runs.specs.declared.mark_runs.MarkRun.{MarkRun}
use Rattle.mad_page_rows.specs.FaceLaws.{IsTypedGutter}
use Rattle.mad_sections.specs.Sections.{SectionContent}
use Rattle.mad_sections.specs.declared.gutters.Alert.{Alert}
use Rattle.mad_sections.specs.declared.gutters.Alert.TheVariants.{Caution, Important, Note, Tip, Warning}
use Rattle.mad_sections.specs.declared.gutters.Gutter.{Gutter}
use Rattle.mad_sections.specs.declared.gutters.Gutter.TheVariants.{AlertBar, Bar, Below, Bullet, Code, Number, Signs, Task}
use Rattle.mad_steady.proofs.KeptLemmas.{bytes_pass}
use Rattle.mad_steady.proofs.TextLemmas.{bytes_steady, read_again, steady_is}
use Rattle.mad_steady.specs.Kept.{PassesWhatIsMade}
use Rattle.mad_steady.specs.Steady.{steady_text}
use Rattle.mad_steady.specs.declared.places.Place.TheVariants.{Opened}
use Rattle.markdown_blocks.specs.declared.containers.Container.{Container}
use Rattle.markdown_blocks.specs.declared.containers.Container.TheVariants.{Item, Quote}
use Rattle.markdown_gutters.specs.Forms.{is_big, items_gutters, leaf_gutters}
use Rattle.markdown_gutters.specs.Lists.{is_item, is_number, item_gutter, last_list, list_after, no_list, number_in}
use Rattle.markdown_gutters.specs.Signs.{after_box, after_line, alert_of, alert_word, box_of}
use Rattle.markdown_gutters.specs.declared.forms.Form.{Form}
use Rattle.markdown_gutters.specs.declared.forms.Form.TheVariants.{Boxed, Large, Listed, Words}
use Rattle.markdown_gutters.specs.declared.lists.Counted.{Counted}
use Rattle.markdown_html_text.specs.HtmlLeaves.{html_leaves, html_level}
use Rattle.markdown_leaves.specs.Defining.{joined}
use Rattle.markdown_leaves.specs.Parts.{BlockContent, PartContent, begins, block, ends}
use Rattle.markdown_leaves.specs.declared.parts.Kind.{Kind}
use Rattle.markdown_leaves.specs.declared.parts.Kind.TheVariants.{Definitions, Fenced, Heading, Html, Indented, Nothing, Paragraph as ParagraphKind, Rule, Table}
use Rattle.markdown_lines.specs.Code.{code_lines}
use Rattle.markdown_lines.specs.Leaf.{html_lines}
use Rattle.markdown_lines.specs.Links.{Defined, html_addresses}
use Rattle.markdown_lines.specs.Printed.{ArePrinted, IsPrintedCell, IsPrintedLine, IsPrintedRun, is_obeyed}
use Rattle.markdown_lines.specs.Restyled.{empty_line, restyled}
use Rattle.markdown_lines.specs.Steady.{AreSteadyLines, AreSteadyRuns, IsSteadyCell, IsSteadyLine, steady_line, steady_lines, steady_run, steady_runs}
use Rattle.markdown_lines.specs.Tables.{table_lines}
use Rattle.markdown_marks.specs.Remaining.{Remaining}
use Rattle.markdown_reader.specs.Mapping.{Mapping, added, addresses_in, alert_by, alert_line, begun, blank_row, code_shown, ended, ended_by, heading_style, html_by, html_leaf, html_parts, html_text, is_spaced, item_ended, leaf_shown, leaves_by, leaves_in, linked, list_ended, new_gutter, nothing_shown, numbered, paragraph_by, passed, put, section_of, shown_part, shown_parts, spaced, table_addresses, task_by, text_of, with_last, with_list, with_marks, with_section, words, words_shown}
use Rattle.markdown_reader.specs.PlainLines.{ArePlainLines, ArePlainSections, IsPlainLine}
use Rattle.markdown_reader.specs.Printed.{ArePrintedSections}
use Rattle.markdown_reader.specs.Steady.{AreSteadySections, steady_sections}
use Rattle.markdown_tones.specs.Fences.{fence_marks}
use Rattle.markdown_live_laws.proofs.LineLemmas.{AreClear, AreOwnLines, AreTexts, IsClear, IsClearText, IsOwnCell, IsOwnLine, code_is, html_is, leaf_is, restyled_is, table_is}
use Rattle.markdown_live_laws.proofs.NumberLemmas.{AreSmallParts, IsSmallContainer, IsSmallPart}
use Rattle.markdown_live_laws.proofs.TextLemmas.{lossy_utf8, to_scalars}

-- ---- sections

-- a section whose lines are clear, without signs of their own, and whose gutters and those of its items have numbers that fit
pub record IsSoundSection (s : SectionContent) : Type 0 where
  pub gutters : AllByRecursion IsTypedGutter s.gutters
  pub list : IfSome s.list (AllByRecursion IsTypedGutter)
  pub lines : AreOwnLines s.lines

abbrev pub AreSoundSections : List SectionContent → Type 0
AreSoundSections sections = AllByRecursion IsSoundSection sections

abbrev IsSmallList : Counted → Type 0
IsSmallList list = list.next < 2 ^ 32

-- what the sections so far are, and what the next ones depend on
pub record IsSound (m : Mapping) : Type 0 where
  pub sections : AreSoundSections m.sections
  pub gutters : AllByRecursion IsTypedGutter m.gutters
  pub lists : AllByRecursion IsSmallList m.lists

if_sound : (t : Bool) (m n : Mapping) → IsSound m → IsSound n → IsSound (if t then m else n)
if_sound true m n h k = h
if_sound false m n h k = k

take_all_of : {A : Type 0} (P : A → Type 0) (n : ℕ) (xs : List A) → AllByRecursion P xs → AllByRecursion P (take n xs)
take_all_of P zero xs h = tt
take_all_of P (suc n) [] h = tt
take_all_of P (suc n) (x ∷ xs) h = (h.0, take_all_of P n xs h.1)

one_of : {A : Type 0} (P : A → Type 0) (xs : List A) (n : ℕ) (other : A) → AllByRecursion P xs → P other → P (get_or xs n other)
one_of P [] n other h k = k
one_of P (x ∷ xs) zero other h k = h.0
one_of P (x ∷ xs) (suc n) other h k = one_of P xs n other h.1 k

empty_sound : AreOwnLines (empty_line Paragraph ∷ [])
empty_sound = (record { style = tt; runs = tt }, tt)

leaf_gutters_are : (form : Form) (gutters : List Gutter) → AllByRecursion IsTypedGutter gutters → AllByRecursion IsTypedGutter (leaf_gutters form gutters)
leaf_gutters_are Boxed gutters h = all_joined IsTypedGutter gutters (Code ∷ []) h (tt, tt)
leaf_gutters_are Words gutters h = h
leaf_gutters_are Large gutters h = h
leaf_gutters_are Listed gutters h = h

items_are : (form : Form) (gutters : List Gutter) → AllByRecursion IsTypedGutter gutters → IfSome (items_gutters form gutters) (AllByRecursion IsTypedGutter)
items_are Listed gutters h = all_joined IsTypedGutter gutters (Bullet ∷ []) h (tt, tt)
items_are Words gutters h = tt
items_are Large gutters h = tt
items_are Boxed gutters h = tt

section_is : (form : Form) (lines : List LineContent) (m : Mapping) → AreOwnLines lines → IsSound m → IsSoundSection (section_of form lines m)
section_is form lines m k h = record { gutters = leaf_gutters_are form m.gutters h.gutters; list = items_are form m.gutters h.gutters; lines = k }

with_is : (form : Form) (lines : List LineContent) (m : Mapping) → AreOwnLines lines → IsSound m → IsSound (with_section form lines m)
with_is form lines m k h = record { sections = all_joined IsSoundSection m.sections (section_of form lines m ∷ []) h.sections (section_is form lines m k h, tt); gutters = h.gutters; lists = h.lists }

row_is : (m : Mapping) → IsSound m → IsSoundSection (blank_row m)
row_is m h = record { gutters = take_all_of IsTypedGutter _ (take m.seen m.gutters) (take_all_of IsTypedGutter m.seen m.gutters h.gutters); list = tt; lines = empty_sound }

spaced_is : (apart big : Bool) (m : Mapping) → IsSound m → IsSound (spaced apart big m)
spaced_is apart big m h =
    if_sound (is_spaced apart big m) (record m { sections = m.sections ++ blank_row m ∷ [] }) m
    (record { sections = all_joined IsSoundSection m.sections (blank_row m ∷ []) h.sections (row_is m h, tt); gutters = h.gutters; lists = h.lists }) h

linked_is : (addresses : List (List ℕ)) (m : Mapping) → IsSound m → IsSound (linked addresses m)
linked_is addresses m h = record { sections = h.sections; gutters = h.gutters; lists = h.lists }

added_is : (form : Form) (lines : List LineContent) (addresses : List (List ℕ)) (m : Mapping) → AreOwnLines lines → IsSound m → IsSound (added form lines addresses m)
added_is form lines addresses m k h = let own : IsSound (with_section form lines (linked addresses m)) = with_is form lines (linked addresses m) k (linked_is addresses m h) in record { sections = own.sections; gutters = h.gutters; lists = h.lists }

put_is : (form : Form) (lines : List LineContent) (addresses : List (List ℕ)) (m : Mapping) → AreOwnLines lines → IsSound m → IsSound (put form lines addresses m)
put_is form lines addresses m k h =
    let apart : Mapping = spaced m.apart (is_big form) m in
    if_sound (length lines == 0) m (added form lines addresses apart) h (added_is form lines addresses apart k (spaced_is m.apart (is_big form) m h))

-- ---- containers

passed_is : (apart : Bool) (m : Mapping) → IsSound m → IsSound (passed apart m)
passed_is apart m h = record { sections = h.sections; gutters = h.gutters; lists = h.lists }

none_small : IsSmallList no_list
none_small = omega arith

lists_are : (lists : List Counted) (list : Counted) → AllByRecursion IsSmallList lists → IsSmallList list → AllByRecursion IsSmallList (with_list lists list)
lists_are lists list h k = all_joined IsSmallList (take (length lists - 1) lists) (list ∷ []) (take_all_of IsSmallList (length lists - 1) lists h) (k, tt)

ended_list_is : (m : Mapping) → IsSound m → IsSound (list_ended m)
ended_list_is m h = record { sections = h.sections; gutters = h.gutters; lists = lists_are m.lists no_list h.lists none_small }

number_by : (t : Bool) (a b : ℕ) → a < 2 ^ 32 → b < 2 ^ 32 → (if t then a else b) < 2 ^ 32
number_by true a b h k = h
number_by false a b h k = k

least : (a b : ℕ) → min a b ≤ b
least a b = omega arith

after_small : (sign number : ℕ) → IsSmallList (list_after sign number)
after_small sign number = let most = least (number + 1) 4294967295 in omega (arith, most)

gutter_by : (t : Bool) (number : ℕ) → number < 2 ^ 32 → IsTypedGutter (if t then Number number else Bullet)
gutter_by true number h = h
gutter_by false number h = tt

numbered_is : (sign number : ℕ) (m : Mapping) → number < 2 ^ 32 → IsSound m → IsSound (numbered sign number m)
numbered_is sign number m k h = record {
  sections = h.sections;
  gutters = all_joined IsTypedGutter m.gutters (item_gutter sign number ∷ []) h.gutters (gutter_by (is_number sign) number k, tt);
  lists = all_joined IsSmallList (with_list m.lists (list_after sign number)) (no_list ∷ []) (lists_are m.lists (list_after sign number) h.lists (after_small sign number)) (none_small, tt);
}

begun_is : (container : Container) (m : Mapping) → IsSmallContainer container → IsSound m → IsSound (begun container m)
begun_is Quote m k h = record {
  sections = h.sections;
  gutters = all_joined IsTypedGutter m.gutters (Bar ∷ []) h.gutters (tt, tt);
  lists = all_joined IsSmallList (with_list m.lists no_list) (no_list ∷ []) (lists_are m.lists no_list h.lists none_small) (none_small, tt);
}
begun_is (Item sign number content) m k h =
    let list : Counted = last_list m.lists in
    numbered_is sign (number_in list sign number) m (number_by (list.sign == sign) list.next number (one_of IsSmallList m.lists (length m.lists - 1) no_list h.lists none_small) k) h

item_is : (m : Mapping) → IsSound m → IsSound (item_ended m)
item_is m h =
    let own : IsSound (with_section Words (empty_line Paragraph ∷ []) (spaced m.item_apart false m)) = with_is Words (empty_line Paragraph ∷ []) (spaced m.item_apart false m) empty_sound (spaced_is m.item_apart false m h) in
    record { sections = own.sections; gutters = own.gutters; lists = own.lists }

ended_by_is : (gutter : Option Gutter) (m : Mapping) → IsSound m → IsSound (ended_by gutter m)
ended_by_is None m h = h
ended_by_is (Some gutter) m h = if_sound (is_item gutter) (item_ended m) m (item_is m h) h

ended_is : (m : Mapping) → IsSound m → IsSound (ended m)
ended_is m h =
    let own : IsSound (ended_by (new_gutter m) m) = ended_by_is (new_gutter m) m h in
    record { sections = own.sections; gutters = take_all_of IsTypedGutter _ _ own.gutters; lists = take_all_of IsSmallList _ _ own.lists }

last_is : (gutter : Gutter) (m : Mapping) → IsTypedGutter gutter → IsSound m → IsSound (with_last gutter m)
last_is gutter m k h = record { sections = h.sections; gutters = all_joined IsTypedGutter (take (length m.gutters - 1) m.gutters) (gutter ∷ []) (take_all_of IsTypedGutter (length m.gutters - 1) m.gutters h.gutters) (k, tt); lists = h.lists }

-- ---- leaves

words_are : (defined : Defined) (bytes : List ℕ) → AreOwnLines (words defined bytes)
words_are defined bytes = leaf_is defined.labels (text_of bytes) (lossy_utf8 _)

words_is : (defined : Defined) (bytes : List ℕ) (m : Mapping) → IsSound m → IsSound (words_shown defined bytes m)
words_is defined bytes m h = put_is Words (words defined bytes) (addresses_in defined bytes) m (words_are defined bytes) h

task_is : (done : Option Bool) (defined : Defined) (bytes : List ℕ) (m : Mapping) → IsSound m → IsSound (task_by done defined bytes m)
task_is None defined bytes m h = words_is defined bytes m h
task_is (Some done) defined bytes m h = words_is defined (after_box bytes) (with_last (Task done) m) (last_is (Task done) m tt h)

word_clear : (alert : Alert) → IsClearText (alert_word alert)
unfolding lib.Utf8.encode
word_clear Note = (codes "NOTE", ((refl, refl), ((refl, refl), ((refl, refl), ((refl, refl), tt)))), refl)
word_clear Tip = (codes "TIP", ((refl, refl), ((refl, refl), ((refl, refl), tt))), refl)
word_clear Important = (codes "IMPORTANT", ((refl, refl), ((refl, refl), ((refl, refl), ((refl, refl), ((refl, refl), ((refl, refl), ((refl, refl), ((refl, refl), ((refl, refl), tt))))))))), refl)
word_clear Warning = (codes "WARNING", ((refl, refl), ((refl, refl), ((refl, refl), ((refl, refl), ((refl, refl), ((refl, refl), ((refl, refl), tt))))))), refl)
word_clear Caution = (codes "CAUTION", ((refl, refl), ((refl, refl), ((refl, refl), ((refl, refl), ((refl, refl), ((refl, refl), ((refl, refl), tt))))))), refl)

alert_is : (alert : Option Alert) (defined : Defined) (bytes : List ℕ) (m : Mapping) → IsSound m → IsSound (alert_by alert defined bytes m)
alert_is None defined bytes m h = words_is defined bytes m h
alert_is (Some alert) defined bytes m h =
    let rows : List LineContent = restyled Paragraph Paragraph (words defined (after_line bytes)) in
    let own : AreOwnLines rows = restyled_is Paragraph (words defined (after_line bytes)) tt (words_are defined (after_line bytes)) in
    put_is Words (alert_line alert ∷ rows) (addresses_in defined (after_line bytes)) (with_last (AlertBar alert) m)
    (record { style = tt; runs = (word_clear alert, tt) }, own)
    (last_is (AlertBar alert) m tt h)

paragraph_is : (gutter : Option Gutter) (defined : Defined) (bytes : List ℕ) (m : Mapping) → IsSound m → IsSound (paragraph_by gutter defined bytes m)
paragraph_is (Some Bullet) defined bytes m h = task_is (box_of bytes) defined bytes m h
paragraph_is (Some Bar) defined bytes m h = alert_is (alert_of bytes) defined bytes m h
paragraph_is (Some (Number number)) defined bytes m h = words_is defined bytes m h
paragraph_is (Some (Task done)) defined bytes m h = words_is defined bytes m h
paragraph_is (Some Code) defined bytes m h = words_is defined bytes m h
paragraph_is (Some (AlertBar alert)) defined bytes m h = words_is defined bytes m h
paragraph_is (Some (Signs level)) defined bytes m h = words_is defined bytes m h
paragraph_is (Some (Below level)) defined bytes m h = words_is defined bytes m h
paragraph_is None defined bytes m h = words_is defined bytes m h

marked_is : (marks : List MarkRun) (m : Mapping) → IsSound m → IsSound (with_marks marks m)
marked_is marks m h = record { sections = h.sections; gutters = h.gutters; lists = h.lists }

code_shown_is : (marks : List MarkRun) (lines : List Remaining) (m : Mapping) → IsSound m → IsSound (code_shown marks lines m)
code_shown_is marks lines m h =
    marked_is [] (put Boxed (code_lines 0 lines) [] (with_marks marks m)) (put_is Boxed (code_lines 0 lines) [] (with_marks marks m) (code_is 0 lines) (marked_is marks m h))

html_by_is : (words : Bool) (level : ℕ) (text : List ℕ) (m : Mapping) → IsUtf8 text → IsSound m → IsSound (html_by words level text m)
html_by_is true level text m utf8 h = put_is Words (html_lines text) (html_addresses text) m (html_is text utf8) h
html_by_is false level text m utf8 h =
    put_is Large (restyled (heading_style level) (heading_style level) (html_lines text)) (html_addresses text) m (restyled_is (heading_style level) (html_lines text) tt (html_is text utf8)) h

leaf_shown_is : (defined : Defined) (kind : Kind) (lines : List Remaining) (m : Mapping) → IsSound m → IsSound (leaf_shown defined kind lines m)
leaf_shown_is defined ParagraphKind lines m h = paragraph_is (new_gutter m) defined (joined [] lines) m h
leaf_shown_is defined Html lines m h = html_by_is (html_level (joined [] lines) == 0) (html_level (joined [] lines)) (html_text (joined [] lines)) m (lossy_utf8 _) h
leaf_shown_is defined (Heading level) lines m h =
    let rows : List LineContent = words defined (joined [] lines) in
    put_is Large (restyled (heading_style level) (heading_style level) rows) (addresses_in defined (joined [] lines)) m (restyled_is (heading_style level) rows tt (words_are defined (joined [] lines))) h
leaf_shown_is defined Indented lines m h = code_shown_is [] lines m h
leaf_shown_is defined Fenced lines m h = code_shown_is (fence_marks lines) (drop 1 lines) m h
leaf_shown_is defined (Table columns) lines m h =
    put_is Listed (table_lines defined.labels columns lines) (table_addresses defined columns lines) m (table_is defined.labels columns lines) h
leaf_shown_is defined Rule lines m h = put_is Large (horizontal_rule ∷ []) [] m (tt, tt) h
leaf_shown_is defined Nothing lines m h = h
leaf_shown_is defined Definitions lines m h = h

-- ---- parts

-- before the text
pub nothing_is : IsSound nothing_shown
nothing_is = record { sections = tt; gutters = tt; lists = (none_small, tt) }

-- a part is shown so
part_is : (defined : Defined) (part : PartContent) (m : Mapping) → IsSmallPart part → IsSound m → IsSound (shown_part defined part m)
unfolding shown_part
part_is defined (begins container apart) m k h = begun_is container (passed apart m) k (passed_is apart m h)
part_is defined ends m k h = ended_is m h
part_is defined (block leaf) m k h = leaf_shown_is defined leaf.kind leaf.lines (list_ended (passed leaf.apart m)) (ended_list_is (passed leaf.apart m) (passed_is leaf.apart m h))

-- so are parts
pub parts_are : (defined : Defined) (parts : List PartContent) (m : Mapping) → AreSmallParts parts → IsSound m → IsSound (shown_parts defined parts m)
unfolding shown_parts
parts_are defined [] m k h = h
parts_are defined (part ∷ parts) m k h = parts_are defined parts (shown_part defined part m) k.1 (part_is defined part m k.0 h)

-- ---- html leaf by leaf

rest_small : (leaves : List (List ℕ)) → AreSmallParts (map (html_leaf false) leaves)
rest_small [] = tt
rest_small (leaf ∷ leaves) = (tt, rest_small leaves)

html_small : (apart : Bool) (leaves : List (List ℕ)) → AreSmallParts (html_parts apart leaves)
html_small apart [] = tt
html_small apart (leaf ∷ leaves) = (tt, rest_small leaves)

block_leaves_small : (kind : Kind) (leaf : BlockContent) → AreSmallParts (leaves_by kind leaf)
block_leaves_small Html leaf = html_small leaf.apart (html_leaves (joined [] leaf.lines))
block_leaves_small ParagraphKind leaf = (tt, tt)
block_leaves_small (Heading level) leaf = (tt, tt)
block_leaves_small Indented leaf = (tt, tt)
block_leaves_small Fenced leaf = (tt, tt)
block_leaves_small (Table columns) leaf = (tt, tt)
block_leaves_small Rule leaf = (tt, tt)
block_leaves_small Nothing leaf = (tt, tt)
block_leaves_small Definitions leaf = (tt, tt)

-- the leaves of a part have the numbers that it has
pub leaves_small : (part : PartContent) → IsSmallPart part → AreSmallParts (leaves_in part)
leaves_small (begins container apart) h = (h, tt)
leaves_small ends h = (tt, tt)
leaves_small (block leaf) h = block_leaves_small leaf.kind leaf

-- ---- steady sections

abbrev is_fine : ℕ → Bool
is_fine c = not (is_obeyed c)

fine_range : (c : ℕ) → is_in_range 65 90 c ≡ true → is_fine c ≡ true
fine_range c h = grind (arith, nat_tests)

fine_syllable : (c : ℕ) → is_in_range 0xAC00 0xD7A3 c ≡ true → is_fine c ≡ true
fine_syllable c h = grind (arith, nat_tests)

made_fine : PassesWhatIsMade is_fine
made_fine = record { replacement = refl; khan = refl; lo = refl; letters = fine_range; syllables = fine_syllable }

not_obeyed : (b : Bool) → not b ≡ true → b ≡ false
not_obeyed false h = refl
not_obeyed true h = absurd (cc)

-- the characters of a clear text
clear_chars : (text : List ℕ) (h : IsClearText text) → chars text ≡ h.0
clear_chars text h = ap chars (sym h.2) ∙ chars-encodes h.0 (to_scalars h.0 (all_each IsClear IsScalar (λ c clear. clear.0) h.0 h.1))

-- it is UTF-8
pub clear_utf8 : (text : List ℕ) → IsClearText text → IsUtf8 text
clear_utf8 text h = (h.0, (to_scalars h.0 (all_each IsClear IsScalar (λ c clear. clear.0) h.0 h.1), h.2))

fine_all : (cs : List ℕ) → AreClear cs → list_all is_fine cs ≡ true
fine_all [] h = refl
fine_all (c ∷ cs) h = and_from (is_fine c) (list_all is_fine cs) (ap not h.0.1) (fine_all cs h.1)

clear_all : (cs : List ℕ) → scalars cs ≡ true → list_all is_fine cs ≡ true → AreClear cs
clear_all [] h k = tt
clear_all (c ∷ cs) h k =
    let own = and_parts (scalar c) (scalars cs) h in
    let fine = and_parts (is_fine c) (list_all is_fine cs) k in
    ((own.0, not_obeyed (is_obeyed c) fine.0), clear_all cs own.1 fine.1)

-- a clear text that is made steady
run_steady : (run : Run) → IsClearText run.text → IsClearText (steady_run run).text
run_steady run h =
    let utf8 : IsUtf8 run.text = clear_utf8 run.text h in
    let made : List ℕ = steady_text (chars run.text) in
    let fine : list_all is_fine (chars run.text) ≡ true = ap (list_all is_fine) (clear_chars run.text h) ∙ fine_all h.0 h.1 in
    let kept : list_all is_fine made ≡ true = ap (list_all is_fine) (sym (read_again run.text (steady_run run).text utf8 refl)) ∙ bytes_pass is_fine made_fine run.text (steady_run run).text utf8 refl fine in
    (made, clear_all made (steady_is Opened (chars run.text) refl (scalars-chars run.text utf8)) kept, refl)

record AreSteadyTexts (runs : List Run) : Type 0 where
  texts : AreTexts runs
  steady : AreSteadyRuns runs

runs_are : (runs : List Run) → AreTexts runs → AreSteadyTexts (map steady_run runs)
runs_are [] h = record { texts = tt; steady = tt }
runs_are (run ∷ runs) h =
    let rest : AreSteadyTexts (map steady_run runs) = runs_are runs h.1 in
    record { texts = (run_steady run h.0, rest.texts); steady = (bytes_steady run.text (steady_run run).text (clear_utf8 run.text h.0) refl, rest.steady) }

record AreSteadyCells (cells : List StyledRuns) : Type 0 where
  own : AllByRecursion IsOwnCell cells
  steady : AllByRecursion IsSteadyCell cells

cells_are : (cells : List StyledRuns) → AllByRecursion IsOwnCell cells → AreSteadyCells (map steady_runs cells)
cells_are [] h = record { own = tt; steady = tt }
cells_are (cell ∷ cells) h =
    let rest : AreSteadyCells (map steady_runs cells) = cells_are cells h.1 in
    let first : AreSteadyTexts (map steady_run cell.runs) = runs_are cell.runs h.0.runs in
    record { own = (record { style = h.0.style; runs = first.texts }, rest.own); steady = (first.steady, rest.steady) }

record IsSteadied (line : LineContent) : Type 0 where
  own : IsOwnLine line
  steady : IsSteadyLine line

line_is : (line : LineContent) → IsOwnLine line → IsSteadied (steady_line line)
line_is (normal text) h = let runs : AreSteadyTexts (map steady_run text.runs) = runs_are text.runs h.runs in record { own = record { style = h.style; runs = runs.texts }; steady = runs.steady }
line_is (table_row cells) h = let all : AreSteadyCells (map steady_runs cells) = cells_are cells h in record { own = all.own; steady = all.steady }
line_is (table_rule aligns) h = record { own = tt; steady = tt }
line_is horizontal_rule h = record { own = tt; steady = tt }

lines_are : (lines : List LineContent) → AreOwnLines lines → AreOwnLines (steady_lines lines) × AreSteadyLines (steady_lines lines)
unfolding steady_lines AreSteadyLines
lines_are [] h = (tt, tt)
lines_are (line ∷ lines) h =
    let rest = lines_are lines h.1 in
    let first : IsSteadied (steady_line line) = line_is line h.0 in
    ((first.own, rest.0), (first.steady, rest.1))

-- sections that are made steady are sound, and steady
pub sections_are : (sections : List SectionContent) → AreSoundSections sections → AreSoundSections (steady_sections sections) × AreSteadySections (steady_sections sections)
unfolding AreSteadySections
sections_are [] h = (tt, tt)
sections_are (s ∷ sections) h =
    let rest = sections_are sections h.1 in
    let lines = lines_are s.lines h.0.lines in
    ((record { gutters = h.0.gutters; list = h.0.list; lines = lines.0 }, rest.0), (lines.1, rest.1))

-- ---- what is said of sound sections

none_pass : (cs : List ℕ) → AreClear cs → NonePass is_obeyed cs
none_pass [] h = tt
none_pass (c ∷ cs) h = (h.0.1, none_pass cs h.1)

runs_printed : (runs : List Run) → AreTexts runs → AllByRecursion IsPrintedRun runs
runs_printed [] h = tt
runs_printed (run ∷ runs) h = ((h.0.0, h.0.2, none_pass h.0.0 h.0.1), runs_printed runs h.1)

cells_printed : (cells : List StyledRuns) → AllByRecursion IsOwnCell cells → AllByRecursion IsPrintedCell cells
cells_printed [] h = tt
cells_printed (cell ∷ cells) h = (runs_printed cell.runs h.0.runs, cells_printed cells h.1)

line_printed : (line : LineContent) → IsOwnLine line → IsPrintedLine line
line_printed (normal text) h = runs_printed text.runs h.runs
line_printed (table_row cells) h = cells_printed cells h
line_printed (table_rule aligns) h = tt
line_printed horizontal_rule h = tt

lines_printed : (lines : List LineContent) → AreOwnLines lines → ArePrinted lines
unfolding ArePrinted
lines_printed [] h = tt
lines_printed (line ∷ lines) h = (line_printed line h.0, lines_printed lines h.1)

-- no character of theirs is obeyed
pub printed_are : (sections : List SectionContent) → AreSoundSections sections → ArePrintedSections sections
unfolding ArePrintedSections
printed_are [] h = tt
printed_are (s ∷ sections) h = (lines_printed s.lines h.0.lines, printed_are sections h.1)

cells_plain : (cells : List StyledRuns) → AllByRecursion IsOwnCell cells → AllByRecursion (λ (cell : StyledRuns). cell.style ≡ Paragraph) cells
cells_plain [] h = tt
cells_plain (cell ∷ cells) h = (h.0.style, cells_plain cells h.1)

line_plain : (line : LineContent) → IsOwnLine line → IsPlainLine line
line_plain (normal text) h = h.style
line_plain (table_row cells) h = cells_plain cells h
line_plain (table_rule aligns) h = tt
line_plain horizontal_rule h = tt

lines_plain : (lines : List LineContent) → AreOwnLines lines → ArePlainLines lines
lines_plain [] h = tt
lines_plain (line ∷ lines) h = (line_plain line h.0, lines_plain lines h.1)

-- their lines have no sign of their own
pub plain_are : (sections : List SectionContent) → AreSoundSections sections → ArePlainSections sections
plain_are [] h = tt
plain_are (s ∷ sections) h = (lines_plain s.lines h.0.lines, plain_are sections h.1)
