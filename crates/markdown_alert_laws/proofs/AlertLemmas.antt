-- The first row behind the bar of an alert is its word: no gutter of which nothing is shown yet is an alert's bar, and the section that makes one says its word.
use Rattle.std.proofs.Common.{◌≡◌, ℕ, zero, suc, ◌+◌, ◌-◌, ◌<◌, ◌≤◌, min, Bool, true, false, ◌==◌, List, [], ◌∷◌, ◌++◌, length, take, drop, Option, Some, None, refl, sym, ap, subst, ◌∙◌, arith, lit<, length-append, if◌then◌else◌}
use Rattle.std.specs.List.{AllByRecursion, flat_map}
use Rattle.std.specs.Prelude.{encode_utf8_all}
use Rattle.std.specs.Str.{IsAscii}
use Rattle.std.proofs.lemmas.Str.{chars-IsAscii}
use Rattle.std.proofs.lemmas.Str.Ascii.{IsAscii-cons, IsAscii-nil}
use Rattle.mad_steady.specs.Steady.{steady_text}
use Rattle.unicode_width.specs.Width.{char_width}
use Rattle.mad_characters.specs.Columns.{char_columns}
use Rattle.mad_steady.specs.Kinds.{kind, other_kind}
use Rattle.std.proofs.lemmas.Bool.Decides.{nat_tests}
use Rattle.markdown_marks.specs.Remaining.{Remaining}
use Rattle.markdown_blocks.specs.declared.containers.Container.{Container}
use Rattle.markdown_blocks.specs.declared.containers.Container.TheVariants.{Quote, Item}
use Rattle.markdown_leaves.specs.Defining.{joined}
use Rattle.markdown_leaves.specs.Parts.{PartContent, begins, ends, block}
use Rattle.markdown_leaves.specs.Told.{parts_of}
use Rattle.markdown_leaves.specs.declared.parts.Kind.{Kind}
use Rattle.markdown_leaves.specs.declared.parts.Kind.TheVariants.{Nothing, Paragraph as ParagraphKind, Heading, Indented, Fenced, Html, Table, Rule, Definitions}
use Rattle.mad_md.specs.Lines.{LineContent, normal, horizontal_rule}
use Rattle.mad_md.specs.declared.composite.CompositeStyle.TheVariants.{Paragraph}
use Rattle.mad_mark_runs.specs.declared.mark_runs.MarkRun.{MarkRun}
use Rattle.mad_sections.specs.Sections.{SectionContent}
use Rattle.mad_sections.specs.declared.gutters.Alert.{Alert}
use Rattle.mad_sections.specs.declared.gutters.Alert.TheVariants.{Note, Tip, Important, Warning, Caution}
use Rattle.mad_sections.specs.declared.gutters.Gutter.{Gutter}
use Rattle.mad_sections.specs.declared.gutters.Gutter.TheVariants.{Bar, AlertBar, Bullet, Number, Task, Code, Signs, Below}
use Rattle.markdown_html_text.specs.HtmlLeaves.{html_level}
use Rattle.markdown_lines.specs.Code.{code_lines}
use Rattle.markdown_lines.specs.Leaf.{html_lines}
use Rattle.markdown_lines.specs.Links.{html_addresses, Defined}
use Rattle.markdown_lines.specs.Restyled.{restyled, empty_line}
use Rattle.markdown_lines.specs.Steady.{steady_line, steady_lines}
use Rattle.markdown_lines.specs.Tables.{table_lines}
use Rattle.markdown_lines.specs.Texts.{behind_mark}
use Rattle.markdown_definitions.specs.Definitions.{definitions_of}
use Rattle.markdown_gutters.specs.Forms.{is_big}
use Rattle.markdown_gutters.specs.Lists.{is_number, item_gutter, is_item, number_in, last_list}
use Rattle.markdown_gutters.specs.Signs.{after_box, box_of, after_line, alert_of, alert_word}
use Rattle.markdown_gutters.specs.declared.forms.Form.{Form}
use Rattle.markdown_gutters.specs.declared.forms.Form.TheVariants.{Words, Large, Listed, Boxed}
use Rattle.markdown_tones.specs.Fences.{fence_marks}
use Rattle.markdown_reader.specs.Mapping.{html_text, html_by, leaves_in, Mapping, nothing_shown, new_gutter, with_last, is_spaced, spaced, blank_row, section_of, added, put, passed, list_ended, begun, nothing_since, with_section, item_ended, ended_by, closed, words, addresses_in, task_by, alert_line, alert_by, bold, paragraph_by, heading_style, table_addresses, leaf_shown, shown_part, shown_parts, with_marks, code_shown}
use Rattle.markdown_reader.specs.Markdown.{printable_sections, steady_sections}
use Rattle.markdown_alert_laws.specs.Alerts.{AlertsSayTheirWord, BeginsWithWord, SaysItsAlert, word_line}

by_bool : (P : Bool → Type 0) (b : Bool) → (b ≡ true → P true) → (b ≡ false → P false) → P b
by_bool P true on off = on refl
by_bool P false on off = off refl

-- ---- gutters

-- the gutter is no bar of an alert
abbrev IsNoAlert : Gutter → Type 0
IsNoAlert (AlertBar alert) = ⊥
IsNoAlert gutter = Unit {0}

-- so it is with each of these
abbrev AreNoAlerts : List Gutter → Type 0
AreNoAlerts gutters = AllByRecursion IsNoAlert gutters

none_dropped : (n : ℕ) → AreNoAlerts (drop n [])
none_dropped zero = tt
none_dropped (suc n) = tt

all_dropped : (gutters : List Gutter) → AreNoAlerts (drop (length gutters) gutters)
all_dropped [] = tt
all_dropped (g ∷ gutters) = all_dropped gutters

one_more : (n : ℕ) (gutters : List Gutter) (g : Gutter) → IsNoAlert g → AreNoAlerts (drop n gutters) → AreNoAlerts (drop n (gutters ++ g ∷ []))
one_more zero [] g k h = (k, tt)
one_more zero (x ∷ gutters) g k h = (h.0, one_more zero gutters g k h.1)
one_more (suc n) [] g k h = none_dropped n
one_more (suc n) (x ∷ gutters) g k h = one_more n gutters g k h

fewer : (n k m : ℕ) (gutters : List Gutter) → AreNoAlerts (drop n gutters) → m ≡ min n k → AreNoAlerts (drop m (take k gutters))
fewer n zero m gutters h e = none_dropped m
fewer n (suc k) m [] h e = none_dropped m
fewer zero (suc k) zero (x ∷ gutters) h e = (h.0, fewer zero k zero gutters h.1 (omega arith))
fewer zero (suc k) (suc m) (x ∷ gutters) h e = absurd (omega (arith, e))
fewer (suc n) (suc k) zero (x ∷ gutters) h e = absurd (omega (arith, e))
fewer (suc n) (suc k) (suc m) (x ∷ gutters) h e = fewer n k m gutters h (omega (arith, e))

replaced : (n k : ℕ) (gutters : List Gutter) (g : Gutter) → IsNoAlert g → AreNoAlerts (drop n gutters) → AreNoAlerts (drop n (take k gutters ++ g ∷ []))
replaced zero zero gutters g k h = (k, tt)
replaced zero (suc j) [] g k h = (k, tt)
replaced zero (suc j) (x ∷ gutters) g k h = (h.0, replaced zero j gutters g k h.1)
replaced (suc n) zero gutters g k h = none_dropped n
replaced (suc n) (suc j) [] g k h = none_dropped n
replaced (suc n) (suc j) (x ∷ gutters) g k h = replaced n j gutters g k h

-- a gutter behind the first n is none
any_of : (n : ℕ) (outer : List Gutter) (g : Gutter) (inner : List Gutter) → n ≤ length outer → AreNoAlerts (drop n (outer ++ g ∷ inner)) → IsNoAlert g
any_of zero [] g inner e h = h.0
any_of zero (x ∷ outer) g inner e h = any_of zero outer g inner (omega arith) h.1
any_of (suc n) [] g inner e h = absurd (omega (arith, e))
any_of (suc n) (x ∷ outer) g inner e h = any_of n outer g inner (omega (arith, e)) h

same_tails : (a b : Gutter) (xs ys : List Gutter) → a ∷ xs ≡ b ∷ ys → xs ≡ ys
same_tails a b xs ys e = cc

same_heads : (a b : Gutter) (xs ys : List Gutter) → a ∷ xs ≡ b ∷ ys → a ≡ b
same_heads a b xs ys e = cc

no_end : (x : Gutter) (ys inner : List Gutter) (y : Gutter) → [] ≡ ys ++ y ∷ inner → ⊥
no_end x ys inner y e = omega (arith, ap length e, length-append ys (y ∷ inner))

-- a gutter of a list is its last one, or stands before it
data IsAmong (xs : List Gutter) (x : Gutter) (ys : List Gutter) (y : Gutter) (inner : List Gutter) : Type 0 where
  last : inner ≡ [] → x ≡ y → IsAmong xs x ys y inner
  before : (more : List Gutter) → xs ≡ ys ++ y ∷ more → IsAmong xs x ys y inner

among : (xs : List Gutter) (x : Gutter) (ys : List Gutter) (y : Gutter) (inner : List Gutter) → xs ++ x ∷ [] ≡ ys ++ y ∷ inner → IsAmong xs x ys y inner
among [] x [] y inner e = last (sym (same_tails x y [] inner e)) (same_heads x y [] inner e)
among [] x (b ∷ ys) y inner e = absurd (no_end x ys inner y (same_tails x b [] (ys ++ y ∷ inner) e))
among (a ∷ xs) x [] y inner e = before xs (ap (λ (g : Gutter). g ∷ xs) (same_heads a y (xs ++ x ∷ []) inner e))
among (a ∷ xs) x (b ∷ ys) y inner e = deeper (among xs x ys y inner (same_tails a b (xs ++ x ∷ []) (ys ++ y ∷ inner) e))
  where
    deeper : IsAmong xs x ys y inner → IsAmong (a ∷ xs) x (b ∷ ys) y inner
    deeper (last f g) = last f g
    deeper (before more f) = before more (ap (λ (g : Gutter). g ∷ xs) (same_heads a b (xs ++ x ∷ []) (ys ++ y ∷ inner) e) ∙ ap (λ (gs : List Gutter). b ∷ gs) f)

-- ---- sections

-- what is known between two parts: each section says its alert, and no gutter of which nothing is shown is the bar of one
record Knows (m : Mapping) : Type 0 where
  said : AllByRecursion SaysItsAlert m.sections
  none : AreNoAlerts (drop m.seen m.gutters)

joined_said : (xs ys : List SectionContent) → AllByRecursion SaysItsAlert xs → AllByRecursion SaysItsAlert ys → AllByRecursion SaysItsAlert (xs ++ ys)
joined_said [] ys h k = k
joined_said (x ∷ xs) ys h k = (h.0, joined_said xs ys h.1 k)

blank_says : (m : Mapping) → SaysItsAlert (blank_row m)
blank_says m outer inner alert e f = absurd (omega (arith, f))

-- a bar of an alert that begins with the section is among the new gutters
no_alert : (seen : ℕ) (gutters : List Gutter) → AreNoAlerts (drop seen gutters) → (outer inner : List Gutter) (alert : Alert) → gutters ≡ outer ++ AlertBar alert ∷ inner → length inner < length gutters - seen → ⊥
no_alert seen gutters none outer inner alert e f =
    let long : length gutters ≡ length outer + suc (length inner) = ap length e ∙ length-append outer (AlertBar alert ∷ inner) in
    any_of seen outer (AlertBar alert) inner (omega (arith, long, f)) (subst (λ (gs : List Gutter). AreNoAlerts (drop seen gs)) e none)

-- where no new gutter is an alert's bar, the next section begins with none
plain_says : (form : Form) (lines : List LineContent) (m : Mapping) → AreNoAlerts (drop m.seen m.gutters) → SaysItsAlert (section_of form lines m)
plain_says Words lines m none outer inner alert e f = absurd (no_alert m.seen m.gutters none outer inner alert e f)
plain_says Large lines m none outer inner alert e f = absurd (no_alert m.seen m.gutters none outer inner alert e f)
plain_says Listed lines m none outer inner alert e f = absurd (no_alert m.seen m.gutters none outer inner alert e f)
plain_says Boxed lines m none outer inner alert e f = absurd (no_alert m.seen (m.gutters ++ Code ∷ []) (one_more m.seen m.gutters Code tt none) outer inner alert e f)

said_word : (alert : Alert) → alert_line alert ≡ word_line alert
said_word Note = refl
said_word Tip = refl
said_word Important = refl
said_word Warning = refl
said_word Caution = refl

-- a section whose last gutter is this alert's bar says its word
word_says : (alert : Alert) (lines : List LineContent) (m : Mapping) → AreNoAlerts (drop m.seen m.gutters) → SaysItsAlert (section_of Words (alert_line alert ∷ lines) (with_last (AlertBar alert) m))
word_says alert lines m none outer inner other e f = by_place (among front (AlertBar alert) outer (AlertBar other) inner e)
  where
    k : ℕ
    k = length m.gutters - 1

    front : List Gutter
    front = take k m.gutters

    same_alert : (one two : Alert) → AlertBar one ≡ AlertBar two → one ≡ two
    same_alert one two g = cc

    by_place : IsAmong front (AlertBar alert) outer (AlertBar other) inner → (inner ≡ []) × (alert_line alert ≡ word_line other)
    by_place (last h g) = (h, said_word alert ∙ ap word_line (same_alert alert other g))
    by_place (before more g) =
        let n : ℕ = min m.seen k in
        let long : length (front ++ AlertBar alert ∷ []) ≡ length outer + suc (length inner) = ap length e ∙ length-append outer (AlertBar other ∷ inner) in
        absurd (any_of n outer (AlertBar other) more (omega (arith, long, f)) (subst (λ (gs : List Gutter). AreNoAlerts (drop n gs)) g (fewer m.seen k n m.gutters none refl)))

-- ---- what is shown

-- the mapping after lines are added, and maybe a blank row before them
abbrev with_lines : Form → Bool → List LineContent → Mapping → Mapping
with_lines form t lines m = with_section form lines (if t then record m { sections = m.sections ++ blank_row m ∷ [] } else m)

lines_know : (form : Form) (t : Bool) (lines : List LineContent) (m : Mapping) → AllByRecursion SaysItsAlert m.sections → SaysItsAlert (section_of form lines m) → Knows (with_lines form t lines m)
lines_know form true lines m h says =
    record { said = joined_said (m.sections ++ blank_row m ∷ []) (section_of form lines m ∷ []) (joined_said m.sections (blank_row m ∷ []) h (blank_says m, tt)) (says, tt); none = all_dropped m.gutters }
lines_know form false lines m h says = record { said = joined_said m.sections (section_of form lines m ∷ []) h (says, tt); none = all_dropped m.gutters }

record SameAs (m n : Mapping) : Type 0 where
  sections : m.sections ≡ n.sections
  gutters : m.gutters ≡ n.gutters
  seen : m.seen ≡ n.seen

-- what is known doesn't depend on the other fields
knows_as : (m n : Mapping) → Knows n → SameAs m n → Knows m
knows_as m n h e =
    record {
      said = subst (AllByRecursion SaysItsAlert) (sym e.sections) h.said;
      none = subst (λ (gs : List Gutter). AreNoAlerts (drop m.seen gs)) (sym e.gutters) (subst (λ (k : ℕ). AreNoAlerts (drop k n.gutters)) (sym e.seen) h.none);
    }

added_same : (form : Form) (t : Bool) (lines : List LineContent) (addresses : List (List ℕ)) (m : Mapping) → SameAs (added form lines addresses (if t then record m { sections = m.sections ++ blank_row m ∷ [] } else m)) (with_lines form t lines m)
added_same form true lines addresses m = record { sections = refl; gutters = refl; seen = refl }
added_same form false lines addresses m = record { sections = refl; gutters = refl; seen = refl }

added_knows : (form : Form) (lines : List LineContent) (addresses : List (List ℕ)) (m : Mapping) → AllByRecursion SaysItsAlert m.sections → SaysItsAlert (section_of form lines m)
    → Knows (added form lines addresses (spaced m.apart (is_big form) m))
added_knows form lines addresses m h says =
    let t : Bool = is_spaced m.apart (is_big form) m in
    knows_as _ (with_lines form t lines m) (lines_know form t lines m h says) (added_same form t lines addresses m)

put_knows : (form : Form) (lines : List LineContent) (addresses : List (List ℕ)) (m : Mapping) → Knows m → Knows (put form lines addresses m)
put_knows form lines addresses m h =
    by_bool (λ t. Knows (if t then m else added form lines addresses (spaced m.apart (is_big form) m))) (length lines == 0) (λ none. h)
    (λ some. added_knows form lines addresses m h.said (plain_says form lines m h.none))

-- ---- containers

ended_same : (t : Bool) (m : Mapping) → SameAs (nothing_since (with_section Words (empty_line Paragraph ∷ []) (if t then record m { sections = m.sections ++ blank_row m ∷ [] } else m))) (with_lines Words t (empty_line Paragraph ∷ []) m)
ended_same true m = record { sections = refl; gutters = refl; seen = refl }
ended_same false m = record { sections = refl; gutters = refl; seen = refl }

item_knows : (m : Mapping) → Knows m → Knows (item_ended m)
item_knows m h =
    let t : Bool = is_spaced m.item_apart false m in
    let lines : List LineContent = empty_line Paragraph ∷ [] in
    knows_as _ (with_lines Words t lines m) (lines_know Words t lines m h.said (plain_says Words lines m h.none)) (ended_same t m)

ends_know : (gutter : Option Gutter) (m : Mapping) → Knows m → Knows (ended_by gutter m)
ends_know None m h = h
ends_know (Some gutter) m h = by_bool (λ t. Knows (if t then item_ended m else m)) (is_item gutter) (λ item. item_knows m h) (λ bar. h)

closed_knows : (m : Mapping) → Knows m → Knows (closed m)
closed_knows m h = record { said = h.said; none = fewer m.seen (length m.gutters - 1) (min m.seen (length m.gutters - 1)) m.gutters h.none refl }

begun_knows : (container : Container) (m : Mapping) → Knows m → Knows (begun container m)
begun_knows Quote m h = record { said = h.said; none = one_more m.seen m.gutters Bar tt h.none }
begun_knows (Item sign number content) m h =
    let n : ℕ = number_in (last_list m.lists) sign number in
    record {
      said = h.said;
      none = one_more m.seen m.gutters (item_gutter sign n) (by_bool (λ t. IsNoAlert (if t then Number n else Bullet)) (is_number sign) (λ on. tt) (λ off. tt)) h.none;
    }

-- ---- leaves

task_knows : (done : Option Bool) (defined : Defined) (bytes : List ℕ) (m : Mapping) → Knows m → Knows (task_by done defined bytes m)
task_knows None defined bytes m h = put_knows Words (words defined bytes) (addresses_in defined bytes) m h
task_knows (Some done) defined bytes m h =
    let boxed : Knows (with_last (Task done) m) = record { said = h.said; none = replaced m.seen (length m.gutters - 1) m.gutters (Task done) tt h.none } in
    put_knows Words (words defined (after_box bytes)) (addresses_in defined (after_box bytes)) (with_last (Task done) m) boxed

alert_knows : (alert : Option Alert) (defined : Defined) (bytes : List ℕ) (m : Mapping) → Knows m → Knows (alert_by alert defined bytes m)
alert_knows None defined bytes m h = put_knows Words (words defined bytes) (addresses_in defined bytes) m h
alert_knows (Some alert) defined bytes m h =
    let more : List LineContent = restyled Paragraph Paragraph (words defined (after_line bytes)) in
    let barred : Mapping = with_last (AlertBar alert) m in
    let lines : List LineContent = alert_line alert ∷ more in
    let addresses : List (List ℕ) = addresses_in defined (after_line bytes) in
    by_bool (λ t. (length lines == 0) ≡ t → Knows (if t then barred else added Words lines addresses (spaced barred.apart (is_big Words) barred))) (length lines == 0)
    (λ none e. absurd (some (length more) none)) (λ some e. added_knows Words lines addresses barred h.said (word_says alert more m h.none)) refl
  where
    some : (n : ℕ) → (suc n == 0) ≡ true → ⊥
    some n e = grind (arith, nat_tests, e)

paragraph_knows : (gutter : Option Gutter) (defined : Defined) (bytes : List ℕ) (m : Mapping) → Knows m → Knows (paragraph_by gutter defined bytes m)
paragraph_knows (Some Bullet) defined bytes m h = task_knows (box_of bytes) defined bytes m h
paragraph_knows (Some Bar) defined bytes m h = alert_knows (alert_of bytes) defined bytes m h
paragraph_knows (Some (Number number)) defined bytes m h = put_knows Words (words defined bytes) (addresses_in defined bytes) m h
paragraph_knows (Some (Task done)) defined bytes m h = put_knows Words (words defined bytes) (addresses_in defined bytes) m h
paragraph_knows (Some Code) defined bytes m h = put_knows Words (words defined bytes) (addresses_in defined bytes) m h
paragraph_knows (Some (AlertBar alert)) defined bytes m h = put_knows Words (words defined bytes) (addresses_in defined bytes) m h
paragraph_knows (Some (Signs level)) defined bytes m h = put_knows Words (words defined bytes) (addresses_in defined bytes) m h
paragraph_knows (Some (Below level)) defined bytes m h = put_knows Words (words defined bytes) (addresses_in defined bytes) m h
paragraph_knows None defined bytes m h = put_knows Words (words defined bytes) (addresses_in defined bytes) m h

code_knows : (marks : List MarkRun) (lines : List Remaining) (m : Mapping) → Knows m → Knows (code_shown marks lines m)
code_knows marks lines m h =
    let marked : Knows (with_marks marks m) = record { said = h.said; none = h.none } in
    let k = put_knows Boxed (code_lines 0 lines) [] (with_marks marks m) marked in
    record { said = k.said; none = k.none }

html_knows : (plain : Bool) (level : ℕ) (text : List ℕ) (m : Mapping) → Knows m → Knows (html_by plain level text m)
html_knows true level text m h = put_knows Words (html_lines text) (html_addresses text) m h
html_knows false level text m h = put_knows Large (restyled (heading_style level) (heading_style level) (html_lines text)) (html_addresses text) m h

leaf_knows : (defined : Defined) (kind : Kind) (lines : List Remaining) (m : Mapping) → Knows m → Knows (leaf_shown defined kind lines m)
leaf_knows defined ParagraphKind lines m h = paragraph_knows (new_gutter m) defined (joined [] lines) m h
leaf_knows defined Html lines m h = html_knows (html_level (joined [] lines) == 0) (html_level (joined [] lines)) (html_text (joined [] lines)) m h
leaf_knows defined (Heading level) lines m h =
    put_knows Large (restyled (heading_style level) (heading_style level) (words defined (joined [] lines))) (addresses_in defined (joined [] lines)) m h
leaf_knows defined Indented lines m h = code_knows [] lines m h
leaf_knows defined Fenced lines m h = code_knows (fence_marks lines) (drop 1 lines) m h
leaf_knows defined (Table columns) lines m h = put_knows Listed (table_lines defined.labels columns lines) (table_addresses defined columns lines) m h
leaf_knows defined Rule lines m h = put_knows Large (horizontal_rule ∷ []) [] m h
leaf_knows defined Nothing lines m h = h
leaf_knows defined Definitions lines m h = h

-- ---- parts

part_knows : (defined : Defined) (part : PartContent) (m : Mapping) → Knows m → Knows (shown_part defined part m)
unfolding shown_part
part_knows defined (begins container apart) m h = begun_knows container (passed apart m) (record { said = h.said; none = h.none })
part_knows defined ends m h = closed_knows (ended_by (new_gutter m) m) (ends_know (new_gutter m) m h)
part_knows defined (block leaf) m h = leaf_knows defined leaf.kind leaf.lines (list_ended (passed leaf.apart m)) (record { said = h.said; none = h.none })

parts_know : (defined : Defined) (parts : List PartContent) (m : Mapping) → Knows m → Knows (shown_parts defined parts m)
unfolding shown_parts
parts_know defined [] m h = h
parts_know defined (part ∷ parts) m h = parts_know defined parts (shown_part defined part m) (part_knows defined part m h)

-- ---- the law

-- ---- the words are steady

small_ascii : (bs : List ℕ) → AllByRecursion (λ b. b < 128) bs → IsAscii bs
small_ascii [] h = IsAscii-nil
small_ascii (b ∷ bs) h = IsAscii-cons b bs h.0 (small_ascii bs h.1)

word_ascii : (alert : Alert) → IsAscii (alert_word alert)
word_ascii Note = small_ascii (alert_word Note) (lit< tt, (lit< tt, (lit< tt, (lit< tt, tt))))
word_ascii Tip = small_ascii (alert_word Tip) (lit< tt, (lit< tt, (lit< tt, tt)))
word_ascii Important = small_ascii (alert_word Important) (lit< tt, (lit< tt, (lit< tt, (lit< tt, (lit< tt, (lit< tt, (lit< tt, (lit< tt, (lit< tt, tt)))))))))
word_ascii Warning = small_ascii (alert_word Warning) (lit< tt, (lit< tt, (lit< tt, (lit< tt, (lit< tt, (lit< tt, (lit< tt, tt)))))))
word_ascii Caution = small_ascii (alert_word Caution) (lit< tt, (lit< tt, (lit< tt, (lit< tt, (lit< tt, (lit< tt, (lit< tt, tt)))))))

word_stays : (alert : Alert) → encode_utf8_all (steady_text (alert_word alert)) ≡ alert_word alert
unfolding kind other_kind char_columns char_width lib.Utf8.encode
word_stays Note = refl
word_stays Tip = refl
word_stays Important = refl
word_stays Warning = refl
word_stays Caution = refl

word_is_steady : (alert : Alert) → steady_line (alert_line alert) ≡ alert_line alert
word_is_steady alert =
    ap (λ (text : List ℕ). normal (record { style = Paragraph; runs = record { flags = bold; text = text } ∷ [] }))
    (ap (λ (cs : List ℕ). encode_utf8_all (steady_text cs)) (chars-IsAscii (alert_word alert) (word_ascii alert)) ∙ word_stays alert)

first_steady : (alert : Alert) (lines : List LineContent) → BeginsWithWord alert lines → BeginsWithWord alert (steady_lines lines)
unfolding steady_lines
first_steady alert [] h = h
first_steady alert (line ∷ lines) h = ap steady_line (h ∙ sym (said_word alert)) ∙ word_is_steady alert ∙ said_word alert

all_steady : (sections : List SectionContent) → AllByRecursion SaysItsAlert sections → AllByRecursion SaysItsAlert (steady_sections sections)
all_steady [] h = tt
all_steady (s ∷ sections) h = ((λ outer inner alert e f. let said = h.0 outer inner alert e f in (said.0, first_steady alert s.lines said.1)), all_steady sections h.1)

printable_said : (source : List ℕ) → AllByRecursion SaysItsAlert (printable_sections source)
unfolding printable_sections
printable_said source = (parts_know (definitions_of (parts_of source)) (flat_map leaves_in (parts_of source)) nothing_shown (record { said = tt; none = tt })).said

-- THE LAW
pub alerts_said : AlertsSayTheirWord
alerts_said source = all_steady (printable_sections (behind_mark source)) (printable_said (behind_mark source))
