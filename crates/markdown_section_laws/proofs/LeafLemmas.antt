-- Each leaf of a text is shown: what a part adds to the sections so far.
use Rattle.std.proofs.Common.{◌≡◌, ℕ, suc, Bool, true, false, ◌==◌, List, [], ◌∷◌, ◌++◌, length, drop, Option, Some, None, refl, sym, ap, ◌∙◌, append_assoc, if◌then◌else◌, ◌⊎◌, inl, inr, arith}
use Rattle.std.specs.List.{flat_map}
use Rattle.std.proofs.lemmas.List.{append-nil}
use Rattle.std.proofs.lemmas.Bool.Decides.{nat_tests}
use Rattle.markdown_marks.specs.Remaining.{Remaining}
use Rattle.markdown_blocks.specs.declared.containers.Container.{Container}
use Rattle.markdown_blocks.specs.declared.containers.Container.TheVariants.{Quote, Item}
use Rattle.markdown_leaves.specs.Defining.{joined}
use Rattle.markdown_leaves.specs.Parts.{PartContent, begins, ends, block}
use Rattle.markdown_leaves.specs.Told.{parts_of}
use Rattle.markdown_leaves.specs.declared.parts.Kind.{Kind}
use Rattle.markdown_leaves.specs.declared.parts.Kind.TheVariants.{Nothing, Paragraph as ParagraphKind, Heading, Indented, Fenced, Html, Table, Rule, Definitions}
use Rattle.mad_md.specs.Lines.{LineContent, horizontal_rule}
use Rattle.mad_md.specs.declared.composite.CompositeStyle.TheVariants.{Paragraph}
use Rattle.mad_mark_runs.specs.declared.mark_runs.MarkRun.{MarkRun}
use Rattle.mad_sections.specs.Sections.{SectionContent}
use Rattle.mad_sections.specs.declared.gutters.Alert.{Alert}
use Rattle.mad_sections.specs.declared.gutters.Gutter.{Gutter}
use Rattle.mad_sections.specs.declared.gutters.Gutter.TheVariants.{Bar, AlertBar, Bullet, Number, Task, Code, Signs, Below}
use Rattle.markdown_html_text.specs.HtmlLeaves.{html_level}
use Rattle.markdown_lines.specs.Code.{code_lines}
use Rattle.markdown_lines.specs.Leaf.{html_lines}
use Rattle.markdown_lines.specs.Links.{html_addresses, Defined}
use Rattle.markdown_lines.specs.Restyled.{restyled, empty_line}
use Rattle.markdown_lines.specs.Tables.{table_lines}
use Rattle.markdown_lines.specs.Texts.{behind_mark}
use Rattle.markdown_definitions.specs.Definitions.{definitions_of}
use Rattle.markdown_gutters.specs.Forms.{is_big}
use Rattle.markdown_gutters.specs.Lists.{is_item}
use Rattle.markdown_gutters.specs.Signs.{after_box, box_of, after_line, alert_of}
use Rattle.markdown_gutters.specs.declared.forms.Form.{Form}
use Rattle.markdown_gutters.specs.declared.forms.Form.TheVariants.{Words, Large, Listed, Boxed}
use Rattle.markdown_tones.specs.Fences.{fence_marks}
use Rattle.markdown_reader.specs.Mapping.{html_text, html_by, leaves_in, Mapping, nothing_shown, new_gutter, with_last, is_spaced, spaced, blank_row, section_of, added, put, passed, list_ended, begun, nothing_since, with_section, item_ended, ended_by, words, addresses_in, task_by, alert_line, alert_by, paragraph_by, table_addresses, leaf_shown, shown_part, shown_parts, with_marks, code_shown}
use Rattle.markdown_reader.specs.Markdown.{printable_sections, steady_sections}
use Rattle.markdown_section_laws.specs.LeavesShown.{AreAdded, AreInOne, IsAdded, IsParagraphSaid, IsSaidOf, LeavesAreShown, heading_lines, html_said, html_said_by}

by_bool : (P : Bool → Type 0) (b : Bool) → (b ≡ true → P true) → (b ≡ false → P false) → P b
by_bool P true on off = on refl
by_bool P false on off = off refl

-- such sections are added
record Adds (P : List SectionContent → Type 0) (before after : Mapping) : Type 0 where
  new : List SectionContent
  joins : after.sections ≡ before.sections ++ new
  is : P new

-- ---- lines

no_lines : (lines : List LineContent) → (length lines == 0) ≡ true → lines ≡ []
no_lines [] e = refl
no_lines (line ∷ lines) e = absurd (some (length lines) e)
  where
    some : (n : ℕ) → (suc n == 0) ≡ true → ⊥
    some n e = grind (arith, nat_tests, e)

added_adds : (form : Form) (t : Bool) (lines : List LineContent) (addresses : List (List ℕ)) (m : Mapping)
    → Adds (AreInOne lines) m (added form lines addresses (if t then record m { sections = m.sections ++ blank_row m ∷ [] } else m))
added_adds form true lines addresses m =
    let after : Mapping = added form lines addresses (record m { sections = m.sections ++ blank_row m ∷ [] }) in
    let own : SectionContent = section_of form lines m in
    record { new = blank_row m ∷ own ∷ []; joins = append_assoc m.sections (blank_row m ∷ []) (own ∷ []); is = (refl, refl) }
added_adds form false lines addresses m = record { new = section_of form lines m ∷ []; joins = refl; is = refl }

put_adds : (form : Form) (lines : List LineContent) (addresses : List (List ℕ)) (m : Mapping) → Adds (AreInOne lines) m (put form lines addresses m)
put_adds form lines addresses m =
    by_bool (λ t. Adds (AreInOne lines) m (if t then m else added form lines addresses (spaced m.apart (is_big form) m))) (length lines == 0)
    (λ none. record { new = []; joins = sym (append-nil m.sections); is = no_lines lines none })
    (λ some. added_adds form (is_spaced m.apart (is_big form) m) lines addresses m)

-- ---- leaves

abbrev AddsLeaf : Defined → Kind → List Remaining → Mapping → Mapping → Type 0
AddsLeaf defined kind lines before after = Adds (λ new. (said : List LineContent) × IsSaidOf defined kind lines said × AreInOne said new) before after

abbrev AddsParagraph : Defined → List ℕ → Mapping → Mapping → Type 0
AddsParagraph defined text before after = Adds (λ new. (said : List LineContent) × IsParagraphSaid defined text said × AreInOne said new) before after

words_add : (defined : Defined) (text : List ℕ) (m : Mapping) → AddsParagraph defined text m (put Words (words defined text) (addresses_in defined text) m)
words_add defined text m =
    let a = put_adds Words (words defined text) (addresses_in defined text) m in
    record { new = a.new; joins = a.joins; is = (words defined text, inl refl, a.is) }

task_adds : (found : Option Bool) (defined : Defined) (text : List ℕ) (m : Mapping) → box_of text ≡ found → AddsParagraph defined text m (task_by found defined text m)
task_adds None defined text m e = words_add defined text m
task_adds (Some done) defined text m e =
    let said : List LineContent = words defined (after_box text) in
    let a = put_adds Words said (addresses_in defined (after_box text)) (with_last (Task done) m) in
    record { new = a.new; joins = a.joins; is = (said, inr (inl (done, e, refl)), a.is) }

alert_adds : (found : Option Alert) (defined : Defined) (text : List ℕ) (m : Mapping) → alert_of text ≡ found → AddsParagraph defined text m (alert_by found defined text m)
alert_adds None defined text m e = words_add defined text m
alert_adds (Some alert) defined text m e =
    let said : List LineContent = alert_line alert ∷ restyled Paragraph Paragraph (words defined (after_line text)) in
    let a = put_adds Words said (addresses_in defined (after_line text)) (with_last (AlertBar alert) m) in
    record { new = a.new; joins = a.joins; is = (said, inr (inr (alert, e, refl)), a.is) }

paragraph_adds : (gutter : Option Gutter) (defined : Defined) (text : List ℕ) (m : Mapping) → AddsParagraph defined text m (paragraph_by gutter defined text m)
paragraph_adds (Some Bullet) defined text m = task_adds (box_of text) defined text m refl
paragraph_adds (Some Bar) defined text m = alert_adds (alert_of text) defined text m refl
paragraph_adds (Some (Number number)) defined text m = words_add defined text m
paragraph_adds (Some (Task done)) defined text m = words_add defined text m
paragraph_adds (Some Code) defined text m = words_add defined text m
paragraph_adds (Some (AlertBar alert)) defined text m = words_add defined text m
paragraph_adds (Some (Signs level)) defined text m = words_add defined text m
paragraph_adds (Some (Below level)) defined text m = words_add defined text m
paragraph_adds None defined text m = words_add defined text m

code_adds : (marks : List MarkRun) (lines : List Remaining) (m : Mapping) → Adds (AreInOne (code_lines 0 lines)) m (code_shown marks lines m)
code_adds marks lines m = let a = put_adds Boxed (code_lines 0 lines) [] (with_marks marks m) in record { new = a.new; joins = a.joins; is = a.is }

html_adds : (plain : Bool) (text : List ℕ) (m : Mapping) → (html_level text == 0) ≡ plain
    → Adds (λ new. (said : List LineContent) × (said ≡ html_said text) × AreInOne said new) m (html_by plain (html_level text) (html_text text) m)
html_adds true text m e =
    let said : List LineContent = html_lines (html_text text) in
    let a = put_adds Words said (html_addresses (html_text text)) m in
    record { new = a.new; joins = a.joins; is = (said, ap (λ (p : Bool). html_said_by p (html_level text) text) (sym e), a.is) }
html_adds false text m e =
    let said : List LineContent = heading_lines (html_level text) (html_lines (html_text text)) in
    let a = put_adds Large said (html_addresses (html_text text)) m in
    record { new = a.new; joins = a.joins; is = (said, ap (λ (p : Bool). html_said_by p (html_level text) text) (sym e), a.is) }

-- lines that are said in one way only
one_way : (P : List LineContent → Type 0) (said : List LineContent) (before after : Mapping) → P said → Adds (AreInOne said) before after
    → Adds (λ new. (lines : List LineContent) × P lines × AreInOne lines new) before after
one_way P said before after h a = record { new = a.new; joins = a.joins; is = (said, h, a.is) }

nothing_added : (P : List LineContent → Type 0) (m : Mapping) → P [] → Adds (λ new. (lines : List LineContent) × P lines × AreInOne lines new) m m
nothing_added P m h = record { new = []; joins = sym (append-nil m.sections); is = ([], h, refl) }

leaf_adds : (defined : Defined) (kind : Kind) (lines : List Remaining) (m : Mapping) → AddsLeaf defined kind lines m (leaf_shown defined kind lines m)
leaf_adds defined ParagraphKind lines m = paragraph_adds (new_gutter m) defined (joined [] lines) m
leaf_adds defined Html lines m = html_adds (html_level (joined [] lines) == 0) (joined [] lines) m refl
leaf_adds defined (Heading level) lines m =
    let said : List LineContent = heading_lines level (words defined (joined [] lines)) in
    one_way (IsSaidOf defined (Heading level) lines) said m _ refl (put_adds Large said (addresses_in defined (joined [] lines)) m)
leaf_adds defined Indented lines m = one_way (IsSaidOf defined Indented lines) (code_lines 0 lines) m _ refl (code_adds [] lines m)
leaf_adds defined Fenced lines m = one_way (IsSaidOf defined Fenced lines) (code_lines 0 (drop 1 lines)) m _ refl (code_adds (fence_marks lines) (drop 1 lines) m)
leaf_adds defined (Table columns) lines m =
    let said : List LineContent = table_lines defined.labels columns lines in
    one_way (IsSaidOf defined (Table columns) lines) said m _ refl (put_adds Listed said (table_addresses defined columns lines) m)
leaf_adds defined Rule lines m = one_way (IsSaidOf defined Rule lines) (horizontal_rule ∷ []) m _ refl (put_adds Large (horizontal_rule ∷ []) [] m)
leaf_adds defined Nothing lines m = nothing_added (IsSaidOf defined Nothing lines) m refl
leaf_adds defined Definitions lines m = nothing_added (IsSaidOf defined Definitions lines) m refl

-- ---- containers

abbrev AddsEnd : Mapping → Mapping → Type 0
AddsEnd before after = Adds (λ new. (new ≡ []) ⊎ AreInOne (empty_line Paragraph ∷ []) new) before after

item_adds : (t : Bool) (m : Mapping) → AddsEnd m (nothing_since (with_section Words (empty_line Paragraph ∷ []) (if t then record m { sections = m.sections ++ blank_row m ∷ [] } else m)))
item_adds true m =
    let own : SectionContent = section_of Words (empty_line Paragraph ∷ []) m in
    record { new = blank_row m ∷ own ∷ []; joins = append_assoc m.sections (blank_row m ∷ []) (own ∷ []); is = inr (refl, refl) }
item_adds false m = record { new = section_of Words (empty_line Paragraph ∷ []) m ∷ []; joins = refl; is = inr refl }

end_adds : (gutter : Option Gutter) (m : Mapping) → AddsEnd m (ended_by gutter m)
end_adds None m = record { new = []; joins = sym (append-nil m.sections); is = inl refl }
end_adds (Some gutter) m =
    by_bool (λ t. AddsEnd m (if t then item_ended m else m)) (is_item gutter) (λ item. item_adds (is_spaced m.item_apart false m) m)
    (λ bar. record { new = []; joins = sym (append-nil m.sections); is = inl refl })

begin_adds : (container : Container) (m : Mapping) → (begun container m).sections ≡ m.sections
begin_adds Quote m = refl
begin_adds (Item sign number content) m = refl

-- ---- parts

part_adds : (defined : Defined) (part : PartContent) (m : Mapping) → Adds (IsAdded defined part) m (shown_part defined part m)
unfolding shown_part
part_adds defined (begins container apart) m = record { new = []; joins = begin_adds container (passed apart m) ∙ sym (append-nil m.sections); is = refl }
part_adds defined ends m = let a = end_adds (new_gutter m) m in record { new = a.new; joins = a.joins; is = a.is }
part_adds defined (block leaf) m = let a = leaf_adds defined leaf.kind leaf.lines (list_ended (passed leaf.apart m)) in record { new = a.new; joins = a.joins; is = a.is }

parts_add : (defined : Defined) (parts : List PartContent) (m : Mapping) → Adds (AreAdded defined parts) m (shown_parts defined parts m)
unfolding shown_parts
parts_add defined [] m = record { new = []; joins = sym (append-nil m.sections); is = refl }
parts_add defined (part ∷ parts) m =
    let own = part_adds defined part m in
    let more = parts_add defined parts (shown_part defined part m) in
    record {
      new = own.new ++ more.new;
      joins = more.joins ∙ ap (λ (l : List SectionContent). l ++ more.new) own.joins ∙ append_assoc m.sections own.new more.new;
      is = (own.new, more.new, refl, own.is, more.is);
    }

-- THE LAW
pub leaves_shown : LeavesAreShown
unfolding printable_sections
leaves_shown source =
    let text : List ℕ = behind_mark source in
    let a = parts_add (definitions_of (parts_of text)) (flat_map leaves_in (parts_of text)) nothing_shown in
    (a.new, ap steady_sections a.joins, a.is)
