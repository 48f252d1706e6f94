-- The rows of a page, section by section.
use Rattle.std.proofs.Common.{◌≡◌, ℕ, ◌<◌, Bool, List, [], ◌∷◌, ◌++◌, length, Option, Some, None, Result, Ok, Err, OnOk, slice_get, drop, refl, subst, ap, sym, ◌∙◌, append_assoc, append-nil, arith}
use Rattle.std.specs.List.{flat_map}
use Rattle.mad_rows.specs.RowStyles.{line_rules}
use Rattle.mad_rows.specs.declared.row_skin.RowSkin.{RowSkin}
use Rattle.mad_sections.specs.Sections.{SectionContent}
use Rattle.mad_pages.specs.PageLayouts.{BecomesAt}
use Rattle.mad_pages.specs.PageRows.{RowContent}
use Rattle.mad_format.specs.LineRules.{LineRules}
use Rattle.markdown_linked_pages.specs.CellMarks.{column_marks, with_cell_marks}
use Rattle.mad_format.proofs.ListLemmas.{both_become}
use Rattle.mad_mark_runs.specs.declared.mark_runs.MarkRun.{MarkRun}
use Rattle.mad_page_skin.specs.PageSkins.{page_row_skin}
use Rattle.mad_page_skin.specs.declared.page_skin.PageSkin.{PageSkin}
use Rattle.markdown_reader.specs.Mapping.{LinkSaid}
use Rattle.markdown_linked_pages.specs.LinkedPages.{addresses_of, linked_page, linked_rows_bytes, linked_text_bytes, IsLinkedAt, IsLinkedPageAt, IsLinkedTextAt}
use Rattle.mad_dressing.specs.Dressed.{dressed, dressed_page}
use Rattle.mad_dressing.specs.declared.page_marks.PageMarks.{PageMarks}
use Rattle.mad_page_rows.specs.Faces.{has_ascii_boxes}

-- what is written of some rows and others is that of these, and then that of the others
pub rows_join : (written : RowContent → List ℕ) (rows others : List RowContent) → flat_map written (rows ++ others) ≡ flat_map written rows ++ flat_map written others
rows_join written [] others = refl
rows_join written (row ∷ rows) others = ap (λ (b : List ℕ). written row ++ b) (rows_join written rows others) ∙ sym (append_assoc (written row) (flat_map written rows) (flat_map written others))

-- so far the rows of the front sections are put after those that were there, each as it is written
pub record WrittenSoFar (written : RowContent → List ℕ) (skin : RowSkin) (width : Option ℕ) (all left : List SectionContent) (start now : List ℕ) : Type 0 where
  pub own : List RowContent
  pub front : List SectionContent
  pub joins : all ≡ front ++ left
  pub layout : IsLinkedPageAt (line_rules skin) (has_ascii_boxes skin) width front own
  pub bytes : now ≡ start ++ flat_map written own

-- before the first section no row is put
pub written_none : (written : RowContent → List ℕ) (skin : RowSkin) (width : Option ℕ) (all : List SectionContent) (start : List ℕ) → WrittenSoFar written skin width all all start start
written_none written skin width all start = record { own = []; front = []; joins = refl; layout = refl; bytes = sym (append-nil start) }

bytes_on : (written : RowContent → List ℕ) (start before now : List ℕ) (own more : List RowContent) → before ≡ start ++ flat_map written own → now ≡ before ++ flat_map written more → now ≡ start ++ flat_map written (own ++ more)
bytes_on written start before now own more first next =
    next ∙ ap (λ (b : List ℕ). b ++ flat_map written more) first ∙ append_assoc start (flat_map written own) (flat_map written more) ∙ ap (λ (b : List ℕ). start ++ b) (sym (rows_join written own more))

-- the rows that become of a section are put, each of a table with the marks of its cells
pub section_written : {T E : Type 0} (r : Result T E) (written : RowContent → List ℕ) (rules : LineRules) (ascii : Bool) (width : Option ℕ) (section : SectionContent) (found : List (List ℕ)) (rows : List RowContent) (before now : List ℕ) → found ≡ column_marks section
    → (own : List RowContent) × (rows ≡ own) × BecomesAt rules ascii width section own → OnOk r (now ≡ before ++ flat_map written (with_cell_marks found rows))
    → OnOk r ((own : List RowContent) × IsLinkedAt rules ascii width section own × (now ≡ before ++ flat_map written own))
section_written {T} {E} (Ok x) written rules ascii width section found rows before now found_is (own, rows_are, becomes) is = (
  with_cell_marks (column_marks section) own,
  (own, becomes, refl),
  is ∙ ap (λ (c : List (List ℕ)). before ++ flat_map written (with_cell_marks c rows)) found_is ∙ ap (λ (rs : List RowContent). before ++ flat_map written (with_cell_marks (column_marks section) rs)) rows_are,
)
section_written {T} {E} (Err x) written rules ascii width section found rows before now found_is pushed is = tt

-- ---- what stands beside headings

-- a section that is shown alone in its place
pub one_shown : (skin : RowSkin) (width : Option ℕ) (shown : List SectionContent) (s : SectionContent) (own : List RowContent) → s ∷ [] ≡ shown → IsLinkedAt (line_rules skin) (has_ascii_boxes skin) width s own → IsLinkedPageAt (line_rules skin) (has_ascii_boxes skin) width shown own
one_shown skin width shown s own is h =
    subst (λ (ss : List SectionContent). IsLinkedPageAt (line_rules skin) (has_ascii_boxes skin) width ss own) is (own, [], sym (append-nil own), h, refl)

-- a section that is shown with a rule below it
two_shown : (skin : RowSkin) (width : Option ℕ) (shown : List SectionContent) (s rule : SectionContent) (own below : List RowContent) → s ∷ rule ∷ [] ≡ shown → IsLinkedAt (line_rules skin) (has_ascii_boxes skin) width s own
    → IsLinkedAt (line_rules skin) (has_ascii_boxes skin) width rule below → IsLinkedPageAt (line_rules skin) (has_ascii_boxes skin) width shown (own ++ below)
two_shown skin width shown s rule own below is h k =
    subst (λ (ss : List SectionContent). IsLinkedPageAt (line_rules skin) (has_ascii_boxes skin) width ss (own ++ below)) is (own, below, refl, h, (below, [], sym (append-nil below), k, refl))

-- so it is with a section, and then with its rule
pub rule_laid : {T E : Type 0} (r : Result T E) (written : RowContent → List ℕ) (skin : RowSkin) (width : Option ℕ) (shown : List SectionContent) (s rule : SectionContent) (before mid now : List ℕ) → s ∷ rule ∷ [] ≡ shown
    → (own : List RowContent) × IsLinkedAt (line_rules skin) (has_ascii_boxes skin) width s own × (mid ≡ before ++ flat_map written own)
    → OnOk r ((own : List RowContent) × IsLinkedAt (line_rules skin) (has_ascii_boxes skin) width rule own × (now ≡ mid ++ flat_map written own))
    → OnOk r ((own : List RowContent) × IsLinkedPageAt (line_rules skin) (has_ascii_boxes skin) width shown own × (now ≡ before ++ flat_map written own))
rule_laid {T} {E} (Ok x) written skin width shown s rule before mid now is (own, laid, first) (below, ruled, next) =
    (own ++ below, two_shown skin width shown s rule own below is laid ruled, bytes_on written before mid now own below first next)
rule_laid {T} {E} (Err x) written skin width shown s rule before mid now is h k = tt

-- the rows of what is shown of one more section of a text are put behind the others
pub dressed_on : (written : RowContent → List ℕ) (skin : RowSkin) (marks : PageMarks) (width : Option ℕ) (all left after : List SectionContent) (s : SectionContent) (start before now : List ℕ) (own : List RowContent)
    → WrittenSoFar written skin width (dressed_page marks all) (dressed_page marks left) start before → left ≡ s ∷ after → IsLinkedPageAt (line_rules skin) (has_ascii_boxes skin) width (dressed marks s) own → now ≡ before ++ flat_map written own
    → WrittenSoFar written skin width (dressed_page marks all) (dressed_page marks after) start now
dressed_on written skin marks width all left after s start before now own h joins page bytes =
    record {
      own = h.own ++ own;
      front = h.front ++ dressed marks s;
      joins = h.joins ∙ ap (λ (ss : List SectionContent). h.front ++ dressed_page marks ss) joins ∙ sym (append_assoc h.front (dressed marks s) (dressed_page marks after));
      layout = both_become (IsLinkedAt (line_rules skin) (has_ascii_boxes skin) width) h.front (dressed marks s) h.own own h.layout page;
      bytes = bytes_on written start before now h.own own h.bytes bytes;
    }

-- ---- the end

-- where no section is left, the rows of the page are put
pub written_whole : (written : RowContent → List ℕ) (skin : RowSkin) (width : Option ℕ) (all left : List SectionContent) (start now : List ℕ) → WrittenSoFar written skin width all left start now → left ≡ []
    → (own : List RowContent) × IsLinkedPageAt (line_rules skin) (has_ascii_boxes skin) width all own × (now ≡ start ++ flat_map written own)
written_whole written skin width all left start now h none =
    let whole : h.front ≡ all = sym (append-nil h.front) ∙ ap (λ (ss : List SectionContent). h.front ++ ss) (sym none) ∙ sym h.joins in
    (h.own, subst (λ (ss : List SectionContent). IsLinkedPageAt (line_rules skin) (has_ascii_boxes skin) width ss h.own) whole h.layout, h.bytes)

-- the first of some sections, and those after it
pub first_left : (left after : List SectionContent) (s : SectionContent) → Some s ≡ slice_get left 0 → after ≡ drop 1 left → left ≡ s ∷ after
first_left [] after s got rest = absurd (no got)
  where
    no : Some s ≡ None → ⊥
    no e = cc
first_left (x ∷ left) after s got rest = let same : s ≡ x = some_is got in ap (λ (y : SectionContent). y ∷ left) (sym same) ∙ ap (λ (l : List SectionContent). s ∷ l) (sym rest)
  where
    some_is : {A : Type 0} {a b : A} → Some a ≡ Some b → a ≡ b
    some_is e = cc

-- where there is no first section, none is left
pub none_left : (left : List SectionContent) → None ≡ slice_get left 0 → left ≡ []
none_left [] got = refl
none_left (x ∷ left) got = absurd (no got)
  where
    no : None ≡ Some x → ⊥
    no e = cc

-- behind the first of some sections fewer are left
pub shorter_left : (left after : List SectionContent) (s : SectionContent) → left ≡ s ∷ after → length after < length left
shorter_left left after s e = omega (arith, ap length e)

-- ---- a text

-- the rows of a text that was read are those of its source
pub text_written : (skin : PageSkin) (width : Option ℕ) (links all_links : List LinkSaid) (marks all_marks : List (List MarkRun)) (page all_page : List SectionContent) (addresses : List (Option (List ℕ))) (before now : List ℕ) → links ≡ all_links → marks ≡ all_marks → page ≡ all_page
    → addresses ≡ addresses_of links → before ≡ [] → (own : List RowContent) × IsLinkedTextAt skin width (linked_page links marks page) own × (now ≡ before ++ linked_rows_bytes addresses (page_row_skin skin) width own)
    → (own : List RowContent) × IsLinkedTextAt skin width (linked_page all_links all_marks all_page) own × (now ≡ linked_text_bytes all_links skin width own)
text_written skin width links all_links marks all_marks page all_page addresses before now links_are marks_are page_is addresses_are none (own, dressed, bytes) = (
  own,
  subst (λ (ls : List LinkSaid). IsLinkedTextAt skin width (linked_page ls all_marks all_page) own) links_are
      (subst (λ (ms : List (List MarkRun)). IsLinkedTextAt skin width (linked_page links ms all_page) own) marks_are (subst (λ (ps : List SectionContent). IsLinkedTextAt skin width (linked_page links marks ps) own) page_is dressed)),
  bytes ∙ ap (λ (b : List ℕ). b ++ linked_rows_bytes addresses (page_row_skin skin) width own) none ∙ ap (λ as_written. linked_rows_bytes as_written (page_row_skin skin) width own) (addresses_are ∙ ap addresses_of links_are),
)
