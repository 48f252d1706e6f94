-- The rows of a page, section by section.
use Rattle.std.proofs.Common.{◌≡◌, ℕ, ◌<◌, List, [], ◌∷◌, ◌++◌, length, Option, Some, None, Result, Ok, Err, OnOk, slice_get, drop, refl, subst, ap, sym, ◌∙◌, append_assoc, append-nil, arith}
use Rattle.mad_rows.specs.RowStyles.{line_rules}
use Rattle.mad_rows.specs.declared.row_skin.RowSkin.{RowSkin}
use Rattle.mad_sections.specs.Sections.{SectionContent}
use Rattle.mad_pages.specs.PageLayouts.{BecomesAt, IsPageAt}
use Rattle.mad_pages.specs.PageRows.{RowContent}
use Rattle.mad_format.proofs.ListLemmas.{both_become}
use Rattle.mad_dressing.specs.Dressed.{dressed, dressed_page}
use Rattle.mad_dressing.specs.declared.page_marks.PageMarks.{PageMarks}
use Rattle.mad_pages.proofs.PageLemmas.{LaidSoFar, laid_none, laid_on, laid_whole}
use Rattle.mad_page_rows.specs.Faces.{has_ascii_boxes}
use Rattle.markdown_layout.specs.WrittenPages.{row_bytes, rows_bytes}

-- the bytes of some rows and others are those of these, and then those of the others
pub rows_join : (skin : RowSkin) (width : Option ℕ) (rows others : List RowContent) → rows_bytes skin width (rows ++ others) ≡ rows_bytes skin width rows ++ rows_bytes skin width others
rows_join skin width [] others = refl
rows_join skin width (row ∷ rows) others =
    ap (λ (b : List ℕ). row_bytes skin width row ++ b) (rows_join skin width rows others) ∙ sym (append_assoc (row_bytes skin width row) (rows_bytes skin width rows) (rows_bytes skin width others))

-- so far the rows of the front sections are put after those that were there
pub record WrittenSoFar (skin : RowSkin) (width : Option ℕ) (all left : List SectionContent) (start now : List ℕ) : Type 0 where
  pub own : List RowContent
  pub laid : LaidSoFar (line_rules skin) (has_ascii_boxes skin) width all left own
  pub bytes : now ≡ start ++ rows_bytes skin width own

-- before the first section no row is put
pub written_none : (skin : RowSkin) (width : Option ℕ) (all : List SectionContent) (start : List ℕ) → WrittenSoFar skin width all all start start
written_none skin width all start = record { own = []; laid = laid_none (line_rules skin) (has_ascii_boxes skin) width all; bytes = sym (append-nil start) }

-- the rows of one more section are put behind the others
pub written_on : (skin : RowSkin) (width : Option ℕ) (all left after : List SectionContent) (s : SectionContent) (start before now : List ℕ) (own : List RowContent)
    → WrittenSoFar skin width all left start before → left ≡ s ∷ after → BecomesAt (line_rules skin) (has_ascii_boxes skin) width s own → now ≡ before ++ rows_bytes skin width own → WrittenSoFar skin width all after start now
written_on skin width all left after s start before now own h joins becomes bytes =
    record {
      own = h.own ++ own;
      laid = laid_on (line_rules skin) (has_ascii_boxes skin) width all left after h.own (h.own ++ own) h.laid (record { first = s; joins = joins; own = own; added = refl; layout = becomes });
      bytes = bytes ∙ ap (λ (b : List ℕ). b ++ rows_bytes skin width own) h.bytes ∙ append_assoc start (rows_bytes skin width h.own) (rows_bytes skin width own) ∙ ap (λ (b : List ℕ). start ++ b) (sym (rows_join skin width h.own own));
    }

-- ---- what stands beside headings

-- a section that is shown alone in its place
pub one_shown : (skin : RowSkin) (width : Option ℕ) (shown : List SectionContent) (s : SectionContent) (own : List RowContent) → s ∷ [] ≡ shown → BecomesAt (line_rules skin) (has_ascii_boxes skin) width s own → IsPageAt (line_rules skin) (has_ascii_boxes skin) width shown own
one_shown skin width shown s own is h =
    subst (λ (ss : List SectionContent). IsPageAt (line_rules skin) (has_ascii_boxes skin) width ss own) is (own, [], sym (append-nil own), h, refl)

-- a section that is shown with a rule below it
two_shown : (skin : RowSkin) (width : Option ℕ) (shown : List SectionContent) (s rule : SectionContent) (own below : List RowContent) → s ∷ rule ∷ [] ≡ shown → BecomesAt (line_rules skin) (has_ascii_boxes skin) width s own
    → BecomesAt (line_rules skin) (has_ascii_boxes skin) width rule below → IsPageAt (line_rules skin) (has_ascii_boxes skin) width shown (own ++ below)
two_shown skin width shown s rule own below is h k =
    subst (λ (ss : List SectionContent). IsPageAt (line_rules skin) (has_ascii_boxes skin) width ss (own ++ below)) is (own, below, refl, h, (below, [], sym (append-nil below), k, refl))

-- the bytes of both
two_written : (skin : RowSkin) (width : Option ℕ) (own below : List RowContent) (before mid now : List ℕ) → mid ≡ before ++ rows_bytes skin width own → now ≡ mid ++ rows_bytes skin width below → now ≡ before ++ rows_bytes skin width (own ++ below)
two_written skin width own below before mid now first next =
    next ∙ ap (λ (b : List ℕ). b ++ rows_bytes skin width below) first ∙ append_assoc before (rows_bytes skin width own) (rows_bytes skin width below) ∙ ap (λ (b : List ℕ). before ++ b) (sym (rows_join skin width own below))

-- so it is with a section, and then with its rule
pub rule_laid : {T E : Type 0} (r : Result T E) (skin : RowSkin) (width : Option ℕ) (shown : List SectionContent) (s rule : SectionContent) (before mid now : List ℕ) → s ∷ rule ∷ [] ≡ shown
    → (own : List RowContent) × BecomesAt (line_rules skin) (has_ascii_boxes skin) width s own × (mid ≡ before ++ rows_bytes skin width own)
    → OnOk r ((own : List RowContent) × BecomesAt (line_rules skin) (has_ascii_boxes skin) width rule own × (now ≡ mid ++ rows_bytes skin width own))
    → OnOk r ((own : List RowContent) × IsPageAt (line_rules skin) (has_ascii_boxes skin) width shown own × (now ≡ before ++ rows_bytes skin width own))
rule_laid {T} {E} (Ok x) skin width shown s rule before mid now is (own, laid, first) (below, ruled, next) =
    (own ++ below, two_shown skin width shown s rule own below is laid ruled, two_written skin width own below before mid now first next)
rule_laid {T} {E} (Err x) skin width shown s rule before mid now is h k = tt

-- the rows of what is shown of one more section of a text are put behind the others
pub dressed_on : (skin : RowSkin) (marks : PageMarks) (width : Option ℕ) (all left after : List SectionContent) (s : SectionContent) (start before now : List ℕ) (own : List RowContent)
    → WrittenSoFar skin width (dressed_page marks all) (dressed_page marks left) start before → left ≡ s ∷ after → IsPageAt (line_rules skin) (has_ascii_boxes skin) width (dressed marks s) own → now ≡ before ++ rows_bytes skin width own
    → WrittenSoFar skin width (dressed_page marks all) (dressed_page marks after) start now
dressed_on skin marks width all left after s start before now own h joins page bytes =
    record {
      own = h.own ++ own;
      laid = record {
        front = h.laid.front ++ dressed marks s;
        joins = h.laid.joins ∙ ap (λ (ss : List SectionContent). h.laid.front ++ dressed_page marks ss) joins ∙ sym (append_assoc h.laid.front (dressed marks s) (dressed_page marks after));
        layout = both_become (BecomesAt (line_rules skin) (has_ascii_boxes skin) width) h.laid.front (dressed marks s) h.own own h.laid.layout page;
      };
      bytes = bytes ∙ ap (λ (b : List ℕ). b ++ rows_bytes skin width own) h.bytes ∙ append_assoc start (rows_bytes skin width h.own) (rows_bytes skin width own) ∙ ap (λ (b : List ℕ). start ++ b) (sym (rows_join skin width h.own own));
    }

-- ---- the end

-- where no section is left, the rows of the page are put
pub written_whole : (skin : RowSkin) (width : Option ℕ) (all left : List SectionContent) (start now : List ℕ) → WrittenSoFar skin width all left start now → left ≡ []
    → (own : List RowContent) × IsPageAt (line_rules skin) (has_ascii_boxes skin) width all own × (now ≡ start ++ rows_bytes skin width own)
written_whole skin width all left start now h none = (h.own, laid_whole (line_rules skin) (has_ascii_boxes skin) width all left h.own h.own h.laid none refl, h.bytes)

-- the first of some sections, and those after it
pub first_left : (left after : List SectionContent) (s : SectionContent) → Some s ≡ slice_get left 0 → after ≡ drop 1 left → left ≡ s ∷ after
first_left [] after s got rest = absurd (no got)
  where
    no : Some s ≡ None → ⊥
    no e = cc
first_left (x ∷ left) after s got rest = let same : s ≡ x = some_is got in ap (λ (y : SectionContent). y ∷ left) (sym same) ∙ ap (λ (l : List SectionContent). s ∷ l) (sym rest)
  where
    some_is : {A : Type 0} {a b : A} → Some a ≡ Some b → a ≡ b
    some_is e = cc

-- where there is no first section, none is left
pub none_left : (left : List SectionContent) → None ≡ slice_get left 0 → left ≡ []
none_left [] got = refl
none_left (x ∷ left) got = absurd (no got)
  where
    no : None ≡ Some x → ⊥
    no e = cc

-- behind the first of some sections fewer are left
pub shorter_left : (left after : List SectionContent) (s : SectionContent) → left ≡ s ∷ after → length after < length left
shorter_left left after s e = omega (arith, ap length e)
