-- Rows of pages: joined, parted, whole, and on a terminal.
use Rattle.std.proofs.Common.{◌≡◌, ℕ, List, [], ◌∷◌, ◌++◌, ◌≤◌, ◌-◌, Option, length, take, drop, get_or, refl, sym, ap, ◌∙◌, subst, arith, append_assoc, append-nil}
use Rattle.std.specs.List.{AllByRecursion, flat_map}
use Rattle.std.proofs.lemmas.Grind.{flat_map-append}
use Rattle.std.proofs.lemmas.List.{take_all}
use Rattle.mad_dressing.specs.Dressed.{dressed_page}
use Rattle.mad_dressing.specs.declared.page_marks.PageMarks.{PageMarks}
use Rattle.mad_dressing.proofs.DressLemmas.{pages_dressed}
use Rattle.mad_format.proofs.ListLemmas.{both_become, become_apart}
use Rattle.mad_live.specs.LiveRows.{AreRows, AreWhole, IsRow, rows_in}
use Rattle.mad_live.proofs.RowLemmas.{all_both, last-append, last_after, rows_after, whole_both, whole_nothing}
use Rattle.mad_live.proofs.StepLemmas.{row_nothing}
use Rattle.mad_page_rows.specs.Faces.{has_ascii_boxes, page_row_bytes}
use Rattle.mad_page_skin.specs.PageSkins.{page_marks, page_row_skin}
use Rattle.mad_page_skin.specs.declared.page_skin.PageSkin.{PageSkin}
use Rattle.mad_pages.specs.PageLayouts.{BecomesAt, IsPageAt}
use Rattle.mad_pages.specs.PageRows.{RowContent}
use Rattle.mad_rows.specs.RowStyles.{line_rules}
use Rattle.mad_rows.specs.declared.row_skin.RowSkin.{RowSkin}
use Rattle.mad_sections.specs.Sections.{SectionContent}
use Rattle.markdown_layout.specs.RowEnds.{without_end}
use Rattle.markdown_layout.specs.WrittenPages.{IsDressedAt, dressed_bytes, row_bytes, rows_bytes}
use Rattle.markdown_live.specs.LiveMarkdowns.{ArePageRows, Fit}
use Rattle.markdown_reader.specs.MarkdownSays.{markdown_says}
use Rattle.markdown_reader.specs.declared.markdown.Markdown.{Markdown}

-- no section has no rows
pub no_rows : (skin : PageSkin) (width : Option ℕ) → ArePageRows skin width [] []
no_rows skin width = ([], refl, refl)

-- the rows of two groups of sections, one after the other, are those of both
pub rows_joined : (skin : PageSkin) (width : Option ℕ) (a b : List SectionContent) (x y : List ℕ) → ArePageRows skin width a x → ArePageRows skin width b y → ArePageRows skin width (a ++ b) (x ++ y)
rows_joined skin width a b x y h k =
    let row_skin : RowSkin = page_row_skin skin in
    let marks : PageMarks = page_marks skin in (
      h.0 ++ k.0,
      subst (λ (page : List SectionContent). IsPageAt (line_rules row_skin) (has_ascii_boxes row_skin) width page (h.0 ++ k.0)) (sym (pages_dressed marks a b))
          (both_become (BecomesAt (line_rules row_skin) (has_ascii_boxes row_skin) width) (dressed_page marks a) (dressed_page marks b) h.0 k.0 h.1 k.1),
      ap (λ (l : List ℕ). l ++ y) h.2 ∙ ap (λ (l : List ℕ). dressed_bytes skin width h.0 ++ l) k.2 ∙ sym (flat_map-append (row_bytes row_skin width) h.0 k.0),
    )

-- and the rows of both are those of the first, and then those of the second
pub rows_apart : (skin : PageSkin) (width : Option ℕ) (a b : List SectionContent) (z : List ℕ) → ArePageRows skin width (a ++ b) z → (x : List ℕ) × (y : List ℕ) × (z ≡ x ++ y) × ArePageRows skin width a x × ArePageRows skin width b y
rows_apart skin width a b z h =
    let row_skin : RowSkin = page_row_skin skin in
    let marks : PageMarks = page_marks skin in
    let parts = become_apart (BecomesAt (line_rules row_skin) (has_ascii_boxes row_skin) width) (dressed_page marks a) (dressed_page marks b) h.0
    (subst (λ (page : List SectionContent). IsPageAt (line_rules row_skin) (has_ascii_boxes row_skin) width page h.0) (pages_dressed marks a b) h.1) in (
      dressed_bytes skin width parts.0,
      dressed_bytes skin width parts.1,
      h.2 ∙ ap (dressed_bytes skin width) parts.2 ∙ flat_map-append (row_bytes row_skin width) parts.0 parts.1,
      (parts.0, parts.3, refl),
      (parts.1, parts.4, refl),
    )

-- ---- on a terminal

ends_whole : (a : List ℕ) → AreWhole (a ++ 10 ∷ [])
ends_whole a = record { ended = last-append [] a (10 ∷ []) }

bytes_whole : (skin : RowSkin) (width : Option ℕ) (rows : List RowContent) → AreWhole (rows_bytes skin width rows)
bytes_whole skin width [] = whole_nothing
bytes_whole skin width (row ∷ rows) = whole_both (row_bytes skin width row) (rows_bytes skin width rows) (ends_whole (without_end (page_row_bytes skin width row))) (bytes_whole skin width rows)

-- the rows of a page are whole
pub rows_whole : (skin : PageSkin) (width : Option ℕ) (page : List SectionContent) (bytes : List ℕ) → ArePageRows skin width page bytes → AreWhole bytes
rows_whole skin width page bytes h = subst (λ (l : List ℕ). AreWhole l) (sym h.2) (bytes_whole (page_row_skin skin) width h.0)

-- whole rows that fit, and others that do
pub fit_both : (w : ℕ) (a b : List ℕ) → AreWhole a → AreRows w a → AreRows w b → AreRows w (a ++ b)
fit_both w a b whole h k = record {
  whole = subst (λ (l : List (List ℕ)). AllByRecursion (IsRow w) l) (sym (rows_after a b whole)) (all_both (IsRow w) (rows_in a) (rows_in b) h.whole k.whole);
  last = subst (λ (l : List ℕ). IsRow w l) (sym (last_after a b whole)) k.last;
}

-- where each section fits, all rows do
pub rows_fit : (w : ℕ) (skin : PageSkin) (width : Option ℕ) (page : List SectionContent) (bytes : List ℕ) → Fit w skin width page → ArePageRows skin width page bytes → AreRows w bytes
rows_fit w skin width [] bytes fit h =
    subst (λ (l : List ℕ). AreRows w l) (sym (h.2 ∙ ap (dressed_bytes skin width) h.1)) (record { whole = tt; last = row_nothing w })
rows_fit w skin width (section ∷ page) bytes fit h =
    let parts = rows_apart skin width (section ∷ []) page bytes h in
    subst (λ (l : List ℕ). AreRows w l) (sym parts.2)
    (fit_both w parts.0 parts.1 (rows_whole skin width (section ∷ []) parts.0 parts.3) (fit.0 parts.0 parts.3) (rows_fit w skin width page parts.1 fit.1 parts.4))

-- ---- texts that were read, one after another

-- what some say, and one more
pub kept_more : (first : List Markdown) (read : Markdown) → flat_map markdown_says (first ++ read ∷ []) ≡ flat_map markdown_says first ++ markdown_says read
kept_more first read = flat_map-append markdown_says first (read ∷ []) ∙ ap (λ (l : List SectionContent). flat_map markdown_says first ++ l) (append-nil (markdown_says read))

-- the first of those that are left, and the others
pub rest_parts : (rest : List Markdown) (read : Markdown) → 1 ≤ length rest → read ≡ get_or rest 0 read → rest ≡ read ∷ take (length rest - 1) (drop 1 rest)
rest_parts [] read some is = absurd (omega (arith, some))
rest_parts (x ∷ rest) read some is = ap (λ (y : Markdown). y ∷ rest) (sym is) ∙ ap (λ (l : List Markdown). read ∷ l) (sym (take_all (length (x ∷ rest) - 1) rest (omega arith)))

-- these are the rows of all but the rest
abbrev pub RowsSoFar : PageSkin → Option ℕ → List Markdown → List Markdown → List ℕ → Type 0
RowsSoFar skin width reads rest rows = (front : List Markdown) × (reads ≡ front ++ rest) × ArePageRows skin width (flat_map markdown_says front) rows

-- at first of none
pub rows_start : (skin : PageSkin) (width : Option ℕ) (reads : List Markdown) (rows : List ℕ) → rows ≡ [] → RowsSoFar skin width reads reads rows
rows_start skin width reads rows none = ([], refl, subst (λ (l : List ℕ). ArePageRows skin width [] l) (sym none) (no_rows skin width))

-- of one more
pub rows_more : (skin : PageSkin) (width : Option ℕ) (reads rest next : List Markdown) (read : Markdown) (old new : List ℕ) (sections : List SectionContent) → RowsSoFar skin width reads rest old → rest ≡ read ∷ next → sections ≡ markdown_says read
    → ((own : List RowContent) × IsDressedAt skin width sections own × (new ≡ old ++ dressed_bytes skin width own)) → RowsSoFar skin width reads next new
rows_more skin width reads rest next read old new sections h is says made = (
  h.0 ++ read ∷ [],
  h.1 ∙ ap (λ (l : List Markdown). h.0 ++ l) is ∙ sym (append_assoc h.0 (read ∷ []) next),
  subst (λ (page : List SectionContent). ArePageRows skin width page new) (sym (kept_more h.0 read))
      (subst (λ (l : List ℕ). ArePageRows skin width (flat_map markdown_says h.0 ++ markdown_says read) l) (sym made.2)
      (rows_joined skin width (flat_map markdown_says h.0) (markdown_says read) old (dressed_bytes skin width made.0) h.2 (made.0, subst (λ (page : List SectionContent). IsDressedAt skin width page made.0) says made.1, refl))),
)

-- in the end of all
pub rows_all : (skin : PageSkin) (width : Option ℕ) (reads rest : List Markdown) (rows : List ℕ) → RowsSoFar skin width reads rest rows → length rest ≡ 0 → ArePageRows skin width (flat_map markdown_says reads) rows
rows_all skin width reads [] rows h none = subst (λ (l : List Markdown). ArePageRows skin width (flat_map markdown_says l) rows) (sym (h.1 ∙ append-nil h.0)) h.2
rows_all skin width reads (read ∷ rest) rows h none = absurd (omega arith)
