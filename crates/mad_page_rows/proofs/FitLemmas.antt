-- Rows of a page fill their width.
use Rattle.std.proofs.Common.{◌≡◌, ℕ, zero, suc, ◌+◌, ◌-◌, ◌^◌, ◌<◌, ◌≤◌, Bool, true, List, [], ◌∷◌, length, take, Some, sym, subst, arith}
use Rattle.std.proofs.Math.Seq.{take-length}
use Rattle.std.specs.List.{AllByRecursion}
use Rattle.mad_measure.proofs.AllLemmas.{all_joined, all_front, all_back}
use Rattle.mad_md.specs.Lines.{LineContent}
use Rattle.mad_format.specs.declared.line.FmtLine.{FmtLine}
use Rattle.mad_draw.specs.Pieces.{FillsRow}
use Rattle.mad_rows.specs.RowStyles.{line_rules, tone_styles}
use Rattle.mad_rows.specs.declared.row_skin.RowSkin.{RowSkin}
use Rattle.mad_blocks.specs.LayoutParts.{wrap_width}
use Rattle.mad_blocks.specs.Layouts.{IsLayoutAt}
use Rattle.mad_blocks.specs.FittingLayouts.{IsFittingLayout}
use Rattle.mad_blocks.specs.TextParts.{lines_in_parts}
use Rattle.mad_blocks.proofs.WrapKinds.{layout_fitting}
use Rattle.mad_layout.specs.Drawable.{AreDrawable, IsDrawableLine}
use Rattle.mad_layout.specs.Premises.{KeepsPremises}
use Rattle.mad_layout.proofs.DrawableLemmas.{fitting_is_drawable}
use Rattle.mad_layout.proofs.RunLemmas.{any_columns, any_shown}
use Rattle.mad_layout.proofs.ReadSound.{laid_sound}
use Rattle.mad_layout.proofs.SoundLines.{AreSoundLines}
use Rattle.mad_sections.specs.Gutters.{columns_of, shown_at, room_at}
use Rattle.mad_sections.specs.Sections.{SectionContent}
use Rattle.mad_sections.specs.declared.gutters.Gutter.{Gutter}
use Rattle.mad_sections.proofs.RoomLemmas.{rooms_last, shown_are_last}
use Rattle.mad_blocks.specs.Tables.{table_rules}
use Rattle.mad_sections.specs.Unfolded.{unfolded}
use Rattle.mad_format.specs.Lists.{EachBecomes}
use Rattle.mad_pages.specs.PageLayouts.{IsSectionAt}
use Rattle.mad_pages.specs.Fronts.{FrontContent, front_of}
use Rattle.mad_pages.specs.PageRows.{RowContent, behind, heads_behind, is_head, marks_from, number_behind}
use Rattle.mad_page_rows.specs.FaceLaws.{AreFacesShown, IsTypedGutter}
use Rattle.mad_page_rows.specs.Faces.{has_ascii_boxes, line_skin, page_row_pieces}
use Rattle.mad_page_rows.proofs.FillLemmas.{rows_fill}
use Rattle.mad_page_rows.proofs.TonedLemmas.{toned_fills}
use Rattle.mad_mark_runs.specs.declared.mark_runs.MarkRun.{MarkRun}
use Rattle.mad_page_rows.proofs.BoxedLines.{drawable_behind}
use Rattle.mad_page_rows.specs.PageFits.{KeepsRoom, AllFill, sections_at, SectionsFill, PagesFill}

all_taken : {A : Type 0} (P : A → Type 0) (n : ℕ) (xs : List A) → AllByRecursion P xs → AllByRecursion P (take n xs)
all_taken P zero xs h = tt
all_taken P (suc n) [] h = tt
all_taken P (suc n) (x ∷ xs) h = (h.0, all_taken P n xs h.1)

typed_shown : (ascii : Bool) (width : ℕ) (gs : List Gutter) → AllByRecursion IsTypedGutter gs → AllByRecursion IsTypedGutter (shown_at ascii width gs)
typed_shown ascii width gs h =
    let last = shown_are_last ascii width gs in
    all_back IsTypedGutter last.hidden (shown_at ascii width gs) (subst (AllByRecursion IsTypedGutter) last.ends h)

-- a row whose line is drawn exactly in the columns that its gutters leave, which are as their type promises
pub record IsDrawableBehind (skin : RowSkin) (drawn : ℕ) (row : RowContent) : Type 0 where
  pub typed : AllByRecursion IsTypedGutter row.gutters
  pub fits : columns_of (has_ascii_boxes skin) row.gutters ≤ drawn
  pub line : IsDrawableLine (line_skin skin (front_of row)) (drawn - columns_of (has_ascii_boxes skin) row.gutters) row.line

-- such rows
abbrev pub AreDrawableBehind : RowSkin → ℕ → List RowContent → Type 0
AreDrawableBehind skin drawn rows = AllByRecursion (IsDrawableBehind skin drawn) rows

-- such a row fills the columns in which it is drawn
pub row_fills : (skin : RowSkin) (drawn : ℕ) (row : RowContent) → AreFacesShown skin → IsDrawableBehind skin drawn row → FillsRow drawn (page_row_pieces skin (Some drawn) true row)
row_fills skin drawn row faces h =
    let inner : RowSkin = line_skin skin (front_of row) in
    let rest : ℕ = drawn - columns_of (has_ascii_boxes skin) row.gutters in
    rows_fill skin drawn row faces h.typed h.fits
    (toned_fills rest row.marks (tone_styles skin) row.number inner (Some rest) true row.line (record { shown = any_shown inner rest row.line h.line; columns = any_columns inner rest row.line h.line }))

all_fill : (skin : RowSkin) (drawn : ℕ) (rows : List RowContent) → AreFacesShown skin → AreDrawableBehind skin drawn rows → AllFill skin drawn rows
all_fill skin drawn [] faces h = tt
all_fill skin drawn (row ∷ rows) faces h = (row_fills skin drawn row faces h.0, all_fill skin drawn rows faces h.1)

layout_drawable : (skin : RowSkin) (room drawn : ℕ) (text : List LineContent) (lines : List FmtLine) → 3 ≤ room → room ≤ drawn → drawn < 2 ^ 64 - 1 → KeepsPremises skin room (lines_in_parts text)
    → IsLayoutAt (line_rules skin) (Some room) text lines → AreDrawable skin drawn lines
layout_drawable skin room drawn text lines three wider bound keeps layout =
    let n : ℕ = length lines in
    let fitting : IsFittingLayout (line_rules skin) room text lines = layout_fitting (line_rules skin) (Some room) text lines layout three in
    let sound : AreSoundLines skin room (take n (lines_in_parts text)) = laid_sound skin room (wrap_width (Some room)) room n text lines layout (all_taken _ n (lines_in_parts text) keeps) in
    subst (AreDrawable skin drawn) (take-length lines) (fitting_is_drawable skin room drawn n text lines wider bound sound fitting)

-- lines behind gutters
lines_drawable : (skin : RowSkin) (drawn : ℕ) (gs : List Gutter) (fresh : ℕ) (marks : List MarkRun) (n : ℕ) (heads : Bool) (lines : List FmtLine) → AreFacesShown skin → AllByRecursion IsTypedGutter gs
    → columns_of (has_ascii_boxes skin) gs ≤ drawn → AreDrawable skin (drawn - columns_of (has_ascii_boxes skin) gs) lines → AreDrawableBehind skin drawn (behind gs fresh marks n heads lines)
lines_drawable skin drawn gs fresh marks n heads [] faces typed fits h = tt
lines_drawable skin drawn gs fresh marks n heads (l ∷ lines) faces typed fits h =
    let front : FrontContent = record { gutters = gs; fresh = fresh; marks = marks; number = n; head = is_head heads l } in (
      record { typed = typed; fits = fits; line = drawable_behind skin front (drawn - columns_of (has_ascii_boxes skin) gs) l faces h.0 },
      lines_drawable skin drawn gs 0 (marks_from marks (number_behind marks n l)) (number_behind marks n l) (heads_behind heads l) lines faces typed fits h.1,
    )

-- from three columns on each row of a section is drawn exactly, in the columns of its layout and in more
section_drawable : (skin : RowSkin) (width drawn : ℕ) (section : SectionContent) (rows : List RowContent) → 3 ≤ width → width ≤ drawn → drawn < 2 ^ 64 - 1 → AreFacesShown skin → KeepsRoom skin width section
    → IsSectionAt (line_rules skin) (has_ascii_boxes skin) (Some width) section rows → AreDrawableBehind skin drawn rows
section_drawable skin width drawn section rows three wider bound faces keeps s =
    let ascii : Bool = has_ascii_boxes skin in
    let gs : List Gutter = shown_at ascii width section.gutters in
    let whole : columns_of ascii gs + room_at ascii width section.gutters ≡ width = (shown_are_last ascii width section.gutters).whole in
    let some : 3 ≤ room_at ascii width section.gutters = rooms_last ascii width section.gutters three in
    let lines = layout_drawable skin (room_at ascii width section.gutters) (drawn - columns_of ascii gs) section.lines s.lines some (omega (arith, whole, wider)) (omega (arith, bound)) keeps.premises s.layout in
    subst (AreDrawableBehind skin drawn) (sym s.rows_are) (lines_drawable skin drawn gs section.fresh section.marks 0 true s.lines faces (typed_shown ascii width section.gutters keeps.gutters) (omega (arith, whole, wider)) lines)

-- so is each row of sections, one after the other
pub shown_drawable : (skin : RowSkin) (width drawn : ℕ) (sections : List SectionContent) (rows : List RowContent) → 3 ≤ width → width ≤ drawn → drawn < 2 ^ 64 - 1 → AreFacesShown skin → AllByRecursion (KeepsRoom skin width) sections
    → EachBecomes (IsSectionAt (line_rules skin) (has_ascii_boxes skin) (Some width)) sections rows → AreDrawableBehind skin drawn rows
shown_drawable skin width drawn [] rows three wider bound faces keeps h = subst (AreDrawableBehind skin drawn) (sym h) tt
shown_drawable skin width drawn (section ∷ sections) rows three wider bound faces keeps (own, others, joins, here, more) =
    subst (AreDrawableBehind skin drawn) (sym joins) (all_joined _ own others (section_drawable skin width drawn section own three wider bound faces keeps.0 here) (shown_drawable skin width drawn sections others three wider bound faces keeps.1 more))

-- from three columns on each row of a section fills the width
pub sections_fill : SectionsFill
sections_fill skin width section rows three bound faces keeps s = all_fill skin width rows faces (section_drawable skin width width section rows three (omega arith) bound faces keeps s)

-- so does each row of a page
pub pages_fill : PagesFill
pages_fill skin width [] rows three bound faces keeps h = subst (AllFill skin width) (sym h) tt
pages_fill skin width (section ∷ page) rows three bound faces keeps (own, others, joins, becomes, more) =
    let one : List SectionContent = unfolded (table_rules (line_rules skin)) (has_ascii_boxes skin) (Some width) section in
    let here : AllFill skin width own = all_fill skin width own faces (shown_drawable skin width width one own three (omega arith) bound faces (all_front (KeepsRoom skin width) one (sections_at skin width page) keeps) becomes) in
    let rest : AllByRecursion (KeepsRoom skin width) (sections_at skin width page) = all_back (KeepsRoom skin width) one (sections_at skin width page) keeps in
    subst (AllFill skin width) (sym joins) (all_joined _ own others here (pages_fill skin width page others three bound faces rest more))
