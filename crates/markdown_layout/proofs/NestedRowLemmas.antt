-- Rows behind all gutters of their section.
use Rattle.std.proofs.Common.{◌≡◌, ℕ, ◌*◌, ◌<◌, nat_lt, Bool, true, List, [], ◌∷◌, Option, Some, None, refl, ap, subst, arith, if◌then◌else◌}
use Rattle.std.specs.List.{AllByRecursion}
use Rattle.std.proofs.lemmas.Bool.Decides.{nat_tests}
use Rattle.mad_format.specs.LineRules.{LineRules}
use Rattle.mad_sections.specs.Gutters.{columns_of, shown, shown_at}
use Rattle.mad_sections.specs.Sections.{SectionContent}
use Rattle.mad_sections.specs.declared.gutters.Gutter.{Gutter}
use Rattle.mad_pages.proofs.PageLemmas.{sections_are_layouts, later_rows}
use Rattle.mad_pages.specs.PageLayouts.{IsSectionAt}
use Rattle.mad_pages.specs.PageRows.{RowContent}
use Rattle.markdown_layout.specs.NestedRows.{FitInHalf, AreBegun, RowsNest}

is_less : (m n : ℕ) → m < n → nat_lt m n ≡ true
is_less m n l = grind (arith, nat_tests)

all_at : (ascii : Bool) (width : ℕ) (gutters : List Gutter) → 2 * columns_of ascii gutters < width → shown_at ascii width gutters ≡ gutters
all_at ascii width [] h = refl
all_at ascii width (g ∷ gutters) h = ap (λ t. if t then g ∷ gutters else shown_at ascii width gutters) (is_less (2 * columns_of ascii (g ∷ gutters)) width h)

all_shown : (ascii : Bool) (width : Option ℕ) (gutters : List Gutter) → FitInHalf ascii width gutters → shown ascii width gutters ≡ gutters
all_shown ascii None gutters h = refl
all_shown ascii (Some width) gutters h = all_at ascii width gutters h

begun : (rules : LineRules) (ascii : Bool) (width : Option ℕ) (section : SectionContent) (rows : List RowContent) → IsSectionAt rules ascii width section rows → AreBegun section.fresh rows
begun rules ascii width section [] s = tt
begun rules ascii width section (row ∷ rows) s = later_rows rules ascii width section row rows s

-- where its gutters take less than half of the width, each row of a section is behind all of them
pub rows_nest : RowsNest
rows_nest rules ascii width section rows s fit =
    (subst (λ (gutters : List Gutter). AllByRecursion (λ (row : RowContent). row.gutters ≡ gutters) rows) (all_shown ascii width section.gutters fit) (sections_are_layouts rules ascii width section rows s).gutters, begun rules ascii width section rows s)
