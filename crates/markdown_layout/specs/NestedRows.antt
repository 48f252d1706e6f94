-- Rows behind all gutters of their section.
use Rattle.std.specs.Prelude.{◌≡◌, ℕ, ◌*◌, ◌<◌, Bool, List, [], ◌∷◌, Option, Some, None}
use Rattle.std.specs.List.{AllByRecursion}
use Rattle.mad_format.specs.LineRules.{LineRules}
use Rattle.mad_sections.specs.Gutters.{columns_of}
use Rattle.mad_sections.specs.Sections.{SectionContent}
use Rattle.mad_sections.specs.declared.gutters.Gutter.{Gutter}
use Rattle.mad_pages.specs.PageLayouts.{IsSectionAt}
use Rattle.mad_pages.specs.PageRows.{RowContent}

-- gutters take less than half of the width, if there is one
abbrev pub FitInHalf : Bool → Option ℕ → List Gutter → Type 0
FitInHalf ascii None gutters = Unit {0}
FitInHalf ascii (Some width) gutters = 2 * columns_of ascii gutters < width

-- those that begin with a section have their first face in front of the first row, and no gutter has in front of the others
abbrev pub AreBegun : ℕ → List RowContent → Type 0
AreBegun fresh [] = Unit {0}
AreBegun fresh (row ∷ rows) = (row.fresh ≡ fresh) × AllByRecursion (λ (row : RowContent). row.fresh ≡ 0) rows

-- Where its gutters take less than half of the width, each row of a section is behind all of them, and the first row has the first faces of those that begin.
abbrev pub RowsNest : Type 0
RowsNest = (rules : LineRules) (ascii : Bool) (width : Option ℕ) (section : SectionContent) (rows : List RowContent)
    → IsSectionAt rules ascii width section rows → FitInHalf ascii width section.gutters → AllByRecursion (λ (row : RowContent). row.gutters ≡ section.gutters) rows × AreBegun section.fresh rows
