-- Lines of a layout that are wrapped at a width.
use Rattle.std.specs.Prelude.{◌≡◌, ℕ, ◌+◌, ◌<◌, ◌≤◌, ◌⊎◌, List, [], ◌∷◌, map, Some}
use Rattle.std.specs.List.{AllByRecursion}
use Rattle.mad_style.specs.LineStyles.{margins_at, width_inside}
use Rattle.mad_format.specs.CompositeWraps.{IsCompositeWrap}
use Rattle.mad_format.specs.Wraps.{IsMeasured}
use Rattle.mad_format.specs.LineRules.{LineRules}
use Rattle.mad_format.specs.Lists.{EachBecomes}
use Rattle.mad_format.specs.declared.composite.FmtComposite.{FmtComposite}
use Rattle.mad_format.specs.declared.line.FmtLine.{FmtLine}
use Rattle.mad_format.specs.declared.line.FmtLine.TheVariants.{Normal, TableRow, TableRule, HorizontalRule}

-- the margins (left, right) of a composite at a width, those of its kind's style
abbrev pub style_margins : LineRules → ℕ → FmtComposite → ℕ × ℕ
style_margins skin width l = margins_at (skin.line_style l.kind) (Some width)

-- the columns that they leave
abbrev pub inner_columns_at : LineRules → ℕ → FmtComposite → ℕ
inner_columns_at skin width l = width_inside (skin.line_style l.kind) width

-- the composite fits with its margins, by its cached length
abbrev pub FitsWithMargins : LineRules → ℕ → FmtComposite → Type 0
FitsWithMargins skin width l = l.visible_length + (style_margins skin width l).0 + (style_margins skin width l).1 ≤ width

-- the composite as a line that keeps these margins
abbrev pub line_with : ℕ × ℕ → FmtComposite → FmtLine
line_with margins l = Normal (record l { margins = Some margins })

-- what a composite is wrapped into at a width: some kind of wrap
abbrev pub Wrap : Type 1
Wrap = LineRules → ℕ → FmtComposite → List FmtComposite → Type 0

-- A composite that fits with its margins stays, any other is wrapped in what they leave of the width. Each line keeps them.
abbrev pub IsLaidOutBy : Wrap → LineRules → ℕ → FmtComposite → List FmtLine → Type 0
IsLaidOutBy wraps skin width source lines =
    let margins = style_margins skin width source in
    (FitsWithMargins skin width source × (lines ≡ line_with margins source ∷ []))
    ⊎ ((width < source.visible_length + margins.0 + margins.1)
    × ((wrap : List FmtComposite) × wraps skin (inner_columns_at skin width source) source wrap × (lines ≡ map (line_with margins) wrap)))

-- what becomes of a line; rules and lines of tables stay
abbrev pub IsLineLaidOutBy : Wrap → LineRules → ℕ → FmtLine → List FmtLine → Type 0
IsLineLaidOutBy wraps skin width (Normal source) lines = IsLaidOutBy wraps skin width source lines
IsLineLaidOutBy wraps skin width (TableRow row) lines = lines ≡ TableRow row ∷ []
IsLineLaidOutBy wraps skin width (TableRule rule) lines = lines ≡ TableRule rule ∷ []
IsLineLaidOutBy wraps skin width HorizontalRule lines = lines ≡ HorizontalRule ∷ []

-- what becomes of each of the lines, in order
abbrev pub AreLaidOutBy : Wrap → LineRules → ℕ → List FmtLine → List FmtLine → Type 0
AreLaidOutBy wraps skin width = EachBecomes (IsLineLaidOutBy wraps skin width)

-- a composite is laid out so, with the fewest lines
abbrev pub IsWrapped : LineRules → ℕ → FmtComposite → List FmtLine → Type 0
IsWrapped = IsLaidOutBy IsCompositeWrap

-- so is a line
abbrev pub IsLineWrapped : LineRules → ℕ → FmtLine → List FmtLine → Type 0
IsLineWrapped = IsLineLaidOutBy IsCompositeWrap

-- so is each of the lines, in order
abbrev pub AreLinesWrapped : LineRules → ℕ → List FmtLine → List FmtLine → Type 0
AreLinesWrapped = AreLaidOutBy IsCompositeWrap

-- the line's cached lengths are right
abbrev pub IsLineMeasured : LineRules → FmtLine → Type 0
IsLineMeasured skin (Normal l) = IsMeasured skin l
IsLineMeasured skin (TableRow row) = AllByRecursion (IsMeasured skin) row.cells.items
IsLineMeasured skin (TableRule rule) = Unit {0}
IsLineMeasured skin HorizontalRule = Unit {0}

-- the line fits with its margins, by that length; rules and lines of tables always do
abbrev pub LineFits : LineRules → ℕ → FmtLine → Type 0
LineFits skin width (Normal l) = FitsWithMargins skin width l
LineFits skin width _ = Unit {0}

-- the cached lengths of all lines are right
abbrev pub AllMeasured : LineRules → List FmtLine → Type 0
AllMeasured skin lines = AllByRecursion (IsLineMeasured skin) lines

-- all lines fit with their margins
abbrev pub AllFit : LineRules → ℕ → List FmtLine → Type 0
AllFit skin width lines = AllByRecursion (LineFits skin width) lines
