-- Lines that aren't the layout of a text.
use Rattle.std.specs.Prelude.{◌≡◌, ℕ, ◌<◌, [], ◌∷◌, map, None}
use Rattle.mad_wrap.specs.WrapLines.{HasRoom}
use Rattle.mad_format.specs.Indents.{room_of}
use Rattle.mad_blocks.specs.LayoutParts.{justified, placed_code}
use Rattle.mad_format.specs.WrappedLines.{IsLineWrapped, inner_columns_at, line_with}
use Rattle.mad_format.specs.Wraps.{text_of}
use Rattle.mad_format.specs.LineRules.{LineRules}
use Rattle.mad_format.specs.declared.composite.FmtComposite.{FmtComposite}
use Rattle.mad_format.specs.declared.line.FmtLine.TheVariants.{Normal}
use Rattle.mad_style.specs.declared.kinds.CompositeKind.TheVariants.{Code}

-- margins tested again at the width that is drawn: code with four columns on each side, laid out at ten columns, where they leave no
-- room, and given them all the same
abbrev pub MarginsTestedAgainAreRefused : Type 0
MarginsTestedAgainAreRefused = (skin : LineRules) (l : FmtComposite) → l.kind ≡ Code → (skin.line_style Code).left_margin ≡ 4 → (skin.line_style Code).right_margin ≡ 4 → ¬ (IsLineWrapped skin 10 (Normal l) (line_with (4, 4) l ∷ []))

-- a long line left as it is, where each of its characters has room
abbrev pub LongLineLeftIsRefused : Type 0
LongLineLeftIsRefused = (skin : LineRules) (width : ℕ) (l : FmtComposite) (margins : ℕ × ℕ) → width < l.visible_length
    → HasRoom (room_of skin l.kind (inner_columns_at skin width l)) (text_of l) → ¬ (IsLineWrapped skin width (Normal l) (line_with margins l ∷ []))

-- a block as wide as its last line, which is narrower than the first
abbrev pub LastLinesWidthIsRefused : Type 0
LastLinesWidthIsRefused = (a b : FmtComposite) → b.visible_length < a.visible_length → ¬ (justified None (a ∷ b ∷ []) ≡ map (placed_code b.visible_length) (a ∷ b ∷ []))
