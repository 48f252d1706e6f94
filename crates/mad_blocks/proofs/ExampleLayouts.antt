-- The definitions refuse some wrong layouts.
use Rattle.std.proofs.Common.{◌≡◌, ℕ, ◌-◌, ◌<◌, ◌≤◌, inl, inr, List, [], ◌∷◌, map, Option, None, Some, refl, ap, ◌∙◌, arith}
use Rattle.std.proofs.lemmas.Bool.Decides.{nat_tests}
use Rattle.mad_style.specs.LineStyles.{margins_at}
use Rattle.mad_style.specs.declared.line_styles.LineStyle.{LineStyle}
use Rattle.mad_measure.specs.declared.spacing.Spacing.{Spacing}
use Rattle.mad_style.specs.declared.kinds.CompositeKind.TheVariants.{Code}
use Rattle.mad_wrap.specs.WrapLines.{HasRoom}
use Rattle.mad_wrap.proofs.WrapModes.{by_fits}
use Rattle.mad_format.specs.CompositeWraps.{IsCompositeWrap}
use Rattle.mad_format.specs.Indents.{indent, room_of}
use Rattle.mad_blocks.specs.LayoutExamples.{MarginsTestedAgainAreRefused, LongLineLeftIsRefused, LastLinesWidthIsRefused}
use Rattle.mad_format.specs.WrappedLines.{IsWrapped, line_with, style_margins}
use Rattle.mad_format.specs.Wraps.{text_of}
use Rattle.mad_format.specs.LineRules.{LineRules}
use Rattle.mad_format.specs.declared.composite.FmtComposite.{FmtComposite}
use Rattle.mad_format.specs.declared.line.FmtLine.{FmtLine}
use Rattle.mad_format.specs.declared.line.FmtLine.TheVariants.{Normal}

-- the left margin that the first line keeps
abbrev left_margin_of : Option (ℕ × ℕ) → ℕ
left_margin_of None = 0
left_margin_of (Some m) = m.0

abbrev first_left : List FmtLine → ℕ
first_left (Normal l ∷ ls) = left_margin_of l.margins
first_left _ = 0

no_left : (margins : ℕ × ℕ) (wrap : List FmtComposite) → margins.0 ≡ 0 → first_left (map (line_with margins) wrap) ≡ 0
no_left margins [] none = refl
no_left margins (l ∷ ls) none = none

no_margins : (style : LineStyle) → style.left_margin ≡ 4 → style.right_margin ≡ 4 → (margins_at style (Some 10)).0 ≡ 0
no_margins style left right = grind (arith, nat_tests, left, right)

tested : (skin : LineRules) (l : FmtComposite) → (style_margins skin 10 l).0 ≡ 0 → IsWrapped skin 10 l (line_with (4, 4) l ∷ []) → ⊥
tested skin l none (inl (fits, is)) = absurd (omega (arith, ap first_left is, none))
tested skin l none (inr (wide, (wrap, wraps, is))) = absurd (omega (arith, ap first_left is, no_left (style_margins skin 10 l) wrap none))

-- margins that are tested again at the width that is drawn are refused
pub margins_tested_again : MarginsTestedAgainAreRefused
margins_tested_again skin l code left right laid =
    let style : skin.line_style l.kind ≡ skin.line_style Code = ap skin.line_style code in
    tested skin l (ap (λ s. (margins_at s (Some 10)).0) style ∙ no_margins (skin.line_style Code) left right) laid

-- the cached length of the first line
abbrev first_length : List FmtLine → ℕ
first_length (Normal l ∷ ls) = l.visible_length
first_length _ = 0

first_fits : (skin : LineRules) (width : ℕ) (l : FmtComposite) (wrap : List FmtComposite) (n : ℕ) (margins : ℕ × ℕ) → HasRoom (room_of skin l.kind width) (text_of l) → IsCompositeWrap skin width l wrap → n ≡ first_length (map (line_with margins) wrap) → n ≤ width
first_fits skin width l [] n margins room wraps is = omega (arith, is)
first_fits skin width l (x ∷ xs) n margins room wraps is =
    let fits = (by_fits skin.whole_words _ _ _ wraps.wrap room).0 in
    let kind = ap (indent skin.list_items_indentation_mode) wraps.made.kinds.0 in
    omega (arith, is, wraps.made.measured.0, fits, kind)

left : (skin : LineRules) (width : ℕ) (l : FmtComposite) (margins : ℕ × ℕ) → width < l.visible_length → HasRoom (room_of skin l.kind (width - (style_margins skin width l).0 - (style_margins skin width l).1)) (text_of l) → IsWrapped skin width l (line_with margins l ∷ []) → ⊥
left skin width l margins wide room (inl (fits, is)) = absurd (omega (arith, wide, fits))
left skin width l margins wide room (inr (wider, (wrap, wraps, is))) =
    absurd (omega (arith, wide, first_fits skin (width - (style_margins skin width l).0 - (style_margins skin width l).1) l wrap l.visible_length (style_margins skin width l) room wraps (ap first_length is)))

-- a long line that is left as it is, where its characters have room, is refused
pub long_line_left : LongLineLeftIsRefused
long_line_left skin width l margins wide room laid = left skin width l margins wide room laid

-- the columns of a place, and of the first line's
abbrev place_width : Option Spacing → ℕ
place_width None = 0
place_width (Some s) = s.width

abbrev first_width : List FmtComposite → ℕ
first_width [] = 0
first_width (l ∷ ls) = place_width l.spacing

-- a block as wide as its last line, which is narrower than the first, is refused
pub last_lines_width : LastLinesWidthIsRefused
last_lines_width a b wider same = absurd (omega (arith, wider, ap first_width same))
