-- Going over tokens one by one gives what the definitions say of them.
use Rattle.std.proofs.Common.{◌≡◌, ℕ, ◌≤◌, Bool, true, false, List, [], ◌∷◌, length, drop, refl, sym, ap, ◌∙◌, Option, Some, None}
use Rattle.std.specs.Option.{option_or}
use Rattle.std.proofs.lemmas.List.{drop_all}
use Rattle.mad_md.specs.declared.alignment.Alignment.TheVariants.{Unspecified}
use Rattle.mad_term.specs.declared.color.Color.{Color}
use Rattle.mad_style.specs.declared.compound_styles.CompoundStyle.{CompoundStyle}
use Rattle.mad_style.specs.declared.line_styles.LineStyle.{LineStyle}
use Rattle.mad_style.specs.CompoundStyles.{unstyled, foreground_set, background_set, attribute_added}
use Rattle.mad_style.specs.LineStyles.{unmargined}
use Rattle.mad_parse.specs.TokenStyles.{first_or, last_or, colors_of, attributes_of, aligns_of, numbers_of, last_color, all_added, style_of, line_style_of}
use Rattle.mad_parse.specs.declared.tokens.StyleToken.{StyleToken}
use Rattle.mad_parse.specs.declared.tokens.StyleToken.TheVariants as token

-- a style after more tokens; the flag says whether the foreground is settled
abbrev pub style_after : Bool → CompoundStyle → List StyleToken → CompoundStyle
style_after settled s [] = s
style_after false s (token.Color c ∷ ts) = style_after true (foreground_set s c) ts
style_after true s (token.Color c ∷ ts) = style_after true (background_set s c) ts
style_after settled s (token.None ∷ ts) = style_after true s ts
style_after settled s (token.Attribute a ∷ ts) = style_after settled (attribute_added s a) ts
style_after settled s (_ ∷ ts) = style_after settled s ts

-- a style with another color, where that is present
abbrev with_background : CompoundStyle → Option Color → CompoundStyle
with_background s color = record s { object_style = record s.object_style { background_color = option_or color s.object_style.background_color } }

abbrev with_foreground : CompoundStyle → Option Color → CompoundStyle
with_foreground s color = record s { object_style = record s.object_style { foreground_color = option_or color s.object_style.foreground_color } }

abbrev with_colors : CompoundStyle → List (Option Color) → CompoundStyle
with_colors s [] = s
with_colors s (color ∷ colors) = with_background (with_foreground s color) (last_color colors)

-- of a color and the later ones the last that is present
later_color : (o : Option Color) (s : CompoundStyle) (c : Color) → with_background (background_set s c) o ≡ with_background s (option_or o (Some c))
later_color None s c = refl
later_color (Some d) s c = refl

later_none : (o : Option Color) → option_or o None ≡ o
later_none None = refl
later_none (Some d) = refl

after_settled : (s : CompoundStyle) (ts : List StyleToken) → style_after true s ts ≡ all_added (with_background s (last_color (colors_of ts))) (attributes_of ts)
after_settled s [] = refl
after_settled s (token.Color c ∷ ts) = after_settled (background_set s c) ts ∙ ap (λ t. all_added t (attributes_of ts)) (later_color (last_color (colors_of ts)) s c)
after_settled s (token.None ∷ ts) = after_settled s ts ∙ ap (λ o. all_added (with_background s o) (attributes_of ts)) (sym (later_none (last_color (colors_of ts))))
after_settled s (token.Attribute a ∷ ts) = after_settled (attribute_added s a) ts
after_settled s (_ ∷ ts) = after_settled s ts

after_colors : (s : CompoundStyle) (colors : List (Option Color)) (a : _) → with_colors (attribute_added s a) colors ≡ attribute_added (with_colors s colors) a
after_colors s [] a = refl
after_colors s (color ∷ colors) a = refl

after_all : (s : CompoundStyle) (ts : List StyleToken) → style_after false s ts ≡ all_added (with_colors s (colors_of ts)) (attributes_of ts)
after_all s [] = refl
after_all s (token.Color c ∷ ts) = after_settled (foreground_set s c) ts
after_all s (token.None ∷ ts) = after_settled s ts
after_all s (token.Attribute a ∷ ts) = after_all (attribute_added s a) ts ∙ ap (λ t. all_added t (attributes_of ts)) (after_colors s (colors_of ts) a)
after_all s (_ ∷ ts) = after_all s ts

none_first : (colors : List (Option Color)) → with_colors unstyled colors ≡ record unstyled { object_style = record unstyled.object_style { foreground_color = first_or None colors; background_color = last_color (drop 1 colors) } }
none_first [] = refl
none_first (color ∷ colors) =
    ap (λ o. record unstyled { object_style = record unstyled.object_style { foreground_color = o; background_color = option_or (last_color colors) None } }) (later_none color)
    ∙ ap (λ o. record unstyled { object_style = record unstyled.object_style { foreground_color = color; background_color = o } }) (later_none (last_color colors))

-- the style after all tokens
pub styled_all : (ts : List StyleToken) → style_after false unstyled ts ≡ style_of ts
styled_all ts = after_all unstyled ts ∙ ap (λ s. all_added s (attributes_of ts)) (none_first (colors_of ts))

-- a line's style after more tokens; the flag says whether the left margin is settled
abbrev pub placed_after : Bool → LineStyle → List StyleToken → LineStyle
placed_after second s [] = s
placed_after second s (token.Align align ∷ ts) = placed_after second (record s { align = align }) ts
placed_after false s (token.Dimension n ∷ ts) = placed_after true (record s { left_margin = n }) ts
placed_after true s (token.Dimension n ∷ ts) = placed_after true (record s { right_margin = n }) ts
placed_after second s (_ ∷ ts) = placed_after second s ts

placed_second : (s : LineStyle) (ts : List StyleToken) → placed_after true s ts ≡ record s { align = last_or s.align (aligns_of ts); right_margin = last_or s.right_margin (numbers_of ts) }
placed_second s [] = refl
placed_second s (token.Align align ∷ ts) = placed_second (record s { align = align }) ts
placed_second s (token.Dimension n ∷ ts) = placed_second (record s { right_margin = n }) ts
placed_second s (_ ∷ ts) = placed_second s ts

placed_first : (s : LineStyle) (ts : List StyleToken)
    → placed_after false s ts ≡ record s { align = last_or s.align (aligns_of ts); left_margin = first_or s.left_margin (numbers_of ts); right_margin = last_or s.right_margin (drop 1 (numbers_of ts)) }
placed_first s [] = refl
placed_first s (token.Align align ∷ ts) = placed_first (record s { align = align }) ts
placed_first s (token.Dimension n ∷ ts) = placed_second (record s { left_margin = n }) ts
placed_first s (_ ∷ ts) = placed_first s ts

-- the line's style after all tokens
pub placed_all : (ts : List StyleToken) → placed_after false (unmargined (style_of ts) Unspecified) ts ≡ line_style_of ts
placed_all ts = placed_first (unmargined (style_of ts) Unspecified) ts

-- at the end of the tokens
pub style_done : (settled : Bool) (s : CompoundStyle) (ts : List StyleToken) (i : ℕ) → length ts ≤ i → style_after settled s (drop i ts) ≡ style_after false unstyled ts → s ≡ style_of ts
style_done settled s ts i past held = sym (ap (style_after settled s) (drop_all i ts past)) ∙ held ∙ styled_all ts

-- after the last token
pub line_done : (second : Bool) (s : LineStyle) (ts : List StyleToken) (i : ℕ) → length ts ≤ i → placed_after second s (drop i ts) ≡ placed_after false (unmargined (style_of ts) Unspecified) ts → s ≡ line_style_of ts
line_done second s ts i past held = sym (ap (placed_after second s) (drop_all i ts past)) ∙ held ∙ placed_all ts
