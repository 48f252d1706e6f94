-- The tokens of a style say that style.
use Rattle.std.proofs.Common.{◌≡◌, Bool, true, List, [], ◌∷◌, ◌++◌, map, filter, drop, refl, sym, ap, ◌∙◌, subst, append-nil, append_assoc, Option, Some, None, inl, inr}
use Rattle.std.specs.List.{list_all}
use Rattle.std.proofs.lemmas.Bool.{cases_Bool, cond-false, cond-true, and_parts}
use Rattle.std.proofs.lemmas.List.Elements.{filter_map-append}
use Rattle.mad_term.specs.Attributes.{has_attribute}
use Rattle.mad_term.specs.AttributeSets.{no_attributes, only, united}
use Rattle.mad_term.specs.Color.{IsColorOrNone}
use Rattle.mad_term.specs.declared.attribute.Attribute.{Attribute}
use Rattle.mad_term.specs.declared.attributes.Attributes.{Attributes}
use Rattle.mad_term.specs.declared.color.Color.{Color}
use Rattle.mad_term.specs.declared.color.Color.TheVariants as color
use Rattle.mad_style.specs.declared.compound_styles.CompoundStyle.{CompoundStyle}
use Rattle.mad_style.specs.CompoundStyles.{text_style}
use Rattle.mad_parse.specs.ReadsBack.{is_written, IsReadBackColor, IsReadBackOrNone, IsReadBackStyle}
use Rattle.mad_parse.specs.TokenStyles.{first_or, color_said, attribute_said, colors_of, attributes_of, last_color, all_added, style_of}
use Rattle.mad_parse.specs.Written.{written_attributes, foreground_tokens, background_tokens, attribute_tokens, style_tokens}
use Rattle.mad_parse.specs.declared.tokens.StyleToken.{StyleToken}
use Rattle.mad_parse.specs.declared.tokens.StyleToken.TheVariants as token
use Rattle.mad_parse.proofs.AttributeLaw.{added, added_back}
use Rattle.mad_parse.proofs.ReadTokens.{AllRead, all_append, read_color, read_none, read_attribute}

-- ---- the colors

foreground_written : (c : Color) (background : Option Color) → IsReadBackColor c → foreground_tokens (Some c) background ≡ token.Color c ∷ []
foreground_written color.Reset background h = absurd h
foreground_written color.Black background h = absurd h
foreground_written color.White background h = absurd h
foreground_written _ background h = refl

background_written : (c : Color) → IsReadBackColor c → background_tokens (Some c) ≡ token.Color c ∷ []
background_written color.Reset h = absurd h
background_written color.Black h = absurd h
background_written color.White h = absurd h
background_written _ h = refl

-- the tokens of two colors: none, `none` and a background, a foreground, or both
abbrev pub two_colors : Option Color → Option Color → List StyleToken
two_colors None None = []
two_colors None (Some b) = token.None ∷ token.Color b ∷ []
two_colors (Some f) None = token.Color f ∷ []
two_colors (Some f) (Some b) = token.Color f ∷ token.Color b ∷ []

colors_written : (f b : Option Color) → IsReadBackOrNone f → IsReadBackOrNone b → foreground_tokens f b ++ background_tokens b ≡ two_colors f b
colors_written None None h k = refl
colors_written None (Some b) h k = ap (λ l. token.None ∷ l) (background_written b k)
colors_written (Some f) None h k = ap (λ l. l ++ []) (foreground_written f None h)
colors_written (Some f) (Some b) h k = ap (λ l. l ++ background_tokens (Some b)) (foreground_written f (Some b) h) ∙ ap (λ l. token.Color f ∷ l) (background_written b k)

colors_first : (f b : Option Color) → first_or None (colors_of (two_colors f b)) ≡ f
colors_first None None = refl
colors_first None (Some b) = refl
colors_first (Some f) None = refl
colors_first (Some f) (Some b) = refl

colors_last : (f b : Option Color) → last_color (drop 1 (colors_of (two_colors f b))) ≡ b
colors_last None None = refl
colors_last None (Some b) = refl
colors_last (Some f) None = refl
colors_last (Some f) (Some b) = refl

colors_alone : (f b : Option Color) → attributes_of (two_colors f b) ≡ []
colors_alone None None = refl
colors_alone None (Some b) = refl
colors_alone (Some f) None = refl
colors_alone (Some f) (Some b) = refl

colors_read : (f b : Option Color) → IsColorOrNone f → IsColorOrNone b → IsReadBackOrNone f → IsReadBackOrNone b → AllRead (two_colors f b)
colors_read None None p q h k = tt
colors_read None (Some b) p q h k = (read_none, (read_color b q k, tt))
colors_read (Some f) None p q h k = (read_color f p h, tt)
colors_read (Some f) (Some b) p q h k = (read_color f p h, (read_color b q k, tt))

-- ---- the attributes

attributes_colorless : (list : List Attribute) → colors_of (map token.Attribute list) ≡ []
attributes_colorless [] = refl
attributes_colorless (a ∷ list) = attributes_colorless list

attributes_back : (list : List Attribute) → attributes_of (map token.Attribute list) ≡ list
attributes_back [] = refl
attributes_back (a ∷ list) = ap (λ l. a ∷ l) (attributes_back list)

styled_added : (f b : Option Color) (s : Attributes) (list : List Attribute) → all_added (text_style f b s) list ≡ text_style f b (added s list)
styled_added f b s [] = refl
styled_added f b s (a ∷ list) = styled_added f b (united s (only a)) list

-- ---- a style

-- its tokens are those of its colors and those of its attributes
pub tokens_are : (s : CompoundStyle) → IsReadBackStyle s
    → style_tokens s ≡ two_colors s.object_style.foreground_color s.object_style.background_color ++ attribute_tokens s.object_style.attributes
tokens_are s h =
    let o = s.object_style in
    sym (append_assoc (foreground_tokens o.foreground_color o.background_color) (background_tokens o.background_color) (attribute_tokens o.attributes))
    ∙ ap (λ l. l ++ attribute_tokens o.attributes) (colors_written o.foreground_color o.background_color h.foreground h.background)

style_colors : (s : CompoundStyle) → IsReadBackStyle s → colors_of (style_tokens s) ≡ colors_of (two_colors s.object_style.foreground_color s.object_style.background_color)
style_colors s h =
    let two = two_colors s.object_style.foreground_color s.object_style.background_color in
    let list = filter (has_attribute s.object_style.attributes) written_attributes in
    ap colors_of (tokens_are s h) ∙ filter_map-append color_said two (map token.Attribute list) ∙ ap (λ l. colors_of two ++ l) (attributes_colorless list) ∙ append-nil (colors_of two)

style_attributes : (s : CompoundStyle) → IsReadBackStyle s → attributes_of (style_tokens s) ≡ filter (has_attribute s.object_style.attributes) written_attributes
style_attributes s h =
    let two = two_colors s.object_style.foreground_color s.object_style.background_color in
    let list = filter (has_attribute s.object_style.attributes) written_attributes in
    ap attributes_of (tokens_are s h) ∙ filter_map-append attribute_said two (map token.Attribute list)
    ∙ ap (λ l. l ++ attributes_of (map token.Attribute list)) (colors_alone s.object_style.foreground_color s.object_style.background_color) ∙ attributes_back list

no_underline : (s : CompoundStyle) → s.object_style.underline_color ≡ None → text_style s.object_style.foreground_color s.object_style.background_color s.object_style.attributes ≡ s
no_underline s e = ap (λ u. record s { object_style = record s.object_style { underline_color = u } }) (sym e)

-- a style is what is said by tokens of its colors and its attributes
style_from : (s : CompoundStyle) (ts : List StyleToken) → IsReadBackStyle s → colors_of ts ≡ colors_of (style_tokens s) → attributes_of ts ≡ attributes_of (style_tokens s) → style_of ts ≡ s
style_from s ts h colors attributes =
    let o = s.object_style in
    let cs : colors_of ts ≡ colors_of (two_colors o.foreground_color o.background_color) = colors ∙ style_colors s h in
    let list = filter (has_attribute o.attributes) written_attributes in
    ap (λ l. all_added (text_style (first_or None l) (last_color (drop 1 l)) no_attributes) (attributes_of ts)) cs
    ∙ ap (λ f. all_added (text_style f (last_color (drop 1 (colors_of (two_colors o.foreground_color o.background_color)))) no_attributes) (attributes_of ts)) (colors_first o.foreground_color o.background_color)
    ∙ ap (λ b. all_added (text_style o.foreground_color b no_attributes) (attributes_of ts)) (colors_last o.foreground_color o.background_color)
    ∙ ap (all_added (text_style o.foreground_color o.background_color no_attributes)) (attributes ∙ style_attributes s h)
    ∙ styled_added o.foreground_color o.background_color no_attributes list
    ∙ ap (text_style o.foreground_color o.background_color) (added_back o.attributes h.attributes)
    ∙ no_underline s h.underline

-- also with tokens before and after that say nothing of a style
pub style_back : (s : CompoundStyle) (before after : List StyleToken) → IsReadBackStyle s → colors_of before ≡ [] → attributes_of before ≡ [] → colors_of after ≡ [] → attributes_of after ≡ []
    → style_of (before ++ (style_tokens s ++ after)) ≡ s
style_back s before after h c1 a1 c2 a2 =
    style_from s (before ++ (style_tokens s ++ after)) h
    (filter_map-append color_said before (style_tokens s ++ after) ∙ ap (λ l. l ++ colors_of (style_tokens s ++ after)) c1 ∙ filter_map-append color_said (style_tokens s) after ∙ ap (λ l. colors_of (style_tokens s) ++ l) c2 ∙ append-nil _)
    (filter_map-append attribute_said before (style_tokens s ++ after) ∙ ap (λ l. l ++ attributes_of (style_tokens s ++ after)) a1 ∙ filter_map-append attribute_said (style_tokens s) after ∙ ap (λ l. attributes_of (style_tokens s) ++ l) a2
    ∙ append-nil _)

-- ---- each token of a style is read back

attributes_read : (p : Attribute → Bool) (list : List Attribute) → list_all is_written list ≡ true → AllRead (map token.Attribute (filter p list))
attributes_read p [] h = tt
attributes_read p (a ∷ list) h =
    elim (cases_Bool (p a)) as (λ _. AllRead (map token.Attribute (filter p (a ∷ list)))) [
      | inl has ↦ subst (λ l. AllRead (map token.Attribute l)) (sym (cond-true (p a) (a ∷ filter p list) (filter p list) has)) (read_attribute a (and_parts _ _ h).0, attributes_read p list (and_parts _ _ h).1)
      | inr hasnt ↦ subst (λ l. AllRead (map token.Attribute l)) (sym (cond-false (p a) (a ∷ filter p list) (filter p list) hasnt)) (attributes_read p list (and_parts _ _ h).1)
    ]

-- the tokens of a style are each read
pub style_read : (s : CompoundStyle) → IsReadBackStyle s → IsColorOrNone s.object_style.foreground_color → IsColorOrNone s.object_style.background_color → AllRead (style_tokens s)
style_read s h p q =
    let o = s.object_style in
    subst AllRead (sym (tokens_are s h))
    (all_append (two_colors o.foreground_color o.background_color) (attribute_tokens o.attributes) (colors_read o.foreground_color o.background_color p q h.foreground h.background)
    (attributes_read (has_attribute o.attributes) written_attributes refl))
