-- Styles that compare equal are the same.
use Rattle.std.proofs.Common.{◌≡◌, ℕ, Bool, true, false, ◌&&◌, ◌++◌, eqb, List, Option, Some, None, refl, ap, ◌∙◌, subst}
use Rattle.std.specs.Prelude.{Result, OnOk}
use Rattle.std.specs.Option.{option_eq}
use Rattle.std.proofs.lemmas.Bool.{false≢true, eqb-true}
use Rattle.mad_style.specs.declared.compound_styles.CompoundStyle.{CompoundStyle}
use Rattle.mad_term.specs.contracts.color.ColorPartialEq.TheImpl as color_equality
use Rattle.mad_term.specs.contracts.styles.ContentStylePartialEq.TheImpl as style_equality
use Rattle.mad_term.specs.declared.color.Color.{Color}
use Rattle.mad_term.specs.declared.color.Color.TheVariants.{Reset, Black, DarkGrey, Red, DarkRed, Green, DarkGreen, Yellow, DarkYellow, Blue, DarkBlue, Magenta, DarkMagenta, Cyan, DarkCyan, White, Grey, Rgb, AnsiValue}
use Rattle.mad_term.specs.declared.styles.ContentStyle.{ContentStyle}
use Rattle.mad_term.specs.Attributes.{attribute_bits}
use Rattle.mad_term.specs.Styles.{closing_bytes, opening_bytes, piece_bytes}
use Rattle.mad_term.proofs.SameAttributes.{same_bits}

abbrev same_color : Color → Color → Bool
same_color = (color_equality.ghosts).eq

-- what `==` answers of two styles
abbrev pub same_style : ContentStyle → ContentStyle → Bool
same_style = (style_equality.ghosts).eq

both_true : (a b : Bool) → (a && b) ≡ true → (a ≡ true) × (b ≡ true)
both_true true b h = (refl, h)
both_true false b h = absurd (false≢true h)

color_true : (a b : Color) → same_color a b ≡ true → a ≡ b
color_true Reset Reset h = refl
color_true Reset _ h = absurd (false≢true h)
color_true Black Black h = refl
color_true Black _ h = absurd (false≢true h)
color_true DarkGrey DarkGrey h = refl
color_true DarkGrey _ h = absurd (false≢true h)
color_true Red Red h = refl
color_true Red _ h = absurd (false≢true h)
color_true DarkRed DarkRed h = refl
color_true DarkRed _ h = absurd (false≢true h)
color_true Green Green h = refl
color_true Green _ h = absurd (false≢true h)
color_true DarkGreen DarkGreen h = refl
color_true DarkGreen _ h = absurd (false≢true h)
color_true Yellow Yellow h = refl
color_true Yellow _ h = absurd (false≢true h)
color_true DarkYellow DarkYellow h = refl
color_true DarkYellow _ h = absurd (false≢true h)
color_true Blue Blue h = refl
color_true Blue _ h = absurd (false≢true h)
color_true DarkBlue DarkBlue h = refl
color_true DarkBlue _ h = absurd (false≢true h)
color_true Magenta Magenta h = refl
color_true Magenta _ h = absurd (false≢true h)
color_true DarkMagenta DarkMagenta h = refl
color_true DarkMagenta _ h = absurd (false≢true h)
color_true Cyan Cyan h = refl
color_true Cyan _ h = absurd (false≢true h)
color_true DarkCyan DarkCyan h = refl
color_true DarkCyan _ h = absurd (false≢true h)
color_true White White h = refl
color_true White _ h = absurd (false≢true h)
color_true Grey Grey h = refl
color_true Grey _ h = absurd (false≢true h)
color_true (Rgb r g b) (Rgb s t u) h =
    let first = both_true (eqb r s) (eqb g t && eqb b u) h in
    let rest = both_true (eqb g t) (eqb b u) first.1 in
    let red : r ≡ s = eqb-true r s first.0 in
    let green : g ≡ t = eqb-true g t rest.0 in
    let blue : b ≡ u = eqb-true b u rest.1 in
    cc
color_true (Rgb r g b) _ h = absurd (false≢true h)
color_true (AnsiValue n) (AnsiValue m) h = ap AnsiValue (eqb-true n m h)
color_true (AnsiValue n) _ h = absurd (false≢true h)

option_true : (a b : Option Color) → option_eq same_color a b ≡ true → a ≡ b
option_true None None h = refl
option_true None (Some b) h = absurd (false≢true h)
option_true (Some a) None h = absurd (false≢true h)
option_true (Some a) (Some b) h = ap Some (color_true a b h)

-- where it answers true, the styles are the same
pub same_style_true : (a b : ContentStyle) → same_style a b ≡ true → a ≡ b
same_style_true a b h =
    let s = both_true (option_eq same_color a.foreground_color b.foreground_color) _ h in
    let t = both_true (option_eq same_color a.background_color b.background_color) _ s.1 in
    let u = both_true (option_eq same_color a.underline_color b.underline_color) _ t.1 in
    ap (λ c. record a { foreground_color = c }) (option_true a.foreground_color b.foreground_color s.0)
    ∙ ap (λ c. record a { foreground_color = b.foreground_color; background_color = c }) (option_true a.background_color b.background_color t.0)
    ∙ ap (λ c. record a { foreground_color = b.foreground_color; background_color = b.background_color; underline_color = c }) (option_true a.underline_color b.underline_color u.0)
    ∙ ap (λ n. record b { attributes = n }) (same_bits a.attributes b.attributes (eqb-true (attribute_bits a.attributes) (attribute_bits b.attributes) u.1))

-- a text between a style's commands is a piece in it
pub piece_after : {A E : Type 0} (r : Result A E) (new old opened text closed : List ℕ) (style : ContentStyle) → opened ≡ opening_bytes style → closed ≡ closing_bytes style → OnOk r (new ≡ old ++ (opened ++ (text ++ closed))) → OnOk r (new ≡ old ++ piece_bytes style text)
piece_after r new old opened text closed style opens closes h =
    subst (λ (o : List ℕ). OnOk r (new ≡ old ++ (o ++ (text ++ closing_bytes style)))) opens
    (subst (λ (k : List ℕ). OnOk r (new ≡ old ++ (opened ++ (text ++ k)))) closes h)

-- a piece in a style is one in the style that it is
pub styled_after : (new old text : List ℕ) (own style : CompoundStyle) → new ≡ old ++ piece_bytes own.object_style text → own ≡ style → new ≡ old ++ piece_bytes style.object_style text
styled_after new old text own style put is = put ∙ ap (λ (s : CompoundStyle). old ++ piece_bytes s.object_style text) is
