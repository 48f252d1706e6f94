-- Pens that compare equal are the same.
use Rattle.std.proofs.Common.{◌≡◌, Bool, true, false, ◌&&◌, eqb, Option, Some, None, refl, ap, ◌∙◌}
use mathlib.Core.Bool.{beq}
use Rattle.std.specs.Option.{option_eq}
use Rattle.std.proofs.lemmas.Bool.{false≢true, eqb-true}
use Rattle.mad_term.specs.contracts.color.ColorPartialEq.TheImpl as color_equality
use Rattle.mad_plain.specs.contracts.pens.PenPartialEq.TheImpl as pen_equality
use Rattle.mad_term.specs.declared.color.Color.{Color}
use Rattle.mad_term.specs.declared.color.Color.TheVariants.{Reset, Black, DarkGrey, Red, DarkRed, Green, DarkGreen, Yellow, DarkYellow, Blue, DarkBlue, Magenta, DarkMagenta, Cyan, DarkCyan, White, Grey, Rgb, AnsiValue}
use Rattle.mad_plain.specs.declared.pens.Pen.{Pen}

abbrev same_color : Color → Color → Bool
same_color = (color_equality.ghosts).eq

-- the code's test says that two pens are equal
abbrev pub same_pen : Pen → Pen → Bool
same_pen = (pen_equality.ghosts).eq

-- where both hold, each does
pub both_true : (a b : Bool) → (a && b) ≡ true → (a ≡ true) × (b ≡ true)
both_true true b h = (refl, h)
both_true false b h = absurd (false≢true h)

color_true : (a b : Color) → same_color a b ≡ true → a ≡ b
color_true Reset Reset h = refl
color_true Reset _ h = absurd (false≢true h)
color_true Black Black h = refl
color_true Black _ h = absurd (false≢true h)
color_true DarkGrey DarkGrey h = refl
color_true DarkGrey _ h = absurd (false≢true h)
color_true Red Red h = refl
color_true Red _ h = absurd (false≢true h)
color_true DarkRed DarkRed h = refl
color_true DarkRed _ h = absurd (false≢true h)
color_true Green Green h = refl
color_true Green _ h = absurd (false≢true h)
color_true DarkGreen DarkGreen h = refl
color_true DarkGreen _ h = absurd (false≢true h)
color_true Yellow Yellow h = refl
color_true Yellow _ h = absurd (false≢true h)
color_true DarkYellow DarkYellow h = refl
color_true DarkYellow _ h = absurd (false≢true h)
color_true Blue Blue h = refl
color_true Blue _ h = absurd (false≢true h)
color_true DarkBlue DarkBlue h = refl
color_true DarkBlue _ h = absurd (false≢true h)
color_true Magenta Magenta h = refl
color_true Magenta _ h = absurd (false≢true h)
color_true DarkMagenta DarkMagenta h = refl
color_true DarkMagenta _ h = absurd (false≢true h)
color_true Cyan Cyan h = refl
color_true Cyan _ h = absurd (false≢true h)
color_true DarkCyan DarkCyan h = refl
color_true DarkCyan _ h = absurd (false≢true h)
color_true White White h = refl
color_true White _ h = absurd (false≢true h)
color_true Grey Grey h = refl
color_true Grey _ h = absurd (false≢true h)
color_true (Rgb r g b) (Rgb s t u) h =
    let first = both_true (eqb r s) (eqb g t && eqb b u) h in
    let rest = both_true (eqb g t) (eqb b u) first.1 in
    let red : r ≡ s = eqb-true r s first.0 in
    let green : g ≡ t = eqb-true g t rest.0 in
    let blue : b ≡ u = eqb-true b u rest.1 in
    cc
color_true (Rgb r g b) _ h = absurd (false≢true h)
color_true (AnsiValue n) (AnsiValue m) h = ap AnsiValue (eqb-true n m h)
color_true (AnsiValue n) _ h = absurd (false≢true h)

option_true : (a b : Option Color) → option_eq same_color a b ≡ true → a ≡ b
option_true None None h = refl
option_true None (Some b) h = absurd (false≢true h)
option_true (Some a) None h = absurd (false≢true h)
option_true (Some a) (Some b) h = ap Some (color_true a b h)

bool_true : (a b : Bool) → beq a b ≡ true → a ≡ b
bool_true true true h = refl
bool_true true false h = absurd (false≢true h)
bool_true false true h = absurd (false≢true h)
bool_true false false h = refl

pens_same : (a b : Pen) → a.foreground ≡ b.foreground → a.background ≡ b.background → a.underline ≡ b.underline → a.bold ≡ b.bold → a.dim ≡ b.dim → a.italic ≡ b.italic → a.underlined ≡ b.underlined → a.blinking ≡ b.blinking → a.reversed ≡ b.reversed → a.hidden ≡ b.hidden → a.crossed_out ≡ b.crossed_out → a.overlined ≡ b.overlined → a ≡ b
pens_same a b h1 h2 h3 h4 h5 h6 h7 h8 h9 h10 h11 h12 =
    ap (λ x. record a { foreground = x }) h1
    ∙ ap (λ x. record a { foreground = b.foreground; background = x }) h2
    ∙ ap (λ x. record a { foreground = b.foreground; background = b.background; underline = x }) h3
    ∙ ap (λ x. record a { foreground = b.foreground; background = b.background; underline = b.underline; bold = x }) h4
    ∙ ap (λ x. record a { foreground = b.foreground; background = b.background; underline = b.underline; bold = b.bold; dim = x }) h5
    ∙ ap (λ x. record a { foreground = b.foreground; background = b.background; underline = b.underline; bold = b.bold; dim = b.dim; italic = x }) h6
    ∙ ap (λ x. record a { foreground = b.foreground; background = b.background; underline = b.underline; bold = b.bold; dim = b.dim; italic = b.italic; underlined = x }) h7
    ∙ ap (λ x. record a { foreground = b.foreground; background = b.background; underline = b.underline; bold = b.bold; dim = b.dim; italic = b.italic; underlined = b.underlined; blinking = x }) h8
    ∙ ap (λ x. record a { foreground = b.foreground; background = b.background; underline = b.underline; bold = b.bold; dim = b.dim; italic = b.italic; underlined = b.underlined; blinking = b.blinking; reversed = x }) h9
    ∙ ap (λ x. record a { foreground = b.foreground; background = b.background; underline = b.underline; bold = b.bold; dim = b.dim; italic = b.italic; underlined = b.underlined; blinking = b.blinking; reversed = b.reversed; hidden = x }) h10
    ∙ ap (λ x. record a { foreground = b.foreground; background = b.background; underline = b.underline; bold = b.bold; dim = b.dim; italic = b.italic; underlined = b.underlined; blinking = b.blinking; reversed = b.reversed; hidden = b.hidden; crossed_out = x }) h11
    ∙ ap (λ x. record a { foreground = b.foreground; background = b.background; underline = b.underline; bold = b.bold; dim = b.dim; italic = b.italic; underlined = b.underlined; blinking = b.blinking; reversed = b.reversed; hidden = b.hidden; crossed_out = b.crossed_out; overlined = x }) h12

-- pens that compare equal are the same
pub same_pen_true : (a b : Pen) → same_pen a b ≡ true → a ≡ b
same_pen_true a b h =
    let h1 = both_true (option_eq same_color a.foreground b.foreground) _ h in
    let h2 = both_true (option_eq same_color a.background b.background) _ h1.1 in
    let h3 = both_true (option_eq same_color a.underline b.underline) _ h2.1 in
    let h4 = both_true (beq a.bold b.bold) _ h3.1 in
    let h5 = both_true (beq a.dim b.dim) _ h4.1 in
    let h6 = both_true (beq a.italic b.italic) _ h5.1 in
    let h7 = both_true (beq a.underlined b.underlined) _ h6.1 in
    let h8 = both_true (beq a.blinking b.blinking) _ h7.1 in
    let h9 = both_true (beq a.reversed b.reversed) _ h8.1 in
    let h10 = both_true (beq a.hidden b.hidden) _ h9.1 in
    let h11 = both_true (beq a.crossed_out b.crossed_out) _ h10.1 in
    pens_same a b (option_true a.foreground b.foreground h1.0) (option_true a.background b.background h2.0) (option_true a.underline b.underline h3.0) (bool_true a.bold b.bold h4.0) (bool_true a.dim b.dim h5.0) (bool_true a.italic b.italic h6.0) (bool_true a.underlined b.underlined h7.0) (bool_true a.blinking b.blinking h8.0) (bool_true a.reversed b.reversed h9.0) (bool_true a.hidden b.hidden h10.0) (bool_true a.crossed_out b.crossed_out h11.0) (bool_true a.overlined b.overlined h11.1)
