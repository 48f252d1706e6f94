-- Colors and pens that compare equal are the same.
use Rattle.std.proofs.Common.{◌≡◌, ℕ, Bool, true, false, ◌&&◌, eqb, List, Option, Some, None, refl, ap, ◌∙◌}
use Rattle.std.specs.Option.{option_eq}
use Rattle.std.proofs.lemmas.Bool.{false≢true, eqb-true, eq-eqb}
use Rattle.mad_term.specs.declared.color.Color.{Color}
use Rattle.mad_term.specs.declared.color.Color.TheVariants.{Reset, Black, DarkGrey, Red, DarkRed, Green, DarkGreen, Yellow, DarkYellow, Blue, DarkBlue, Magenta, DarkMagenta, Cyan, DarkCyan, White, Grey, Rgb, AnsiValue}
use Rattle.mad_screen.specs.Glyph.{Glyph, Look}
use Rattle.mad_screen.specs.Pictures.{same_color, same_look}

-- where both hold, the first does and the second does
pub both_true : (a b : Bool) → (a && b) ≡ true → (a ≡ true) × (b ≡ true)
both_true true b h = (refl, h)
both_true false b h = absurd (false≢true h)

-- where the first holds and the second does, both hold
pub true_both : (a b : Bool) → a ≡ true → b ≡ true → (a && b) ≡ true
true_both a b p q = ap (λ t. t && b) p ∙ q

-- equal parts make equal cells
abbrev pub glyph_of : List ℕ → Look → Glyph
glyph_of chars pen = record { chars = chars; pen = pen }

-- cells of the same characters in the same pen are the same
pub same_glyph : (a b : List ℕ) (p q : Look) → a ≡ b → p ≡ q → glyph_of a p ≡ glyph_of b q
same_glyph a b p q chars pen = ap (λ (l : List ℕ). glyph_of l p) chars ∙ ap (glyph_of b) pen

color_true : (a b : Color) → same_color a b ≡ true → a ≡ b
color_true Reset Reset h = refl
color_true Reset _ h = absurd (false≢true h)
color_true Black Black h = refl
color_true Black _ h = absurd (false≢true h)
color_true DarkGrey DarkGrey h = refl
color_true DarkGrey _ h = absurd (false≢true h)
color_true Red Red h = refl
color_true Red _ h = absurd (false≢true h)
color_true DarkRed DarkRed h = refl
color_true DarkRed _ h = absurd (false≢true h)
color_true Green Green h = refl
color_true Green _ h = absurd (false≢true h)
color_true DarkGreen DarkGreen h = refl
color_true DarkGreen _ h = absurd (false≢true h)
color_true Yellow Yellow h = refl
color_true Yellow _ h = absurd (false≢true h)
color_true DarkYellow DarkYellow h = refl
color_true DarkYellow _ h = absurd (false≢true h)
color_true Blue Blue h = refl
color_true Blue _ h = absurd (false≢true h)
color_true DarkBlue DarkBlue h = refl
color_true DarkBlue _ h = absurd (false≢true h)
color_true Magenta Magenta h = refl
color_true Magenta _ h = absurd (false≢true h)
color_true DarkMagenta DarkMagenta h = refl
color_true DarkMagenta _ h = absurd (false≢true h)
color_true Cyan Cyan h = refl
color_true Cyan _ h = absurd (false≢true h)
color_true DarkCyan DarkCyan h = refl
color_true DarkCyan _ h = absurd (false≢true h)
color_true White White h = refl
color_true White _ h = absurd (false≢true h)
color_true Grey Grey h = refl
color_true Grey _ h = absurd (false≢true h)
color_true (Rgb r g b) (Rgb s t u) h =
    let first = both_true (eqb r s) (eqb g t && eqb b u) h in
    let rest = both_true (eqb g t) (eqb b u) first.1 in
    let red : r ≡ s = eqb-true r s first.0 in
    let green : g ≡ t = eqb-true g t rest.0 in
    let blue : b ≡ u = eqb-true b u rest.1 in
    cc
color_true (Rgb r g b) _ h = absurd (false≢true h)
color_true (AnsiValue n) (AnsiValue m) h = ap AnsiValue (eqb-true n m h)
color_true (AnsiValue n) _ h = absurd (false≢true h)

color_refl : (a : Color) → same_color a a ≡ true
color_refl Reset = refl
color_refl Black = refl
color_refl DarkGrey = refl
color_refl Red = refl
color_refl DarkRed = refl
color_refl Green = refl
color_refl DarkGreen = refl
color_refl Yellow = refl
color_refl DarkYellow = refl
color_refl Blue = refl
color_refl DarkBlue = refl
color_refl Magenta = refl
color_refl DarkMagenta = refl
color_refl Cyan = refl
color_refl DarkCyan = refl
color_refl White = refl
color_refl Grey = refl
color_refl (Rgb r g b) = true_both _ _ (eq-eqb r r refl) (true_both _ _ (eq-eqb g g refl) (eq-eqb b b refl))
color_refl (AnsiValue n) = eq-eqb n n refl

option_true : (a b : Option Color) → option_eq same_color a b ≡ true → a ≡ b
option_true None None h = refl
option_true None (Some b) h = absurd (false≢true h)
option_true (Some a) None h = absurd (false≢true h)
option_true (Some a) (Some b) h = ap Some (color_true a b h)

option_refl : (a : Option Color) → option_eq same_color a a ≡ true
option_refl None = refl
option_refl (Some a) = color_refl a

-- pens that compare equal are the same
pub same_look_true : (a b : Look) → same_look a b ≡ true → a ≡ b
same_look_true a b h =
    let s = both_true (option_eq same_color a.fg b.fg) _ h in
    let t = both_true (option_eq same_color a.bg b.bg) _ s.1 in
    let u = both_true (option_eq same_color a.underline b.underline) _ t.1 in
    ap (λ c. record a { fg = c }) (option_true a.fg b.fg s.0)
    ∙ ap (λ c. record a { fg = b.fg; bg = c }) (option_true a.bg b.bg t.0)
    ∙ ap (λ c. record a { fg = b.fg; bg = b.bg; underline = c }) (option_true a.underline b.underline u.0)
    ∙ ap (λ n. record b { codes = n }) (eqb-true a.codes b.codes u.1)

-- and each compares equal to itself
pub same_look_refl : (a : Look) → same_look a a ≡ true
same_look_refl a =
    true_both _ _ (option_refl a.fg) (true_both _ _ (option_refl a.bg) (true_both _ _ (option_refl a.underline) (eq-eqb a.codes a.codes refl)))
