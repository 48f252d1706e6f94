-- Commands as their parts are written.
use Rattle.std.proofs.Common.{◌≡◌, ℕ, List, [], ◌∷◌, ◌++◌, Some, refl, ap, sym, ◌∙◌, append_assoc}
use Rattle.std.specs.List.{flat_map}
use Rattle.std.specs.Prelude.{codes, decimal}
use Rattle.std.specs.Fmt.{digits}
use Rattle.mad_term.specs.declared.color.Color.{Color}
use Rattle.mad_term.specs.declared.color.Color.TheVariants.{Rgb}
use Rattle.mad_term.specs.Color.{color_number}
use Rattle.mad_term.specs.Commands.{sgr_bytes}
use Rattle.mad_term.specs.Styles.{color_numbers, palette_numbers}

-- the command with code 0
pub plain : codes "\u{1b}[0m" ≡ sgr_bytes (0 ∷ [])
unfolding digits
plain = refl

-- the one for the default foreground
pub default_foreground : codes "\u{1b}[39m" ≡ sgr_bytes (39 ∷ [])
unfolding digits
default_foreground = refl

-- the one for the default background
pub default_background : codes "\u{1b}[49m" ≡ sgr_bytes (49 ∷ [])
unfolding digits
default_background = refl

two : decimal 2 ≡ 50 ∷ []
unfolding digits
two = refl

five : decimal 5 ≡ 53 ∷ []
unfolding digits
five = refl

-- the numbers after the first, and the letter
abbrev after_first : List ℕ → List ℕ
after_first ns = flat_map (λ m. 59 ∷ decimal m) ns ++ 109 ∷ []

next : (n : ℕ) (ns : List ℕ) → after_first (n ∷ ns) ≡ 59 ∷ (decimal n ++ after_first ns)
next n ns = append_assoc (59 ∷ decimal n) (flat_map (λ m. 59 ∷ decimal m) ns) (109 ∷ [])

whole : (kind : ℕ) (ns tail : List ℕ) → tail ≡ after_first ns → 27 ∷ 91 ∷ (decimal kind ++ tail) ≡ sgr_bytes (kind ∷ ns)
whole kind ns tail e =
    ap (λ l. 27 ∷ 91 ∷ l) (ap (λ l. decimal kind ++ l) e ∙ sym (append_assoc (decimal kind) (flat_map (λ m. 59 ∷ decimal m) ns) (109 ∷ [])))

-- a number of the palette
pub palette_written : (kind n : ℕ) → 27 ∷ 91 ∷ (decimal kind ++ 59 ∷ 53 ∷ 59 ∷ (decimal n ++ 109 ∷ [])) ≡ sgr_bytes (kind ∷ 5 ∷ n ∷ [])
palette_written kind n =
    whole kind (5 ∷ n ∷ []) (59 ∷ 53 ∷ 59 ∷ (decimal n ++ 109 ∷ []))
    (sym (next 5 (n ∷ []) ∙ ap (λ d. 59 ∷ (d ++ after_first (n ∷ []))) five ∙ ap (λ l. 59 ∷ 53 ∷ l) (next n [])))

-- red, green and blue
pub mix_written : (kind r g b : ℕ) → 27 ∷ 91 ∷ (decimal kind ++ 59 ∷ 50 ∷ 59 ∷ (decimal r ++ 59 ∷ (decimal g ++ 59 ∷ (decimal b ++ 109 ∷ [])))) ≡ sgr_bytes (kind ∷ 2 ∷ r ∷ g ∷ b ∷ [])
mix_written kind r g b =
    whole kind (2 ∷ r ∷ g ∷ b ∷ []) (59 ∷ 50 ∷ 59 ∷ (decimal r ++ 59 ∷ (decimal g ++ 59 ∷ (decimal b ++ 109 ∷ []))))
    (sym (next 2 (r ∷ g ∷ b ∷ []) ∙ ap (λ d. 59 ∷ (d ++ after_first (r ∷ g ∷ b ∷ []))) two
    ∙ ap (λ l. 59 ∷ 50 ∷ l) (next r (g ∷ b ∷ []) ∙ ap (λ l. 59 ∷ (decimal r ++ l)) (next g (b ∷ []) ∙ ap (λ l. 59 ∷ (decimal g ++ l)) (next b [])))))

-- a color with a number
pub numbered : (kind : ℕ) (color : Color) (n : ℕ) → color_number color ≡ Some n → color_numbers kind color ≡ kind ∷ 5 ∷ n ∷ []
numbered kind (Rgb r g b) n h = cc
numbered kind _ n h = ap (palette_numbers kind) h
