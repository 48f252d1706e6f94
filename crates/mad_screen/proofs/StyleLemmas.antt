-- The commands of a style, read by the plain terminal.
use Rattle.std.proofs.Common.{◌≡◌, ℕ, suc, ◌+◌, ◌-◌, ◌^◌, ◌<◌, ◌≤◌, Bool, true, false, cond, ltb, eqb, List, [], ◌∷◌, ◌++◌, length, Option, Some, None, refl, ap, sym, ◌∙◌, subst, arith, add-zero}
use Rattle.std.specs.Prelude.{option_map, option_and_then, ◌&&◌, ◌||◌, not, is_some}
use Rattle.std.specs.List.{flat_map}
use Rattle.std.specs.Int.{bit_at}
use Rattle.std.specs.Int.RustNames.{bit_and, bit_or}
use Rattle.std.proofs.lemmas.Bool.Decides.{nat_tests}
use Rattle.std.proofs.lemmas.Nat.Bits.{bit_at-lt}
use Rattle.mad_term.specs.declared.attribute.Attribute.{Attribute}
use Rattle.mad_term.specs.declared.attribute.Attribute.TheVariants.{Reset, Bold, Dim, Italic, Underlined, SlowBlink, RapidBlink, Reverse, Hidden, CrossedOut, Fraktur, NoBold, NormalIntensity, NoItalic, NoUnderline, NoBlink, NoReverse, NoHidden, NotCrossedOut, Framed, Encircled, OverLined, NotFramedOrEncircled, NotOverLined}
use Rattle.mad_term.specs.declared.attributes.Attributes.{Attributes}
use Rattle.mad_term.specs.declared.color.Color.{Color}
use Rattle.mad_term.specs.declared.color.Color.TheVariants as colors
use Rattle.mad_term.specs.declared.styles.ContentStyle.{ContentStyle}
use Rattle.mad_term.specs.Attribute.{attribute_index, attribute_code}
use Rattle.mad_term.specs.Attributes.{attribute_bits, has_attribute}
use Rattle.mad_term.specs.Color.{IsColor, IsColorOrNone}
use Rattle.mad_term.specs.Commands.{sgr_bytes}
use Rattle.mad_term.specs.Styles.{color_numbers, foreground_bytes, background_bytes, underline_bytes, attribute_bytes, attributes_bytes, present_bytes, opening_bytes, closing_bytes, piece_bytes, IsStyle}
use Rattle.mad_screen.specs.Glyph.{Glyph, Look}
use Rattle.mad_screen.specs.Grid.{Grid, plain_pen, painted}
use Rattle.mad_screen.specs.Terminal.{Leads, resting, restyled, with_code, switched_on}
use Rattle.mad_screen.specs.Painting.{cells_of, IsShown, HasColumns, CharsPaint, shown_color, look_of_style}
use Rattle.mad_screen.proofs.Reading.{then_leads, nothing_leads, command_leads, AreReadable, letter_sgr}
use Rattle.mad_screen.proofs.PaintingLemmas.{text_leads}
use Rattle.mad_screen.proofs.CodeLemmas.{bits_to, no_bits, bits_more, bits_same}

-- the grid with a pen
abbrev pub with_pen : Grid → Look → Grid
with_pen g p = record g { pen = p }

-- a command changes the pen as its numbers say
pub sgr_leads : (g : Grid) (ns : List ℕ) (p : Look) → AreReadable ns → restyled ns g.pen ≡ Some p → Leads (resting g) (sgr_bytes ns) (resting (with_pen g p))
sgr_leads g ns p small e = command_leads g (with_pen g p) ns 109 small letter_sgr (ap (option_map (λ q. with_pen g q)) e)

-- ---- colors

-- numbers that are bytes pass
rgb_passes : (r g b : ℕ) (p : Look) → IsColor (colors.Rgb r g b) → cond (ltb r 256 && ltb g 256 && ltb b 256) (Some p) None ≡ Some p
rgb_passes r g b p h =
    let test : (ltb r 256 && ltb g 256 && ltb b 256) ≡ true = grind (arith, nat_tests) in
    ap (λ t. cond t (Some p) None) test

index_passes : (n : ℕ) (p : Look) → IsColor (colors.AnsiValue n) → cond (ltb n 256) (Some p) None ≡ Some p
index_passes n p h =
    let test : ltb n 256 ≡ true = grind (arith, nat_tests) in
    ap (λ t. cond t (Some p) None) test

-- the numbers of a foreground give the pen its color
pub foreground_restyles : (c : Color) (p : Look) → IsColor c → restyled (color_numbers 38 c) p ≡ Some (record p { fg = shown_color c })
foreground_restyles (colors.Rgb r g b) p h = rgb_passes r g b _ h
foreground_restyles (colors.AnsiValue n) p h = index_passes n _ h
foreground_restyles _ p h = refl

-- the numbers of a background give the pen its color
pub background_restyles : (c : Color) (p : Look) → IsColor c → restyled (color_numbers 48 c) p ≡ Some (record p { bg = shown_color c })
background_restyles (colors.Rgb r g b) p h = rgb_passes r g b _ h
background_restyles (colors.AnsiValue n) p h = index_passes n _ h
background_restyles _ p h = refl

underline_restyles : (c : Color) (p : Look) → IsColor c → restyled (color_numbers 58 c) p ≡ Some (record p { underline = shown_color c })
underline_restyles (colors.Rgb r g b) p h = rgb_passes r g b _ h
underline_restyles (colors.AnsiValue n) p h = index_passes n _ h
underline_restyles _ p h = refl

-- the terminal can read the numbers of a color
pub color_small : (kind : ℕ) (c : Color) → kind < 100 → IsColor c → AreReadable (color_numbers kind c)
color_small kind (colors.Rgb r g b) low h = (omega arith, (omega arith, (omega arith, (omega arith, (omega arith, tt)))))
color_small kind (colors.AnsiValue n) low h = (omega arith, (omega arith, (omega arith, tt)))
color_small kind colors.Reset low h = (omega arith, tt)
color_small kind _ low h = (omega arith, (omega arith, (omega arith, tt)))

-- a color of a style, where it has one
abbrev pub shown : Option Color → Option Color
shown o = option_and_then shown_color o

-- the command of a background, if a style has one, changes the plain pen
pub background_leads : (g : Grid) (o : Option Color) → IsColorOrNone o → Leads (resting (with_pen g plain_pen)) (present_bytes background_bytes o) (resting (with_pen g (record plain_pen { bg = shown o })))
background_leads g None h = nothing_leads _
background_leads g (Some c) h = sgr_leads (with_pen g plain_pen) (color_numbers 48 c) _ (color_small 48 c (omega arith) h) (background_restyles c plain_pen h)

-- so does that of a foreground after it
pub foreground_leads : (g : Grid) (b o : Option Color) → IsColorOrNone o → Leads (resting (with_pen g (record plain_pen { bg = b }))) (present_bytes foreground_bytes o) (resting (with_pen g (record plain_pen { bg = b; fg = shown o })))
foreground_leads g b None h = nothing_leads _
foreground_leads g b (Some c) h = sgr_leads (with_pen g (record plain_pen { bg = b })) (color_numbers 38 c) _ (color_small 38 c (omega arith) h) (foreground_restyles c (record plain_pen { bg = b }) h)

-- so does that of an underline's color after both
pub underline_leads : (g : Grid) (b f o : Option Color) → IsColorOrNone o → Leads (resting (with_pen g (record plain_pen { bg = b; fg = f }))) (present_bytes underline_bytes o) (resting (with_pen g (record plain_pen { bg = b; fg = f; underline = shown o })))
underline_leads g b f None h = nothing_leads _
underline_leads g b f (Some c) h = sgr_leads (with_pen g (record plain_pen { bg = b; fg = f })) (color_numbers 58 c) _ (color_small 58 c (omega arith) h) (underline_restyles c (record plain_pen { bg = b; fg = f }) h)

-- ---- attributes

code_switches : (a : Attribute) (p : Look) → with_code (attribute_code a) p ≡ Some (switched_on a p)
code_switches Reset p = refl
code_switches _ p = refl

code_small : (a : Attribute) → attribute_code a < 100
code_small Reset = omega arith
code_small _ = omega arith

attribute_leads : (g : Grid) (p : Look) (a : Attribute) → Leads (resting (with_pen g p)) (attribute_bytes a) (resting (with_pen g (switched_on a p)))
attribute_leads g p a = sgr_leads (with_pen g p) (attribute_code a ∷ []) (switched_on a p) (omega (arith, code_small a), tt) (code_switches a p)

-- an attribute after the first is kept
is_kept : (a : Attribute) (p : Look) → 0 < attribute_index a → switched_on a p ≡ record p { codes = bit_or p.codes (2 ^ attribute_index a) }
is_kept Reset p h = absurd (omega arith)
is_kept _ p h = refl

-- these attributes have the indexes from k on
abbrev AtIndexes : ℕ → List Attribute → Type 0
AtIndexes k [] = Unit {0}
AtIndexes k (a ∷ rest) = (attribute_index a ≡ k) × AtIndexes (suc k) rest

-- the command of an attribute, if a set has it
abbrev part_bytes : Attributes → Attribute → List ℕ
part_bytes s a = cond (has_attribute s a) (attribute_bytes a) []

bit_none : (n k : ℕ) → eqb (bit_at n k) 1 ≡ false → bit_at n k ≡ 0
bit_none n k e = let small : bit_at n k < 2 = bit_at-lt n k in grind (arith, nat_tests)

bit_there : (n k : ℕ) → eqb (bit_at n k) 1 ≡ true → bit_at n k ≡ 1
bit_there n k e = grind (arith, nat_tests)

part_leads : (g : Grid) (p : Look) (s : Attributes) (a : Attribute) (k : ℕ) (b : Bool) → has_attribute s a ≡ b → 1 ≤ k → attribute_index a ≡ k → Leads (resting (with_pen g (record p { codes = bits_to (attribute_bits s) k }))) (cond b (attribute_bytes a) []) (resting (with_pen g (record p { codes = bits_to (attribute_bits s) (suc k) })))
part_leads g p s a k true e some at =
    let bits = attribute_bits s in
    let before : Look = record p { codes = bits_to bits k } in
    let there : bit_at bits k ≡ 1 = ap (bit_at bits) (sym at) ∙ bit_there bits (attribute_index a) e in
    subst (λ (q : Look). Leads (resting (with_pen g before)) (attribute_bytes a) (resting (with_pen g q)))
    (is_kept a before (omega arith) ∙ ap (λ n. record p { codes = bit_or (bits_to bits k) (2 ^ n) }) at ∙ ap (λ n. record p { codes = n }) (bits_more bits k some there))
    (attribute_leads g before a)
part_leads g p s a k false e some at =
    let bits = attribute_bits s in
    let before : Look = record p { codes = bits_to bits k } in
    let none : bit_at bits k ≡ 0 = ap (bit_at bits) (sym at) ∙ bit_none bits (attribute_index a) e in
    subst (λ (n : ℕ). Leads (resting (with_pen g before)) [] (resting (with_pen g (record p { codes = n })))) (bits_same bits k some none) (nothing_leads _)

parts_leads : (g : Grid) (p : Look) (s : Attributes) (rest : List Attribute) (k : ℕ) → 1 ≤ k → AtIndexes k rest → Leads (resting (with_pen g (record p { codes = bits_to (attribute_bits s) k }))) (flat_map (part_bytes s) rest) (resting (with_pen g (record p { codes = bits_to (attribute_bits s) (k + length rest) })))
parts_leads g p s [] k some at =
    subst (λ (n : ℕ). Leads (resting (with_pen g (record p { codes = bits_to (attribute_bits s) k }))) [] (resting (with_pen g (record p { codes = bits_to (attribute_bits s) n })))) (sym (add-zero k)) (nothing_leads _)
parts_leads g p s (a ∷ rest) k some at =
    let count : suc k + length rest ≡ k + length (a ∷ rest) = omega arith in
    subst (λ (n : ℕ). Leads (resting (with_pen g (record p { codes = bits_to (attribute_bits s) k }))) (part_bytes s a ++ flat_map (part_bytes s) rest) (resting (with_pen g (record p { codes = bits_to (attribute_bits s) n })))) count
    (then_leads _ _ _ (part_bytes s a) (flat_map (part_bytes s) rest)
    (part_leads g p s a k (has_attribute s a) refl some at.0)
    (parts_leads g p s rest (suc k) (omega arith) at.1))

-- the colors that a pen keeps before the attributes of a set: none where one is Reset, which makes the pen plain
abbrev colors_of : Bool → Look → Look
colors_of true p = plain_pen
colors_of false p = p

first_leads : (g : Grid) (p : Look) (b : Bool) → p.codes ≡ 0 → Leads (resting (with_pen g p)) (cond b (attribute_bytes Reset) []) (resting (with_pen g (colors_of b p)))
first_leads g p true none = attribute_leads g p Reset
first_leads g p false none = nothing_leads _

no_codes : (b : Bool) (p : Look) (n : ℕ) → p.codes ≡ 0 → colors_of b p ≡ record (colors_of b p) { codes = bits_to n 1 }
no_codes true p n none = ap (λ (k : ℕ). let q : Look = record plain_pen { codes = k } in q) (sym (no_bits n))
no_codes false p n none = ap (λ (k : ℕ). let q : Look = record p { codes = k } in q) (none ∙ sym (no_bits n))

-- the attributes after Reset
abbrev after_reset : List Attribute
after_reset = Bold ∷ Dim ∷ Italic ∷ Underlined ∷ SlowBlink ∷ RapidBlink ∷ Reverse ∷ Hidden ∷ CrossedOut ∷ Fraktur ∷ NoBold ∷ NormalIntensity ∷ NoItalic ∷ NoUnderline ∷ NoBlink ∷ NoReverse ∷ NoHidden ∷ NotCrossedOut ∷ Framed ∷ Encircled ∷ OverLined ∷ NotFramedOrEncircled ∷ NotOverLined ∷ []

after_reset_indexes : AtIndexes 1 after_reset
after_reset_indexes = (refl, (refl, (refl, (refl, (refl, (refl, (refl, (refl, (refl, (refl, (refl, (refl, (refl, (refl, (refl, (refl, (refl, (refl, (refl, (refl, (refl, (refl, (refl, tt)))))))))))))))))))))))

-- the commands of attributes give the pen their codes; Reset takes its colors first
pub attributes_leads : (g : Grid) (p : Look) (s : Attributes) → p.codes ≡ 0 → Leads (resting (with_pen g p)) (attributes_bytes s) (resting (with_pen g (record (colors_of (has_attribute s Reset) p) { codes = bits_to (attribute_bits s) 24 })))
attributes_leads g p s none =
    let b : Bool = has_attribute s Reset in
    let bits = attribute_bits s in
    then_leads _ _ _ (part_bytes s Reset) (flat_map (part_bytes s) after_reset) (first_leads g p b none)
    (subst (λ (q : Look). Leads (resting (with_pen g q)) (flat_map (part_bytes s) after_reset) (resting (with_pen g (record (colors_of b p) { codes = bits_to bits 24 })))) (sym (no_codes b p bits none))
    (parts_leads g (colors_of b p) s after_reset 1 (omega arith) after_reset_indexes))

-- ---- a whole piece

-- the pen of a style by its parts
abbrev look_at : Bool → Option Color → Option Color → Option Color → ℕ → Look
look_at b f g u n = cond b (record plain_pen { codes = n }) (record { fg = f; bg = g; underline = u; codes = n })

kept_colors : (b : Bool) (f g u : Option Color) (n : ℕ) → record (colors_of b (record { fg = f; bg = g; underline = u; codes = 0 })) { codes = n } ≡ look_at b f g u n
kept_colors true f g u n = refl
kept_colors false f g u n = refl

-- the commands before a text in a style lead from the plain pen to that of the style
pub opening_leads : (g : Grid) (s : ContentStyle) → IsStyle s → Leads (resting (with_pen g plain_pen)) (opening_bytes s) (resting (with_pen g (look_of_style s)))
opening_leads g s known =
    let b = shown s.background_color in
    let f = shown s.foreground_color in
    let u = shown s.underline_color in
    let colored : Look = record { fg = f; bg = b; underline = u; codes = 0 } in
    let reset : Bool = has_attribute s.attributes Reset in
    then_leads _ _ _ (present_bytes background_bytes s.background_color) (present_bytes foreground_bytes s.foreground_color ++ (present_bytes underline_bytes s.underline_color ++ attributes_bytes s.attributes)) (background_leads g s.background_color known.background)
    (then_leads _ _ _ (present_bytes foreground_bytes s.foreground_color) (present_bytes underline_bytes s.underline_color ++ attributes_bytes s.attributes) (foreground_leads g b s.foreground_color known.foreground)
    (then_leads _ _ _ (present_bytes underline_bytes s.underline_color) (attributes_bytes s.attributes) (underline_leads g b f s.underline_color known.underline)
    (subst (λ (q : Look). Leads (resting (with_pen g colored)) (attributes_bytes s.attributes) (resting (with_pen g q))) (kept_colors reset f b u (bits_to (attribute_bits s.attributes) 24))
    (attributes_leads g colored s.attributes refl))))

no_underline : (o : Option Color) (t : Bool) → (is_some o || t) ≡ false → o ≡ None
no_underline None t h = refl
no_underline (Some c) t h = absurd (clash h)
  where
    clash : true ≡ false → ⊥
    clash e = cc

no_attribute : (o : Option Color) (n : ℕ) → (is_some o || not (eqb n 0)) ≡ false → n ≡ 0
no_attribute None n h = grind (arith, nat_tests)
no_attribute (Some c) n h = absurd (clash h)
  where
    clash : true ≡ false → ⊥
    clash e = cc

-- a style that ends without code 0 has at most a foreground and a background
colored_alone : (s : ContentStyle) → (is_some s.underline_color || not (eqb (attribute_bits s.attributes) 0)) ≡ false → look_of_style s ≡ record plain_pen { fg = shown s.foreground_color; bg = shown s.background_color }
colored_alone s h =
    let f = shown s.foreground_color in
    let b = shown s.background_color in
    let none : attribute_bits s.attributes ≡ 0 = no_attribute s.underline_color (attribute_bits s.attributes) h in
    ap (λ n. look_at (eqb (bit_at n 0) 1) f b (shown s.underline_color) (bit_and n (2 ^ 24 - 2 ^ 1))) none
    ∙ ap (λ u. look_at false f b (shown u) 0) (no_underline s.underline_color _ h)

default_background : (g : Grid) (f : Option Color) (o : Option Color) → Leads (resting (with_pen g (record plain_pen { fg = f; bg = shown o }))) (present_bytes (λ _. sgr_bytes (49 ∷ [])) o) (resting (with_pen g (record plain_pen { fg = f })))
default_background g f None = nothing_leads _
default_background g f (Some c) = sgr_leads (with_pen g (record plain_pen { fg = f; bg = shown (Some c) })) (49 ∷ []) _ (omega arith, tt) refl

default_foreground : (g : Grid) (o : Option Color) → Leads (resting (with_pen g (record plain_pen { fg = shown o }))) (present_bytes (λ _. sgr_bytes (39 ∷ [])) o) (resting (with_pen g plain_pen))
default_foreground g None = nothing_leads _
default_foreground g (Some c) = sgr_leads (with_pen g (record plain_pen { fg = shown (Some c) })) (39 ∷ []) _ (omega arith, tt) refl

closing_by : (g : Grid) (s : ContentStyle) (t : Bool) → (is_some s.underline_color || not (eqb (attribute_bits s.attributes) 0)) ≡ t → Leads (resting (with_pen g (look_of_style s))) (cond t (sgr_bytes (0 ∷ [])) (present_bytes (λ _. sgr_bytes (49 ∷ [])) s.background_color ++ present_bytes (λ _. sgr_bytes (39 ∷ [])) s.foreground_color)) (resting (with_pen g plain_pen))
closing_by g s true e = sgr_leads (with_pen g (look_of_style s)) (0 ∷ []) plain_pen (omega arith, tt) refl
closing_by g s false e =
    let defaults = present_bytes (λ _. sgr_bytes (49 ∷ [])) s.background_color in
    subst (λ (q : Look). Leads (resting (with_pen g q)) (defaults ++ present_bytes (λ _. sgr_bytes (39 ∷ [])) s.foreground_color) (resting (with_pen g plain_pen))) (sym (colored_alone s e))
    (then_leads _ _ _ defaults (present_bytes (λ _. sgr_bytes (39 ∷ [])) s.foreground_color) (default_background g (shown s.foreground_color) s.background_color) (default_foreground g s.foreground_color))

-- the commands after it lead back to the plain pen
pub closing_leads : (g : Grid) (s : ContentStyle) → Leads (resting (with_pen g (look_of_style s))) (closing_bytes s) (resting (with_pen g plain_pen))
closing_leads g s = closing_by g s (is_some s.underline_color || not (eqb (attribute_bits s.attributes) 0)) refl

-- the commands of a style round characters
pub piece_paints : (s : ContentStyle) (cs : List ℕ) → IsStyle s → IsShown cs → CharsPaint (piece_bytes s cs) (cells_of (look_of_style s) cs)
unfolding painted
piece_paints s cs known is_shown g h pen =
    let p : Look = look_of_style s in
    let gs : List Glyph = cells_of p cs in
    let columns : HasColumns (with_pen g p) (length gs) = record { grid = record { full = h.grid.full; column = h.grid.column; row = h.grid.row }; row = h.row; columns = h.columns } in
    subst (λ (q : Look). Leads (resting (with_pen g q)) (piece_bytes s cs) (resting (with_pen (painted g gs) q))) (sym pen)
    (then_leads _ _ _ (opening_bytes s) (cs ++ closing_bytes s) (opening_leads g s known)
    (then_leads _ _ _ cs (closing_bytes s) (text_leads cs (with_pen g p) is_shown columns) (closing_leads (painted g gs) s)))
