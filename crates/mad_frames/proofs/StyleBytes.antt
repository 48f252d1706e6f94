-- How many bytes the commands of a piece may take.
use Rattle.std.proofs.Common.{◌≡◌, ℕ, ◌+◌, ◌<◌, ◌≤◌, ◌^◌, Bool, true, false, cond, ◌||◌, not, eqb, nat_lt, List, [], ◌∷◌, ◌++◌, length, decimal, Option, Some, None, refl, ap, sym, ◌∙◌, arith, length-append}
use Rattle.std.specs.Prelude.{is_some}
use Rattle.std.specs.Int.{bit_at}
use Rattle.std.specs.List.{flat_map, list_all}
use Rattle.std.proofs.lemmas.Bool.{false≢true, ltb-true}
use Rattle.std.proofs.lemmas.Fmt.{length-decimal-le}
use Rattle.mad_term.specs.declared.attribute.Attribute.{Attribute}
use Rattle.mad_term.specs.declared.attribute.Attribute.TheVariants.{Reset}
use Rattle.mad_term.specs.declared.color.Color.{Color}
use Rattle.mad_term.specs.declared.color.Color.TheVariants.{Rgb, AnsiValue}
use Rattle.mad_term.specs.declared.commands.ClearType.TheVariants.{All}
use Rattle.mad_term.specs.declared.styles.ContentStyle.{ContentStyle}
use Rattle.mad_term.specs.Attribute.{all_attributes, attribute_code, attribute_index}
use Rattle.mad_term.specs.Attributes.{attribute_bits}
use Rattle.mad_term.specs.Color.{IsColor, IsColorOrNone}
use Rattle.mad_term.specs.Commands.{sgr_bytes, move_to_bytes, clear_bytes, command_bytes}
use Rattle.mad_term.specs.Styles.{IsStyle, color_bytes, present_bytes, attribute_bytes, attributes_bytes, opening_bytes, closing_bytes, piece_bytes}
use Rattle.mad_screen.specs.Glyph.{Look}
use Rattle.mad_screen.specs.Grid.{plain_pen}
use Rattle.mad_screen.specs.Pictures.{same_look}
use Rattle.mad_frames.specs.Bound.{longest_move, longest_style}
use Rattle.mad_frames.specs.RunBytes.{style_bytes}
use Rattle.mad_frames.specs.Whole.{is_kept, is_writable}
use Rattle.mad_frames.proofs.LooksLemmas.{both_true, same_look_true}

-- ---- commands

abbrev further : List ℕ → List ℕ
further = flat_map (λ m. 59 ∷ decimal m)

-- a number below a power of ten has at most that many digits
pub digits_most : (k n : ℕ) → 0 < k → n < 10 ^ k → n < 256 → length (decimal n) ≤ k
digits_most k n some fits small = length-decimal-le k n some fits (omega arith)

-- a command takes three bytes beside its numbers
pub command_most : (n : ℕ) (ns : List ℕ) (letter : ℕ) → length (command_bytes (n ∷ ns) letter) ≡ 3 + length (decimal n) + length (further ns)
command_most n ns letter = omega (arith, length-append (decimal n ++ further ns) (letter ∷ []), length-append (decimal n) (further ns))

further_more : (n : ℕ) (ns : List ℕ) → length (further (n ∷ ns)) ≡ 1 + length (decimal n) + length (further ns)
further_more n ns = omega (arith, length-append (59 ∷ decimal n) (further ns))

-- a move to a row and a column of five digits each
pub move_most : (x y : ℕ) → x < 2 ^ 16 → y < 2 ^ 16 → length (move_to_bytes x y) ≤ longest_move
move_most x y small_x small_y =
    omega (
      arith,
      command_most (y + 1) ((x + 1) ∷ []) 72,
      further_more (x + 1) [],
      length-decimal-le 5 (y + 1) (omega arith) (omega arith) (omega arith),
      length-decimal-le 5 (x + 1) (omega arith) (omega arith) (omega arith),
    )

color_most : (kind : ℕ) (c : Color) → kind < 100 → IsColor c → is_kept (Some c) ≡ true → length (color_bytes kind c) ≤ 19
color_most kind (Rgb r g b) small is kept =
    omega (
      arith,
      command_most kind (2 ∷ r ∷ g ∷ b ∷ []) 109,
      further_more 2 (r ∷ g ∷ b ∷ []),
      further_more r (g ∷ b ∷ []),
      further_more g (b ∷ []),
      further_more b [],
      digits_most 2 kind (omega arith) (omega arith) (omega arith),
      digits_most 1 2 (omega arith) (omega arith) (omega arith),
      digits_most 3 r (omega arith) (omega (arith, is.0)) is.0,
      digits_most 3 g (omega arith) (omega (arith, is.1)) is.1,
      digits_most 3 b (omega arith) (omega (arith, is.2)) is.2,
    )
color_most kind (AnsiValue n) small is kept =
    omega (
      arith,
      command_most kind (5 ∷ n ∷ []) 109,
      further_more 5 (n ∷ []),
      further_more n [],
      digits_most 2 kind (omega arith) (omega arith) (omega arith),
      digits_most 1 5 (omega arith) (omega arith) (omega arith),
      digits_most 3 n (omega arith) (omega (arith, is)) is,
    )
color_most kind _ small is kept = absurd (false≢true kept)

present_most : (kind : ℕ) (o : Option Color) → kind < 100 → IsColorOrNone o → is_kept o ≡ true → length (present_bytes (color_bytes kind) o) ≤ 19
present_most kind None small is kept = omega arith
present_most kind (Some c) small is kept = color_most kind c small is kept

one_most : (n : ℕ) → n < 100 → length (sgr_bytes (n ∷ [])) ≤ 5
one_most n small = omega (arith, command_most n [] 109, digits_most 2 n (omega arith) (omega arith) (omega arith))

default_most : (n : ℕ) (o : Option Color) → n < 100 → length (present_bytes (λ _. sgr_bytes (n ∷ [])) o) ≤ 5
default_most n None small = omega arith
default_most n (Some c) small = one_most n small

-- ---- attributes

abbrev code_bytes : Attribute → ℕ
code_bytes a = cond (nat_lt (attribute_code a) 10) 4 5

abbrev codes_bytes : List Attribute → ℕ
codes_bytes [] = 0
codes_bytes (a ∷ rest) = code_bytes a + codes_bytes rest

abbrev have_two_digits : List Attribute → Bool
have_two_digits = list_all (λ a. nat_lt (attribute_code a) 100)

code_most : (n : ℕ) → n < 100 → (b : Bool) → nat_lt n 10 ≡ b → length (sgr_bytes (n ∷ [])) ≤ cond b 4 5
code_most n small true e = omega (arith, command_most n [] 109, digits_most 1 n (omega arith) (omega (arith, ltb-true n 10 e)) (omega arith))
code_most n small false e = one_most n small

abbrev set_bytes : ℕ → Attribute → List ℕ
set_bytes bits a = cond (eqb (bit_at bits (attribute_index a)) 1) (attribute_bytes a) []

present_or_none : (b : Bool) (l : List ℕ) → length (cond b l []) ≤ length l
present_or_none true l = omega arith
present_or_none false l = omega arith

codes_most : (bits : ℕ) (all : List Attribute) → have_two_digits all ≡ true → length (flat_map (set_bytes bits) all) ≤ codes_bytes all
codes_most bits [] h = omega arith
codes_most bits (a ∷ rest) h =
    let s = both_true (nat_lt (attribute_code a) 100) (have_two_digits rest) h in
    omega (
      arith,
      length-append (set_bytes bits a) (flat_map (set_bytes bits) rest),
      present_or_none (eqb (bit_at bits (attribute_index a)) 1) (attribute_bytes a),
      code_most (attribute_code a) (ltb-true (attribute_code a) 100 s.0) (nat_lt (attribute_code a) 10) refl,
      codes_most bits rest s.1,
    )

abbrev all_but_first : List Attribute → List Attribute
all_but_first [] = []
all_but_first (a ∷ rest) = rest

not_reset : (bits : ℕ) → not (eqb (bit_at bits 0) 1) ≡ true → set_bytes bits Reset ≡ []
not_reset bits h = by (eqb (bit_at bits 0) 1) h
  where
    by : (b : Bool) → not b ≡ true → cond b (attribute_bytes Reset) [] ≡ []
    by true k = absurd (false≢true k)
    by false k = refl

-- those of a pen: all but Reset, nine of four bytes and fourteen of five
attributes_most : (bits : ℕ) → not (eqb (bit_at bits 0) 1) ≡ true → length (flat_map (set_bytes bits) all_attributes) ≤ 106
attributes_most bits h =
    let rest = all_but_first all_attributes in
    let first : flat_map (set_bytes bits) all_attributes ≡ flat_map (set_bytes bits) rest = ap (λ l. l ++ flat_map (set_bytes bits) rest) (not_reset bits h) in
    omega (arith, ap length first, codes_most bits rest refl)

-- ---- pieces

-- the pen of a style whose colors are kept
abbrev pub pen_of : ContentStyle → Look
pen_of s = record { fg = s.foreground_color; bg = s.background_color; underline = s.underline_color; codes = attribute_bits s.attributes }

opening_most : (s : ContentStyle) → is_writable (pen_of s) ≡ true → IsStyle s → length (opening_bytes s) ≤ 144 + length (present_bytes (color_bytes 58) s.underline_color)
opening_most s h is =
    let fg = both_true (is_kept s.foreground_color) _ h in
    let bg = both_true (is_kept s.background_color) _ fg.1 in
    let ul = both_true (is_kept s.underline_color) _ bg.1 in
    let a = present_bytes (color_bytes 48) s.background_color in
    let b = present_bytes (color_bytes 38) s.foreground_color in
    let c = present_bytes (color_bytes 58) s.underline_color in
    let d = attributes_bytes s.attributes in
    omega (
      arith,
      length-append a (b ++ (c ++ d)),
      length-append b (c ++ d),
      length-append c d,
      present_most 48 s.background_color (omega arith) is.background bg.0,
      present_most 38 s.foreground_color (omega arith) is.foreground fg.0,
      attributes_most (attribute_bits s.attributes) ul.1,
    )

no_color : (o : Option Color) (c : Bool) → (is_some o || c) ≡ false → length (present_bytes (color_bytes 58) o) ≡ 0
no_color None c h = refl
no_color (Some o) c h = absurd (false≢true (sym h))

commands_most : (s : ContentStyle) → is_writable (pen_of s) ≡ true → IsStyle s → length (opening_bytes s) + length (closing_bytes s) ≤ 167
commands_most s h is = by (is_some s.underline_color || not (eqb (attribute_bits s.attributes) 0)) refl
  where
    by : (b : Bool) → (is_some s.underline_color || not (eqb (attribute_bits s.attributes) 0)) ≡ b → length (opening_bytes s) + length (cond b (sgr_bytes (0 ∷ [])) (present_bytes (λ _. sgr_bytes (49 ∷ [])) s.background_color ++ present_bytes (λ _. sgr_bytes (39 ∷ [])) s.foreground_color)) ≤ 167
    by true e =
        let kept = both_true (is_kept s.underline_color) _ (both_true (is_kept s.background_color) _ (both_true (is_kept s.foreground_color) _ h).1).1 in
        omega (arith, opening_most s h is, present_most 58 s.underline_color (omega arith) is.underline kept.0, code_most 0 (omega arith) true refl)
    by false e =
        let a = present_bytes (λ _. sgr_bytes (49 ∷ [])) s.background_color in
        let b = present_bytes (λ _. sgr_bytes (39 ∷ [])) s.foreground_color in
        omega (
          arith,
          opening_most s h is,
          no_color s.underline_color (not (eqb (attribute_bits s.attributes) 0)) e,
          length-append a b,
          default_most 49 s.background_color (omega arith),
          default_most 39 s.foreground_color (omega arith),
        )

none_written : (bytes : Color → List ℕ) (o : Option Color) → o ≡ None → length (present_bytes bytes o) ≡ 0
none_written bytes None e = refl
none_written bytes (Some c) e = absurd (false≢true (ap is_some (sym e)))

none_closed : (o : Option Color) (bits : ℕ) (l m : List ℕ) → o ≡ None → bits ≡ 0 → length m ≡ 0 → length (cond (is_some o || not (eqb bits 0)) l m) ≡ 0
none_closed None bits l m e f h = ap (λ n. length (cond (not (eqb n 0)) l m)) f ∙ h
none_closed (Some c) bits l m e f h = absurd (false≢true (ap is_some (sym e)))

plain_commands : (s : ContentStyle) → pen_of s ≡ plain_pen → length (opening_bytes s) + length (closing_bytes s) ≡ 0
plain_commands s e =
    let fg : s.foreground_color ≡ None = ap (λ (p : Look). p.fg) e in
    let bg : s.background_color ≡ None = ap (λ (p : Look). p.bg) e in
    let ul : s.underline_color ≡ None = ap (λ (p : Look). p.underline) e in
    let bits : attribute_bits s.attributes ≡ 0 = ap (λ (p : Look). p.codes) e in
    let none : length (flat_map (set_bytes (attribute_bits s.attributes)) all_attributes) ≡ 0 = ap (λ n. length (flat_map (set_bytes n) all_attributes)) bits in
    let a = present_bytes (color_bytes 48) s.background_color in
    let b = present_bytes (color_bytes 38) s.foreground_color in
    let c = present_bytes (color_bytes 58) s.underline_color in
    let d = attributes_bytes s.attributes in
    let m = present_bytes (λ _. sgr_bytes (49 ∷ [])) s.background_color in
    let n = present_bytes (λ _. sgr_bytes (39 ∷ [])) s.foreground_color in
    let ends : length (m ++ n) ≡ 0 = omega (arith, length-append m n, none_written (λ _. sgr_bytes (49 ∷ [])) s.background_color bg, none_written (λ _. sgr_bytes (39 ∷ [])) s.foreground_color fg) in
    omega (
      arith,
      length-append a (b ++ (c ++ d)),
      length-append b (c ++ d),
      length-append c d,
      none_written (color_bytes 48) s.background_color bg,
      none_written (color_bytes 38) s.foreground_color fg,
      none_written (color_bytes 58) s.underline_color ul,
      none,
      none_closed s.underline_color (attribute_bits s.attributes) (sgr_bytes (0 ∷ [])) (m ++ n) ul bits ends,
    )

-- a piece takes the bytes of its pen and those of its text at most
pub piece_most : (s : ContentStyle) → is_writable (pen_of s) ≡ true → IsStyle s → (text : List ℕ) → length (piece_bytes s text) ≤ style_bytes (pen_of s) + length text
piece_most s h is text = by (same_look (pen_of s) plain_pen) refl
  where
    count : length (piece_bytes s text) ≡ length (opening_bytes s) + length (closing_bytes s) + length text
    count = omega (arith, length-append (opening_bytes s) (text ++ closing_bytes s), length-append text (closing_bytes s))

    by : (b : Bool) → same_look (pen_of s) plain_pen ≡ b → length (piece_bytes s text) ≤ cond b 0 longest_style + length text
    by true e = omega (arith, count, plain_commands s (same_look_true (pen_of s) plain_pen e))
    by false e = omega (arith, count, commands_most s h is)

-- what clears a terminal
pub clearing_most : length (sgr_bytes (0 ∷ []) ++ clear_bytes All) ≤ 8
clearing_most =
    omega (
      arith,
      length-append (sgr_bytes (0 ∷ [])) (clear_bytes All),
      command_most 0 [] 109,
      command_most 2 [] 74,
      digits_most 1 0 (omega arith) (omega arith) (omega arith),
      digits_most 1 2 (omega arith) (omega arith) (omega arith),
    )
