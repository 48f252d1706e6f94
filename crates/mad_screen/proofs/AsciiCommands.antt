-- All commands are ASCII, so that their characters are their bytes.
use Rattle.std.proofs.Common.{ℕ, suc, ◌+◌, ◌^◌, ◌<◌, Bool, true, false, List, [], ◌∷◌, ◌++◌, Option, Some, None, if◌then◌else◌, is_some, not, ◌||◌, ◌==◌, arith, lit<}
use Rattle.std.specs.Prelude.{decimal, IsAscii}
use Rattle.std.specs.List.{AllByRecursion, flat_map}
use Rattle.std.proofs.lemmas.Str.Ascii.{IsAscii-cons, IsAscii-nil}
use Rattle.std.proofs.lemmas.Fmt.{IsAscii-decimal}
use Rattle.mad_term.specs.declared.attribute.Attribute.{Attribute}
use Rattle.mad_term.specs.declared.attribute.Attribute.TheVariants.{Bold, Dim, Italic, Underlined, SlowBlink, RapidBlink, Reverse, Hidden, CrossedOut, Fraktur, NoBold, NormalIntensity, NoItalic, NoUnderline, NoBlink, NoReverse, NoHidden, NotCrossedOut, Framed, Encircled, OverLined, NotFramedOrEncircled, NotOverLined}
use Rattle.mad_term.specs.declared.attribute.Attribute.TheVariants as attributes
use Rattle.mad_term.specs.declared.attributes.Attributes.{Attributes}
use Rattle.mad_term.specs.declared.color.Color.{Color}
use Rattle.mad_term.specs.declared.color.Color.TheVariants.{Reset, Rgb, AnsiValue}
use Rattle.mad_term.specs.declared.commands.ClearType.{ClearType}
use Rattle.mad_term.specs.declared.commands.ClearType.TheVariants.{All, FromCursorDown, FromCursorUp, CurrentLine, UntilNewLine}
use Rattle.mad_term.specs.declared.styles.ContentStyle.{ContentStyle}
use Rattle.mad_term.specs.Attribute.{all_attributes, attribute_code}
use Rattle.mad_term.specs.Attributes.{attribute_bits, has_attribute}
use Rattle.mad_term.specs.Color.{IsColor, IsColorOrNone}
use Rattle.mad_term.specs.Commands.{numbers_bytes, command_bytes, move_to_bytes, clear_bytes, sgr_bytes}
use Rattle.mad_term.specs.Styles.{color_bytes, color_numbers, attribute_bytes, attributes_bytes, present_bytes, foreground_bytes, background_bytes, underline_bytes, opening_bytes, closing_bytes, IsStyle}

-- ASCII and ASCII after it are ASCII
pub ascii_both : (xs ys : List ℕ) → IsAscii xs → IsAscii ys → IsAscii (xs ++ ys)
ascii_both [] ys p q = q
ascii_both (x ∷ xs) ys p q = IsAscii-cons x (xs ++ ys) (p 0) (ascii_both xs ys (λ i. p (suc i)) q)

-- numbers that can be written
abbrev pub AreSmall : List ℕ → Type 0
AreSmall = AllByRecursion (λ n. n < 2 ^ 64)

ascii_after : (ns : List ℕ) → AreSmall ns → IsAscii (flat_map (λ m. 59 ∷ decimal m) ns)
ascii_after [] small = IsAscii-nil
ascii_after (n ∷ ns) small = ascii_both (59 ∷ decimal n) (flat_map (λ m. 59 ∷ decimal m) ns) (IsAscii-cons 59 (decimal n) (lit< tt) (IsAscii-decimal n small.0)) (ascii_after ns small.1)

-- numbers with semicolons between are ASCII
pub ascii_numbers : (ns : List ℕ) → AreSmall ns → IsAscii (numbers_bytes ns)
ascii_numbers [] small = IsAscii-nil
ascii_numbers (n ∷ ns) small = ascii_both (decimal n) (flat_map (λ m. 59 ∷ decimal m) ns) (IsAscii-decimal n small.0) (ascii_after ns small.1)

-- a command of such numbers is ASCII
pub ascii_command : (numbers : List ℕ) (letter : ℕ) → AreSmall numbers → letter < 128 → IsAscii (command_bytes numbers letter)
ascii_command numbers letter small low =
    let tail : IsAscii (numbers_bytes numbers ++ letter ∷ []) = ascii_both (numbers_bytes numbers) (letter ∷ []) (ascii_numbers numbers small) (IsAscii-cons letter [] low IsAscii-nil) in
    IsAscii-cons 27 (91 ∷ (numbers_bytes numbers ++ letter ∷ [])) (lit< tt) (IsAscii-cons 91 (numbers_bytes numbers ++ letter ∷ []) (lit< tt) tail)

-- the move to a position is ASCII
pub ascii_move_to : (x y : ℕ) → x < 2 ^ 32 → y < 2 ^ 32 → IsAscii (move_to_bytes x y)
ascii_move_to x y small_x small_y = ascii_command ((y + 1) ∷ (x + 1) ∷ []) 72 (omega arith, (omega arith, tt)) (lit< tt)

-- what clears is ASCII
pub ascii_clear : (what : ClearType) → IsAscii (clear_bytes what)
ascii_clear All = ascii_command (2 ∷ []) 74 (lit< tt, tt) (lit< tt)
ascii_clear FromCursorDown = ascii_command [] 74 tt (lit< tt)
ascii_clear FromCursorUp = ascii_command (1 ∷ []) 74 (lit< tt, tt) (lit< tt)
ascii_clear CurrentLine = ascii_command (2 ∷ []) 75 (lit< tt, tt) (lit< tt)
ascii_clear UntilNewLine = ascii_command [] 75 tt (lit< tt)

-- what changes the pen is ASCII
pub ascii_sgr : (numbers : List ℕ) → AreSmall numbers → IsAscii (sgr_bytes numbers)
ascii_sgr numbers small = ascii_command numbers 109 small (lit< tt)

small_color : (kind : ℕ) (color : Color) → kind < 2 ^ 32 → IsColor color → AreSmall (color_numbers kind color)
small_color kind Reset low h = (omega arith, tt)
small_color kind (Rgb r g b) low h = (omega arith, (lit< tt, (omega (arith, h.0), (omega (arith, h.1), (omega (arith, h.2), tt)))))
small_color kind (AnsiValue n) low h = (omega arith, (lit< tt, (omega (arith, h), tt)))
small_color kind _ low h = (omega arith, (lit< tt, (lit< tt, tt)))

-- the command of a color is ASCII
pub ascii_color : (kind : ℕ) (color : Color) → kind < 2 ^ 32 → IsColor color → IsAscii (color_bytes kind color)
ascii_color kind color low h = ascii_sgr (color_numbers kind color) (small_color kind color low h)

-- the code of an attribute can be written
pub attribute_code-lt : (a : Attribute) → attribute_code a < 2 ^ 64
attribute_code-lt attributes.Reset = lit< tt
attribute_code-lt Bold = lit< tt
attribute_code-lt Dim = lit< tt
attribute_code-lt Italic = lit< tt
attribute_code-lt Underlined = lit< tt
attribute_code-lt SlowBlink = lit< tt
attribute_code-lt RapidBlink = lit< tt
attribute_code-lt Reverse = lit< tt
attribute_code-lt Hidden = lit< tt
attribute_code-lt CrossedOut = lit< tt
attribute_code-lt Fraktur = lit< tt
attribute_code-lt NoBold = lit< tt
attribute_code-lt NormalIntensity = lit< tt
attribute_code-lt NoItalic = lit< tt
attribute_code-lt NoUnderline = lit< tt
attribute_code-lt NoBlink = lit< tt
attribute_code-lt NoReverse = lit< tt
attribute_code-lt NoHidden = lit< tt
attribute_code-lt NotCrossedOut = lit< tt
attribute_code-lt Framed = lit< tt
attribute_code-lt Encircled = lit< tt
attribute_code-lt OverLined = lit< tt
attribute_code-lt NotFramedOrEncircled = lit< tt
attribute_code-lt NotOverLined = lit< tt

-- the command of an attribute is ASCII
pub ascii_attribute : (a : Attribute) → IsAscii (attribute_bytes a)
ascii_attribute a = ascii_sgr (attribute_code a ∷ []) (attribute_code-lt a, tt)

ascii_chosen : (b : Bool) (xs : List ℕ) → IsAscii xs → IsAscii (if b then xs else [])
ascii_chosen true xs h = h
ascii_chosen false xs h = IsAscii-nil

ascii_some : (s : Attributes) (all : List Attribute) → IsAscii (flat_map (λ a. if has_attribute s a then attribute_bytes a else []) all)
ascii_some s [] = IsAscii-nil
ascii_some s (a ∷ rest) =
    ascii_both (if has_attribute s a then attribute_bytes a else []) (flat_map (λ b. if has_attribute s b then attribute_bytes b else []) rest)
    (ascii_chosen (has_attribute s a) (attribute_bytes a) (ascii_attribute a)) (ascii_some s rest)

-- the commands of a set of attributes are ASCII
pub ascii_attributes : (s : Attributes) → IsAscii (attributes_bytes s)
ascii_attributes s = ascii_some s all_attributes

ascii_present : (kind : ℕ) (color : Option Color) → kind < 2 ^ 32 → IsColorOrNone color → IsAscii (present_bytes (color_bytes kind) color)
ascii_present kind None low h = IsAscii-nil
ascii_present kind (Some color) low h = ascii_color kind color low h

-- the commands before a text in a style are ASCII
pub ascii_opening : (s : ContentStyle) → IsStyle s → IsAscii (opening_bytes s)
ascii_opening s h =
    let underline : List ℕ = present_bytes underline_bytes s.underline_color in
    let foreground : List ℕ = present_bytes foreground_bytes s.foreground_color in
    ascii_both (present_bytes background_bytes s.background_color) (foreground ++ (underline ++ attributes_bytes s.attributes)) (ascii_present 48 s.background_color (lit< tt) h.background)
    (ascii_both foreground (underline ++ attributes_bytes s.attributes) (ascii_present 38 s.foreground_color (lit< tt) h.foreground)
    (ascii_both underline (attributes_bytes s.attributes) (ascii_present 58 s.underline_color (lit< tt) h.underline) (ascii_attributes s.attributes)))

ascii_default : (n : ℕ) (color : Option Color) → n < 2 ^ 64 → IsAscii (present_bytes (λ _. sgr_bytes (n ∷ [])) color)
ascii_default n None low = IsAscii-nil
ascii_default n (Some color) low = ascii_sgr (n ∷ []) (low, tt)

ascii_either : (b : Bool) (xs ys : List ℕ) → IsAscii xs → IsAscii ys → IsAscii (if b then xs else ys)
ascii_either true xs ys p q = p
ascii_either false xs ys p q = q

-- the commands after it are ASCII
pub ascii_closing : (s : ContentStyle) → IsAscii (closing_bytes s)
ascii_closing s =
    let defaults : List ℕ = present_bytes (λ _. sgr_bytes (49 ∷ [])) s.background_color ++ present_bytes (λ _. sgr_bytes (39 ∷ [])) s.foreground_color in
    ascii_either (is_some s.underline_color || not (attribute_bits s.attributes == 0)) (sgr_bytes (0 ∷ [])) defaults (ascii_sgr (0 ∷ []) (lit< tt, tt))
    (ascii_both (present_bytes (λ _. sgr_bytes (49 ∷ [])) s.background_color) (present_bytes (λ _. sgr_bytes (39 ∷ [])) s.foreground_color)
    (ascii_default 49 s.background_color (lit< tt)) (ascii_default 39 s.foreground_color (lit< tt)))
