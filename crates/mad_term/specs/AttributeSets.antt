-- Sets of attributes as values.
use Rattle.std.specs.Prelude.{ℕ, ◌^◌, ◌<◌}
use Rattle.std.specs.Int.RustNames.{bit_or}
use Rattle.std.proofs.Common.{lit<}
use Rattle.std.proofs.lemmas.Nat.{or_lt}
use Rattle.mad_term.specs.declared.attribute.Attribute.{Attribute}
use Rattle.mad_term.specs.declared.attribute.Attribute.TheVariants.{Reset, Bold, Dim, Italic, Underlined, SlowBlink, RapidBlink, Reverse, Hidden, CrossedOut, Fraktur, NoBold, NormalIntensity, NoItalic, NoUnderline, NoBlink, NoReverse, NoHidden, NotCrossedOut, Framed, Encircled, OverLined, NotFramedOrEncircled, NotOverLined}
use Rattle.mad_term.specs.declared.attributes.Attributes.{Attributes}
use Rattle.mad_term.specs.Attribute.{attribute_index}
use Rattle.mad_term.specs.Attributes.{attribute_bits}

-- the set of this number
abbrev pub set_of_bits : (n : ℕ) → n < 2 ^ 24 → Attributes
set_of_bits n within = record { bits = record { 0 = n }; within = within }

-- the number of one attribute's bit is in reach
pub bit-lt : (a : Attribute) → 2 ^ attribute_index a < 2 ^ 24
bit-lt Reset = lit< tt
bit-lt Bold = lit< tt
bit-lt Dim = lit< tt
bit-lt Italic = lit< tt
bit-lt Underlined = lit< tt
bit-lt SlowBlink = lit< tt
bit-lt RapidBlink = lit< tt
bit-lt Reverse = lit< tt
bit-lt Hidden = lit< tt
bit-lt CrossedOut = lit< tt
bit-lt Fraktur = lit< tt
bit-lt NoBold = lit< tt
bit-lt NormalIntensity = lit< tt
bit-lt NoItalic = lit< tt
bit-lt NoUnderline = lit< tt
bit-lt NoBlink = lit< tt
bit-lt NoReverse = lit< tt
bit-lt NoHidden = lit< tt
bit-lt NotCrossedOut = lit< tt
bit-lt Framed = lit< tt
bit-lt Encircled = lit< tt
bit-lt OverLined = lit< tt
bit-lt NotFramedOrEncircled = lit< tt
bit-lt NotOverLined = lit< tt

-- the set without attributes
abbrev pub no_attributes : Attributes
no_attributes = set_of_bits 0 (lit< tt)

-- the set of this attribute alone
abbrev pub only : Attribute → Attributes
only a = set_of_bits (2 ^ attribute_index a) (bit-lt a)

-- the attributes of both sets
abbrev pub united : Attributes → Attributes → Attributes
united s t = set_of_bits (bit_or (attribute_bits s) (attribute_bits t)) (or_lt 24 _ _ s.within t.within)
