-- Where the bits of attributes lie.
use Rattle.std.proofs.Common.{◌<◌, lit<}
use Rattle.mad_term.specs.declared.attribute.Attribute.{Attribute}
use Rattle.mad_term.specs.declared.attribute.Attribute.TheVariants.{Reset, Bold, Dim, Italic, Underlined, SlowBlink, RapidBlink, Reverse, Hidden, CrossedOut, Fraktur, NoBold, NormalIntensity, NoItalic, NoUnderline, NoBlink, NoReverse, NoHidden, NotCrossedOut, Framed, Encircled, OverLined, NotFramedOrEncircled, NotOverLined}
use Rattle.mad_term.specs.Attribute.{attribute_index}

-- the index of an attribute is below 24
pub attribute_index-lt : (a : Attribute) → attribute_index a < 24
attribute_index-lt Reset = lit< tt
attribute_index-lt Bold = lit< tt
attribute_index-lt Dim = lit< tt
attribute_index-lt Italic = lit< tt
attribute_index-lt Underlined = lit< tt
attribute_index-lt SlowBlink = lit< tt
attribute_index-lt RapidBlink = lit< tt
attribute_index-lt Reverse = lit< tt
attribute_index-lt Hidden = lit< tt
attribute_index-lt CrossedOut = lit< tt
attribute_index-lt Fraktur = lit< tt
attribute_index-lt NoBold = lit< tt
attribute_index-lt NormalIntensity = lit< tt
attribute_index-lt NoItalic = lit< tt
attribute_index-lt NoUnderline = lit< tt
attribute_index-lt NoBlink = lit< tt
attribute_index-lt NoReverse = lit< tt
attribute_index-lt NoHidden = lit< tt
attribute_index-lt NotCrossedOut = lit< tt
attribute_index-lt Framed = lit< tt
attribute_index-lt Encircled = lit< tt
attribute_index-lt OverLined = lit< tt
attribute_index-lt NotFramedOrEncircled = lit< tt
attribute_index-lt NotOverLined = lit< tt
