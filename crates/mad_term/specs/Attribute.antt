-- The attributes of a text, and the name, the code and the index of each.
use Rattle.std.specs.Prelude.{ℕ, List, [], ◌∷◌, codes}
use Rattle.mad_term.specs.declared.attribute.Attribute.{Attribute}
use Rattle.mad_term.specs.declared.attribute.Attribute.TheVariants.{Reset, Bold, Dim, Italic, Underlined, SlowBlink, RapidBlink, Reverse, Hidden, CrossedOut, Fraktur, NoBold, NormalIntensity, NoItalic, NoUnderline, NoBlink, NoReverse, NoHidden, NotCrossedOut, Framed, Encircled, OverLined, NotFramedOrEncircled, NotOverLined}

-- the name of an attribute
abbrev pub attribute_name : Attribute → List ℕ
attribute_name Reset = codes "Reset"
attribute_name Bold = codes "Bold"
attribute_name Dim = codes "Dim"
attribute_name Italic = codes "Italic"
attribute_name Underlined = codes "Underlined"
attribute_name SlowBlink = codes "SlowBlink"
attribute_name RapidBlink = codes "RapidBlink"
attribute_name Reverse = codes "Reverse"
attribute_name Hidden = codes "Hidden"
attribute_name CrossedOut = codes "CrossedOut"
attribute_name Fraktur = codes "Fraktur"
attribute_name NoBold = codes "NoBold"
attribute_name NormalIntensity = codes "NormalIntensity"
attribute_name NoItalic = codes "NoItalic"
attribute_name NoUnderline = codes "NoUnderline"
attribute_name NoBlink = codes "NoBlink"
attribute_name NoReverse = codes "NoReverse"
attribute_name NoHidden = codes "NoHidden"
attribute_name NotCrossedOut = codes "NotCrossedOut"
attribute_name Framed = codes "Framed"
attribute_name Encircled = codes "Encircled"
attribute_name OverLined = codes "OverLined"
attribute_name NotFramedOrEncircled = codes "NotFramedOrEncircled"
attribute_name NotOverLined = codes "NotOverLined"

-- the code of an attribute: the number of the command that sets it
abbrev pub attribute_code : Attribute → ℕ
attribute_code Reset = 0
attribute_code Bold = 1
attribute_code Dim = 2
attribute_code Italic = 3
attribute_code Underlined = 4
attribute_code SlowBlink = 5
attribute_code RapidBlink = 6
attribute_code Reverse = 7
attribute_code Hidden = 8
attribute_code CrossedOut = 9
attribute_code Fraktur = 20
attribute_code NoBold = 21
attribute_code NormalIntensity = 22
attribute_code NoItalic = 23
attribute_code NoUnderline = 24
attribute_code NoBlink = 25
attribute_code NoReverse = 27
attribute_code NoHidden = 28
attribute_code NotCrossedOut = 29
attribute_code Framed = 51
attribute_code Encircled = 52
attribute_code OverLined = 53
attribute_code NotFramedOrEncircled = 54
attribute_code NotOverLined = 55

-- the attributes in the order of these tables, in which those of a style are written
abbrev pub all_attributes : List Attribute
all_attributes =
    Reset
    ∷ Bold
    ∷ Dim
    ∷ Italic
    ∷ Underlined
    ∷ SlowBlink
    ∷ RapidBlink
    ∷ Reverse
    ∷ Hidden
    ∷ CrossedOut
    ∷ Fraktur
    ∷ NoBold
    ∷ NormalIntensity
    ∷ NoItalic
    ∷ NoUnderline
    ∷ NoBlink
    ∷ NoReverse
    ∷ NoHidden
    ∷ NotCrossedOut
    ∷ Framed
    ∷ Encircled
    ∷ OverLined
    ∷ NotFramedOrEncircled
    ∷ NotOverLined
    ∷ []

-- the index of an attribute in that order, which is also that of its bit in a set
abbrev pub attribute_index : Attribute → ℕ
attribute_index Reset = 0
attribute_index Bold = 1
attribute_index Dim = 2
attribute_index Italic = 3
attribute_index Underlined = 4
attribute_index SlowBlink = 5
attribute_index RapidBlink = 6
attribute_index Reverse = 7
attribute_index Hidden = 8
attribute_index CrossedOut = 9
attribute_index Fraktur = 10
attribute_index NoBold = 11
attribute_index NormalIntensity = 12
attribute_index NoItalic = 13
attribute_index NoUnderline = 14
attribute_index NoBlink = 15
attribute_index NoReverse = 16
attribute_index NoHidden = 17
attribute_index NotCrossedOut = 18
attribute_index Framed = 19
attribute_index Encircled = 20
attribute_index OverLined = 21
attribute_index NotFramedOrEncircled = 22
attribute_index NotOverLined = 23
