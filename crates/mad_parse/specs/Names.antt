-- Names of values, in any ASCII case.
use Rattle.std.specs.Prelude.{ℕ, Bool, List, [], ◌∷◌, ◌++◌, Option, Some, None, codes, if◌then◌else◌}
use Rattle.std.specs.Str.{str_eq_ignore_ascii_case}
use Rattle.mad_md.specs.declared.alignment.Alignment.{Alignment}
use Rattle.mad_md.specs.declared.alignment.Alignment.TheVariants.{Unspecified, Left, Center, Right}
use Rattle.mad_term.specs.declared.attribute.Attribute.{Attribute}
use Rattle.mad_term.specs.declared.attribute.Attribute.TheVariants.{Reset, Bold, Dim, Italic, Underlined, SlowBlink, RapidBlink, Reverse, CrossedOut, Encircled, OverLined}
use Rattle.mad_term.specs.Attribute.{attribute_name}

-- whether a text is this name, whatever the case of its ASCII letters
abbrev pub is_named : List ℕ → List ℕ → Bool
is_named text name = str_eq_ignore_ascii_case text name

-- the value that a table of names has for a text: that of the first name that the text is
abbrev pub named : {A : Type 0} → List (List ℕ × A) → List ℕ → Option A
named [] text = None
named (entry ∷ table) text = if is_named text entry.0 then Some entry.1 else named table text

-- the alignments that have a name
abbrev pub align_names : List (List ℕ × Alignment)
align_names = (codes "left", Left) ∷ (codes "center", Center) ∷ (codes "right", Right) ∷ []

-- the name of an alignment as it is written; one that isn't specified has none
abbrev pub align_text : Alignment → List ℕ
align_text Left = codes "left"
align_text Center = codes "center"
align_text Right = codes "right"
align_text Unspecified = codes ""

-- a name of two words: with a hyphen between them, with an underscore, and as one word
abbrev pub hyphenated : List ℕ → List ℕ → Attribute → List (List ℕ × Attribute)
hyphenated one two attribute = (one ++ codes "-" ++ two, attribute) ∷ (one ++ codes "_" ++ two, attribute) ∷ (one ++ two, attribute) ∷ []

-- the attributes that have a name
abbrev pub attribute_names : List (List ℕ × Attribute)
attribute_names =
    (codes "bold", Bold)
    ∷ (codes "dim", Dim)
    ∷ (codes "italic", Italic)
    ∷ (codes "reverse", Reverse)
    ∷ (codes "encircled", Encircled)
    ∷ (hyphenated (codes "crossed") (codes "out") CrossedOut
    ++ (hyphenated (codes "under") (codes "lined") Underlined
    ++ (hyphenated (codes "over") (codes "lined") OverLined
    ++ (hyphenated (codes "slow") (codes "blink") SlowBlink
    ++ hyphenated (codes "rapid") (codes "blink") RapidBlink))))

-- the name of an attribute as it is written; `Reset` has none
abbrev pub attribute_text : Attribute → List ℕ
attribute_text Reset = codes ""
attribute_text a = attribute_name a
