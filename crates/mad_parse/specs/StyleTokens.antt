-- What a style token says.
use Rattle.std.specs.Prelude.{ℕ, List, [], ◌∷◌, Option, Some, None, Result, Ok, Err, codes, if◌then◌else◌}
use Rattle.std.specs.Str.{chars}
use Rattle.mad_md.specs.declared.alignment.Alignment.{Alignment}
use Rattle.mad_term.specs.declared.attribute.Attribute.{Attribute}
use Rattle.mad_term.specs.declared.color.Color.{Color}
use Rattle.mad_parse.specs.Names.{is_named, named, align_names, attribute_names}
use Rattle.mad_parse.specs.Numbers.{signed_number_below}
use Rattle.mad_parse.specs.Colors.{color_of}
use Rattle.mad_parse.specs.declared.errors.ParseColorError.{ParseColorError}
use Rattle.mad_parse.specs.declared.errors.ParseColorError.TheVariants.{Unrecognized, InvalidGreyLevel}
use Rattle.mad_parse.specs.declared.tokens.StyleToken.{StyleToken}
use Rattle.mad_parse.specs.declared.tokens.StyleToken.TheVariants as token

-- why a text is no style token: it says nothing (with the text itself), or it is a gray above level 23
pub data Fault : Type 0 where
  unrecognized : List ℕ → Fault
  bad_color : ParseColorError → Fault

-- the only character, if there is just one
abbrev pub only : List ℕ → Option ℕ
only (c ∷ []) = Some c
only _ = None

-- a character, or the text is no token
abbrev pub as_char : Option ℕ → List ℕ → Result StyleToken Fault
as_char (Some c) text = Ok (token.Char c)
as_char None text = Err (unrecognized text)

-- an alignment, else what `as_char` says
abbrev pub as_align : Option Alignment → List ℕ → Result StyleToken Fault
as_align (Some align) text = Ok (token.Align align)
as_align None text = as_char (only (chars text)) text

-- an attribute, else what `as_align` says
abbrev pub as_attribute : Option Attribute → List ℕ → Result StyleToken Fault
as_attribute (Some attribute) text = Ok (token.Attribute attribute)
as_attribute None text = as_align (named align_names text) text

-- a color, or the fault of a gray above level 23, else what `as_attribute` says
abbrev pub as_color : Result Color ParseColorError → List ℕ → Result StyleToken Fault
as_color (Ok color) text = Ok (token.Color color)
as_color (Err (InvalidGreyLevel level)) text = Err (bad_color (InvalidGreyLevel level))
as_color (Err Unrecognized) text = as_attribute (named attribute_names text) text

-- a number, else what `as_color` says
abbrev pub as_number : Option ℕ → List ℕ → Result StyleToken Fault
as_number (Some n) text = Ok (token.Dimension n)
as_number None text = as_color (color_of text) text

-- what a token says: the first that it is of `none`, a number below 65536, a color, an attribute, an alignment, a character
abbrev pub token_of : List ℕ → Result StyleToken Fault
token_of text = if is_named text (codes "none") then Ok token.None else as_number (signed_number_below 65536 text) text
