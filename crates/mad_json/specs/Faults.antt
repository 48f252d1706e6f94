-- Why a value is no skin.
use Rattle.std.specs.Prelude.{◌≡◌, ℕ, List, Result, Err, string_bytes}
use Rattle.mad_parse.specs.StyleTokens.{Fault, unrecognized, bad_color}
use Rattle.mad_parse.specs.declared.errors.ParseStyleTokenError.{ParseStyleTokenError}
use Rattle.mad_parse.specs.declared.errors.ParseStyleTokenError.TheVariants as token_error
use Rattle.mad_json.specs.declared.errors.SkinError.{SkinError}
use Rattle.mad_json.specs.declared.errors.SkinError.TheVariants.{NotObject, WrongType, Style, TwoNames, Memory}
use Rattle.mad_json.specs.declared.errors.ValueError.{ValueError}
use Rattle.mad_json.specs.declared.errors.ValueError.TheVariants as value_error

-- why a key's value says no part of a skin: it is of another kind, or a text in it is none of its kind
pub data ValueFault : Type 0 where
  wrong_kind : ValueFault
  bad_text : Fault → ValueFault

-- why a value is no skin: it is no object; a key's value is at fault; a key names what another before it named
pub data SkinFault : Type 0 where
  not_object : SkinFault
  at_key : List ℕ → ValueFault → SkinFault
  two_names : List ℕ → SkinFault

-- the error of a value by that of its text; out of memory is no fault of the text
abbrev pub value_error_of : ParseStyleTokenError → ValueError
value_error_of token_error.Memory = value_error.Memory
value_error_of error = value_error.Style error

-- An error of a value tells of its fault. Out of memory may come before any, and is never told of as the fault of a style.
abbrev pub TellsValue : {A : Type 0} → ValueError → Result A ValueFault → Type 0
TellsValue value_error.WrongType r = r ≡ Err wrong_kind
TellsValue (value_error.Style (token_error.Unrecognized text)) r = r ≡ Err (bad_text (unrecognized (string_bytes text)))
TellsValue (value_error.Style (token_error.InvalidColor e)) r = r ≡ Err (bad_text (bad_color e))
TellsValue (value_error.Style token_error.Memory) r = ⊥
TellsValue value_error.Memory r = Unit {0}

-- An error of a skin tells of its fault. Out of memory may come before any, and is never told of as the fault of a style.
abbrev pub TellsSkin : {A : Type 0} → SkinError → Result A SkinFault → Type 0
TellsSkin NotObject r = r ≡ Err not_object
TellsSkin (WrongType key) r = r ≡ Err (at_key (string_bytes key) wrong_kind)
TellsSkin (Style key (token_error.Unrecognized text)) r = r ≡ Err (at_key (string_bytes key) (bad_text (unrecognized (string_bytes text))))
TellsSkin (Style key (token_error.InvalidColor e)) r = r ≡ Err (at_key (string_bytes key) (bad_text (bad_color e)))
TellsSkin (Style key token_error.Memory) r = ⊥
TellsSkin (TwoNames key) r = r ≡ Err (two_names (string_bytes key))
TellsSkin Memory r = Unit {0}
