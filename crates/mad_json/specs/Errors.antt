-- The exact texts of errors.
use Rattle.std.specs.Prelude.{ℕ, List, ◌++◌, codes, string_bytes}
use Rattle.mad_parse.specs.Errors.{token_error_text}
use Rattle.mad_json.specs.declared.errors.SkinError.{SkinError}
use Rattle.mad_json.specs.declared.errors.SkinError.TheVariants.{NotObject, WrongType, Style, TwoNames, Memory}

-- the text of an error
abbrev pub skin_error_text : SkinError → List ℕ
skin_error_text NotObject = codes "not an object"
skin_error_text (WrongType key) = codes "wrong type: " ++ string_bytes key
skin_error_text (Style key error) = string_bytes key ++ codes ": " ++ token_error_text error
skin_error_text (TwoNames key) = codes "two names: " ++ string_bytes key
skin_error_text Memory = codes "want of memory"
