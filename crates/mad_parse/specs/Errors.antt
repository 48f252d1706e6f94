-- The exact texts of errors.
use Rattle.std.specs.Prelude.{ℕ, List, ◌++◌, codes, decimal, string_bytes}
use Rattle.mad_parse.specs.declared.errors.ParseColorError.{ParseColorError}
use Rattle.mad_parse.specs.declared.errors.ParseColorError.TheVariants as color_error
use Rattle.mad_parse.specs.declared.errors.ParseStyleTokenError.{ParseStyleTokenError}
use Rattle.mad_parse.specs.declared.errors.ParseStyleTokenError.TheVariants as error

-- what the refusal of a color is shown as
abbrev pub color_error_text : ParseColorError → List ℕ
color_error_text color_error.Unrecognized = codes "not a recognized color"
color_error_text (color_error.InvalidGreyLevel level) = codes "grey level must be between 0 and 23 (got " ++ decimal level ++ codes ")"

-- what the refusal of a text of style tokens is shown as
abbrev pub token_error_text : ParseStyleTokenError → List ℕ
token_error_text (error.Unrecognized text) = string_bytes text ++ codes " not recognized as a style token"
token_error_text (error.InvalidColor e) = codes "Invalid color: " ++ color_error_text e
token_error_text error.Memory = codes "want of memory"
