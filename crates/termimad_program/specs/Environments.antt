-- What the environment tells of where a call is made.
use Rattle.std.specs.Prelude.{◌≡◌, ℕ, List, Option, option_map, is_some, ◌||◌, string_bytes}
use Rattle.std.specs.declared.alloc.Global.{Global}
use Rattle.std.specs.declared.string.String.{String}
use Rattle.termimad_options.specs.Telling.{text_told}
use Rattle.termimad_options.specs.declared.telling.Told.{Told}
use Rattle.termimad_program.specs.declared.environment.Environment.{Environment}

-- the text of a value
abbrev pub text_of : Option (String Global) → Option (List ℕ)
text_of = option_map string_bytes

-- It tells its values. Where it has a shade, the text goes to a terminal.
pub record Tells (environment : Environment) (told : Told) : Type 0 where
  pub terminal : told.is_terminal ≡ (environment.is_terminal || is_some environment.shade)
  pub term : text_told told.term ≡ text_of environment.term
  pub no_color : text_told told.no_color ≡ text_of environment.no_color
  pub set_columns : text_told told.set_columns ≡ text_of environment.set_columns
  pub skin : text_told told.skin ≡ text_of environment.skin
  pub shade : text_told told.shade ≡ text_of environment.shade
  pub columns : text_told told.columns ≡ text_of environment.columns
  pub rows : text_told told.rows ≡ text_of environment.rows
  pub colors : text_told told.colors ≡ text_of environment.colors
