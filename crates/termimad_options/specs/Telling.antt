-- What is told of where a call is made.
use Rattle.std.specs.Prelude.{◌≡◌, ◌==◌, ℕ, nat_lt, Bool, true, false, [], ◌∷◌, Option, Some, None, is_some, option_map, option_and_then, codes, if◌then◌else◌}
use Rattle.std.specs.Borrow.{Bor}
use Rattle.std.specs.Str.{bytes_eq}
use Rattle.clap.specs.Words.{Text}
use Rattle.termimad_options.specs.Calls.{columns_written}
use Rattle.termimad_options.specs.declared.plans.Shade.{Shade}
use Rattle.termimad_options.specs.declared.plans.Shade.TheVariants.{Dark, Light, Unknown}
use Rattle.termimad_options.specs.declared.plans.Surroundings.{Surroundings}
use Rattle.termimad_options.specs.declared.telling.Told.{Told}

-- the text of a word
abbrev pub text_told : Option (Bor Text) → Option Text
text_told = option_map (λ word. word.now)

-- the text is empty
abbrev pub is_empty_text : Text → Bool
is_empty_text [] = true
is_empty_text (b ∷ bs) = false

-- a word that isn't empty
abbrev pub said : Option (Bor Text) → Option (Bor Text)
said None = None
said (Some word) = if is_empty_text word.now then None else Some word

-- a terminal of this kind obeys no commands: one that is called dumb, or that has no name
abbrev pub is_dumb : Option Text → Bool
is_dumb None = true
is_dumb (Some name) = if is_empty_text name then true else bytes_eq name (codes "dumb")

-- so many colors are few: under 256. Where it isn't said, they are not.
abbrev pub has_few : Option ℕ → Bool
has_few None = false
has_few (Some count) = nat_lt count 256

-- the shade that a word says
abbrev pub shade_told : Option Text → Shade
shade_told None = Unknown
shade_told (Some name) = if bytes_eq name (codes "dark") then Dark else if bytes_eq name (codes "light") then Light else Unknown

-- the number, if it isn't 0
abbrev pub some_number : Option ℕ → Option ℕ
some_number None = None
some_number (Some n) = if n == 0 then None else Some n

-- the number that a word says, from 1 to 65,535
abbrev pub number_told : Option Text → Option ℕ
number_told word = some_number (option_and_then columns_written word)

-- What is known of where a call is made.
pub record AreSurroundings (told : Told) (around : Surroundings) : Type 0 where
  pub terminal : around.is_terminal ≡ told.is_terminal
  pub dumb : around.is_dumb ≡ is_dumb (text_told told.term)
  pub few : around.has_few_colors ≡ has_few (number_told (text_told told.colors))
  pub colorless : around.is_colorless ≡ is_some (said told.no_color)
  pub shade : around.shade ≡ shade_told (text_told told.shade)
  pub columns : around.columns ≡ number_told (text_told told.columns)
  pub rows : around.rows ≡ number_told (text_told told.rows)
  pub set_columns : around.set_columns ≡ number_told (text_told told.set_columns)
  pub skin : around.skin ≡ said told.skin
