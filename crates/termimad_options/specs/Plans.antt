-- What a call does where it is made: whether it pages, how wide it writes, in which skin, and whether it says where links lead.
use Rattle.std.specs.Prelude.{◌≡◌, ◌&&◌, ◌||◌, not, ℕ, Bool, true, false, Option, Some, None, option_map, unwrap_or, codes, if◌then◌else◌}
use Rattle.std.specs.Option.{option_or}
use Rattle.std.specs.Str.{bytes_eq}
use Rattle.clap.specs.Words.{Text}
use Rattle.termimad_options.specs.declared.calls.Call.{Call}
use Rattle.termimad_options.specs.declared.calls.Links.{Links}
use Rattle.termimad_options.specs.declared.calls.Links.TheVariants.{Auto, Always, Never}
use Rattle.termimad_options.specs.declared.plans.Plan.{Plan}
use Rattle.termimad_options.specs.declared.plans.Screen.{Screen}
use Rattle.termimad_options.specs.declared.plans.Shade.{Shade}
use Rattle.termimad_options.specs.declared.plans.Shade.TheVariants.{Dark, Light, Unknown}
use Rattle.termimad_options.specs.declared.plans.Surroundings.{Surroundings}
use Rattle.termimad_options.specs.declared.plans.Way.{Way}
use Rattle.termimad_options.specs.declared.plans.Way.TheVariants.{Writes, Pages, PagesBeyond}

-- standard output is a terminal that obeys commands
abbrev pub obeys : Surroundings → Bool
obeys around = around.is_terminal && not around.is_dumb

-- the input is written as it comes
abbrev pub comes : Call → Bool
comes call = call.streams || call.lives

-- a screen of so many columns and rows, where both are known
abbrev pub screen_sized : Option ℕ → Option ℕ → Option Screen
screen_sized (Some columns) (Some rows) = Some (record { columns = columns; rows = rows })
screen_sized _ _ = None

-- the screen on which what comes is redrawn in place: with --live that of a terminal that obeys commands and says its size
abbrev pub screen_of : Call → Surroundings → Option Screen
screen_of call around = if not (obeys around) || not call.lives then None else screen_sized around.columns around.rows

-- a terminal pages, unless an option says that it is written to: all of a text, or with -F only what has more rows than the terminal, or than 24
abbrev pub way_of : Call → Surroundings → Way
way_of call around =
    if not (obeys around) || (call.writes || comes call) then Writes
    else if call.fits then PagesBeyond (unwrap_or around.rows 24) else Pages

-- the columns that -w says, else those of the terminal, else those of COLUMNS, else 80
abbrev pub columns_of : Call → Surroundings → ℕ
columns_of call around = unwrap_or (option_or call.width (option_or around.columns around.set_columns)) 80

-- the skin for a shade of the background: dark where the terminal doesn't say it
abbrev pub skin_on : Shade → Text
skin_on Light = codes "light"
skin_on Dark = codes "dark"
skin_on Unknown = codes "dark"

-- the skin that suits the terminal: sixteen where it has fewer than 256 colors, and else the one for its shade
abbrev pub suiting : Surroundings → Text
suiting around = if around.has_few_colors then codes "sixteen" else skin_on around.shade

-- the skin that is named, where `auto` is the one that suits the terminal. Where none is named it is `none`, if NO_COLOR is set or no terminal obeys
-- commands, and else the one that suits.
abbrev pub chosen : Surroundings → Option Text → Text
chosen around (Some name) = if bytes_eq name (codes "auto") then suiting around else name
chosen around None = if obeys around && not around.is_colorless then suiting around else codes "none"

-- the skin that --skin names, or else TERMIMAD_SKIN
abbrev pub skin_of : Call → Surroundings → Text
skin_of call around = chosen around (option_map (λ text. text.now) (option_or call.skin around.skin))

-- it is written where links lead: wherever there are styles, never, or where a terminal that obeys commands shows styles
abbrev pub says_links : Links → Surroundings → Text → Bool
says_links Always around skin = not (bytes_eq skin (codes "none"))
says_links Never around skin = false
says_links Auto around skin = obeys around && not (bytes_eq skin (codes "none"))

-- What a call does where it is made.
pub record IsPlanOf (call : Call) (around : Surroundings) (plan : Plan) : Type 0 where
  pub way : plan.way ≡ way_of call around
  pub columns : plan.columns ≡ columns_of call around
  pub skin : plan.skin.now ≡ skin_of call around
  pub links : plan.says_links ≡ says_links call.links around (skin_of call around)
  pub streams : plan.streams ≡ comes call
  pub screen : plan.screen ≡ screen_of call around
