-- How far the lines of an item are pushed in, as a text.
use Rattle.std.specs.Prelude.{ℕ, ◌&&◌, List, length, Option, Some, None, Result, Err, codes, nat_lt, if◌then◌else◌, ok_or, option_map, option_and_then}
use Rattle.mad_style.specs.declared.kinds.ListItemsIndentationMode.{ListItemsIndentationMode}
use Rattle.mad_style.specs.declared.kinds.ListItemsIndentationMode.TheVariants.{FirstLineOnly, Block, Hanging}
use Rattle.mad_parse.specs.Colors.{cut_at, without_last}
use Rattle.mad_parse.specs.Names.{is_named}
use Rattle.mad_parse.specs.Numbers.{number_below}
use Rattle.mad_parse.specs.StyleTokens.{unrecognized}
use Rattle.serde_json.specs.Data.{Data}
use Rattle.serde_json.specs.Find.{as_str}
use Rattle.mad_json.specs.Faults.{ValueFault, wrong_kind, bad_text}

-- `hanging` and in brackets one to three digits of a number below 256
abbrev pub called_mode : List ℕ → List ℕ → Option ListItemsIndentationMode
called_mode name digits =
    if is_named name (codes "hanging") && nat_lt (length digits) 4 then option_map Hanging (number_below 256 digits) else None

-- the mode of what is before a last bracket, which is cut at the first one, where it has one
abbrev pub front_mode : List ℕ → Option ListItemsIndentationMode
front_mode front = option_and_then (λ parts. called_mode parts.0 parts.1) (cut_at 40 front)

-- the mode of a text that ends in a bracket
abbrev pub hanging_mode : List ℕ → Option ListItemsIndentationMode
hanging_mode text = option_and_then front_mode (without_last 41 text)

-- the mode that a text names as a whole, in any ASCII case
abbrev pub mode_named : List ℕ → Option ListItemsIndentationMode
mode_named text =
    if is_named text (codes "first_line_only") then Some FirstLineOnly
    else if is_named text (codes "block") then Some Block
    else hanging_mode text

-- the mode of a text, where there is one; a text that names none is at fault as a whole
abbrev pub text_mode : Option (List ℕ) → Result ListItemsIndentationMode ValueFault
text_mode None = Err wrong_kind
text_mode (Some text) = ok_or (mode_named text) (bad_text (unrecognized text))

-- the mode that a value says
abbrev pub mode_said : Data → Result ListItemsIndentationMode ValueFault
mode_said d = text_mode (as_str d)
