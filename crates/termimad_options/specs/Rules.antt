-- Which options there are.
use Rattle.std.specs.Prelude.{ℕ, List, [], ◌∷◌, codes, Some, true}
use Rattle.clap.specs.Words.{App, Rule, new_app, new_rule, with_rule}
use Rattle.clap.specs.declared.builder.action.ArgAction.TheVariants.{Append, Set, SetTrue}
use Rattle.clap.specs.declared.builder.value_parser.ValueParser.TheVariants.{Unsigned}

-- an option with a value
abbrev pub valued : List ℕ → Rule
valued name = record (new_rule name) { long = Some name; action = Some Set; value_names = 1 }

-- an option without a value
abbrev pub flag : List ℕ → Rule
flag name = record (new_rule name) { long = Some name; action = Some SetTrue }

-- the texts to show, in order
abbrev pub files_rule : Rule
files_rule = record (new_rule (codes "FILE")) { action = Some Append }

-- `-w`, `--width`: a number of columns from 1 to 65,535
abbrev pub width_rule : Rule
width_rule = record (valued (codes "width")) { short = Some 119; parser = Some (Unsigned 1 65535) }

-- `-F`
abbrev pub fits_rule : Rule
fits_rule = record (new_rule (codes "fits")) { short = Some 70; action = Some SetTrue }

-- a command with these options after those that it has
abbrev pub with_rules : App → List Rule → App
with_rules a [] = a
with_rules a (r ∷ rs) = with_rules (with_rule a r) rs

-- a command that has a version, and no option of its own yet; what comes twice counts as it came last
abbrev pub versioned : List ℕ → App
versioned name = record (new_app name) { top = record (new_app name).top { has_version = true; args_override_self = true } }

-- the options that there are
unfoldable pub termimad_rules : App
termimad_rules =
    with_rules (versioned (codes "termimad"))
    (files_rule ∷ width_rule ∷ valued (codes "skin") ∷ valued (codes "code") ∷ valued (codes "links") ∷ flag (codes "lines") ∷ flag (codes "plain")
    ∷ flag (codes "stream") ∷ flag (codes "live") ∷ flag (codes "no-pager") ∷ fits_rule ∷ [])
