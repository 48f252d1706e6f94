use Rattle.std.proofs.Common.{◌∙◌, sym, ap, false, codes, option_map, Bool, Option}
use Rattle.std.specs.Borrow.{Bor}
use Rattle.std.specs.Option.{option_map_or}
use Rattle.std.specs.Str.{bytes_eq}
use Rattle.clap.proofs.WalkLemmas.{first_value-rows}
use Rattle.clap.specs.Words.{Text, found_of}
use Rattle.termimad_options.proofs.calls.is_there.Goals as goal

abbrev says_true : Option Text → Bool
says_true text = option_map_or (λ text. bytes_eq text (codes "true")) text false

abbrev now_of : Option (Bor Text) → Option Text
now_of = option_map (λ text. text.now)

pub returns-in-Some : goal.returns-in-Some
returns-in-Some c =
    let given = c.get_str.ensures ∙ first_value-rows (found_of c.args.matches.now) c.args.id.now in
    c.eq.ensures ∙ ap (λ o. says_true (now_of o)) (sym c.in-Some.is) ∙ ap says_true given

pub returns-in-None : goal.returns-in-None
returns-in-None c =
    let given = c.get_str.ensures ∙ first_value-rows (found_of c.args.matches.now) c.args.id.now in
    ap (λ o. says_true (now_of o)) (sym c.in-None.is) ∙ ap says_true given
