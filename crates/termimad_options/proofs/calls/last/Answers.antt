use Rattle.std.proofs.Common.{◌∙◌, ◌-◌, sym, ap, map, length, option_map, option_and_then, slice_get, List, Option}
use Rattle.std.specs.Borrow.{Bor}
use Rattle.clap.proofs.WalkLemmas.{raw_values-rows}
use Rattle.clap.specs.Words.{Text, found_of}
use Rattle.termimad_options.proofs.CallLemmas.{last_text}
use Rattle.termimad_options.proofs.calls.last.Goals as goal

abbrev last_in : Option (List Text) → Option Text
last_in = option_and_then (λ values. slice_get values (length values - 1))

abbrev texts_in : Option (Bor (List (Bor Text))) → Option (List Text)
texts_in = option_map (λ values. map (λ value. value.now) values.now)

pub returns-in-None : goal.returns-in-None
returns-in-None c =
    let given = c.get_strs.ensures ∙ raw_values-rows (found_of c.args.matches.now) c.args.id.now in
    ap (λ o. last_in (texts_in o)) (sym c.in-None.is) ∙ ap last_in given

pub returns-in-Some : goal.returns-in-Some
returns-in-Some c =
    let given = c.get_strs.ensures ∙ raw_values-rows (found_of c.args.matches.now) c.args.id.now in
    ap (option_map (λ (text : Bor Text). text.now)) (c.copied.ensures ∙ c.last.ensures.value) ∙ last_text c.in-Some.values.now
    ∙ ap (λ o. last_in (texts_in o)) (sym c.in-Some.is) ∙ ap last_in given
