use Rattle.std.proofs.Common.{◌∙◌, [], sym, ap, map, option_map, unwrap_or, codes, List, Option}
use Rattle.std.proofs.lemmas.Result.{IfOk-weaker}
use Rattle.std.specs.Borrow.{Bor}
use Rattle.clap.proofs.WalkLemmas.{raw_values-rows}
use Rattle.clap.specs.Words.{Text, found_of}
use Rattle.termimad_options.proofs.calls.files.Goals as goal

abbrev texts_in : Option (Bor (List (Bor Text))) → List Text
texts_in given = unwrap_or (option_map (λ files. map (λ file. file.now) files.now) given) []

pub returns-in-Some : goal.returns-in-Some
returns-in-Some c =
    let given = c.get_strs.ensures ∙ raw_values-rows (found_of c.args.matches.now) (codes "FILE") in
    IfOk-weaker c.from_slice.result _ _
    (λ files h. ap (map (λ (file : Bor Text). file.now)) h ∙ ap texts_in (sym c.in-Some.is) ∙ ap (λ o. unwrap_or o []) given) c.from_slice.ensures.items

pub returns-in-None : goal.returns-in-None
returns-in-None c =
    let given = c.get_strs.ensures ∙ raw_values-rows (found_of c.args.matches.now) (codes "FILE") in
    ap (map (λ (file : Bor Text). file.now)) c.new.ensures.items ∙ ap texts_in (sym c.in-None.is) ∙ ap (λ o. unwrap_or o []) given
