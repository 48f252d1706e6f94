use Rattle.std.proofs.Common.{◌∙◌, ap, map, option_map, Err, refl}
use Rattle.std.specs.Borrow.{Bor}
use Rattle.clap.specs.Words.{Text}
use Rattle.std.proofs.lemmas.Result.{err_from_is_err_and}
use Rattle.termimad_command.proofs.RunLemmas.{place_refused, words_done, words_refused}
use Rattle.termimad_command.proofs.running.perform.Goals as goal

pub returns-then-is_misplaced : goal.returns-then-is_misplaced
returns-then-is_misplaced g c =
    let words = map (λ (word : Bor Text). word.now) c.args.words.now in
    let place = option_map (λ (word : Bor Text). word.now) c.args.place in
    place_refused (g.T.Texts.holds c.args.texts.now) c.args.plans words place c.args.around.now _ _ _ c.is_misplaced.result refl c.is_misplaced.ensures
    c.if-is_misplaced.true

pub returns-in_err-request : goal.returns-in_err-request
returns-in_err-request g c =
    let p = err_from_is_err_and c.from_residual.result c.from_residual.ensures.1 in
    let words = map (λ (word : Bor Text). word.now) c.args.words.now in
    let place = option_map (λ (word : Bor Text). word.now) c.args.place in
    words_refused (g.T.Texts.holds c.args.texts.now) c.args.plans words place c.args.around.now _ _ c.from_residual.result _ (p.1 ∙ ap Err p.2)
    c.in_err-request.ensures

pub returns : goal.returns
returns g c =
    let words = map (λ (word : Bor Text). word.now) c.args.words.now in
    let place = option_map (λ (word : Bor Text). word.now) c.args.place in
    words_done (g.T.Texts.holds c.args.texts.now) c.args.plans words place c.args.around.now c.in_ok-request.request _ _ _ _ c.fulfil.result
    c.is_misplaced.result c.is_misplaced.ensures c.if-is_misplaced.false c.in_ok-request.ensures c.fulfil.ensures
