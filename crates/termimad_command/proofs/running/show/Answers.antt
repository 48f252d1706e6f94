use Rattle.std.proofs.Common.{◌∙◌, ap, refl, Err}
use Rattle.std.proofs.lemmas.Result.{err_from_is_err_and}
use Rattle.termimad_command.proofs.RunLemmas.{all_shown, none_shown, some_shown}
use Rattle.termimad_command.proofs.running.show.Goals as goal

pub returns-in_err-skin : goal.returns-in_err-skin
returns-in_err-skin g c =
    let p = err_from_is_err_and _ c.from_residual.ensures.1 in
    none_shown _ _ _ _ _ _ _ _ (p.1 ∙ ap Err p.2) c.in_err-skin.ensures

pub returns-in-Err : goal.returns-in-Err
returns-in-Err g c =
    some_shown _ c.args.call.now c.args.plan.now c.in_ok-skin.skin _ _ _ _ _ _ _ _ _ c.in-Err.refusal refl c.in_ok-skin.ensures c.look_of-look.ensures c.names_of-names.ensures
    c.in-Err.ensures c.hand_on.ensures

pub returns-in-Ok : goal.returns-in-Ok
returns-in-Ok g c =
    all_shown _ c.args.call.now c.args.plan.now c.in_ok-skin.skin _ _ _ _ _ _ _ _ c.flush.result c.in_ok-skin.ensures c.look_of-look.ensures c.names_of-names.ensures
    c.in-Ok.ensures c.flush.ensures
