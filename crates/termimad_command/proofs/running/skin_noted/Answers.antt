use Rattle.std.proofs.Common.{refl}
use Rattle.std.proofs.lemmas.Result.{err_from_is_err_and}
use Rattle.termimad_command.proofs.SkinLemmas.{noted, unnoted}
use Rattle.termimad_command.proofs.running.skin_noted.Goals as goal

pub returns-in_err-read : goal.returns-in_err-read
returns-in_err-read g c =
    let p = err_from_is_err_and c.from_residual.result c.from_residual.ensures.1 in
    rw (p.1, p.2) (c.in_err-read.ensures, refl)

pub returns-in_err-say_notices : goal.returns-in_err-say_notices
returns-in_err-say_notices g c =
    let p = err_from_is_err_and c.from_residual-in_err-say_notices.result c.from_residual-in_err-say_notices.ensures.1 in
    rw (p.1, p.2) (unnoted c.args.plan.now _ _ _ c.in_err-say_notices.ensures)

pub returns : goal.returns
returns g c =
    noted (g.T.Texts.holds c.args.texts.now) c.args.call.now c.args.plan.now c.in_ok-read.read _ _ _ c.in_ok-read.ensures c.as_slice.ensures.value
    c.in_ok-say_notices.ensures
