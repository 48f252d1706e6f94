use Rattle.termimad_run.proofs.Writings.{line_refused, line_cut, line_whole}
use Rattle.termimad_run.proofs.writing.write_line.Goals as goal

pub returns-in_err-write_inline_on : goal.returns-in_err-write_inline_on
returns-in_err-write_inline_on g c =
    line_refused c.args.skin.now c.args.line.now _ _ _ _ c.from_residual.ensures.1 c.in_err-write_inline_on.ensures.writes

pub returns-in_err-put_all : goal.returns-in_err-put_all
returns-in_err-put_all g c =
    line_cut c.args.skin.now c.args.line.now _ _ _ _ _ c.from_residual-in_err-put_all.ensures.1 c.in_ok-write_inline_on.ensures.writes c.in_err-put_all.ensures

pub returns : goal.returns
returns g c = line_whole c.args.skin.now c.args.line.now _ _ _ c.in_ok-write_inline_on.ensures.writes c.in_ok-put_all.ensures
