use Rattle.std.proofs.Common.{inl}
use Rattle.termimad_c.proofs.exports.termimad_live_begin.Goals as goal

pub returns-in-Ok : goal.returns-in-Ok
returns-in-Ok c = inl (c.in-Ok.growing.value, c.put_in.ensures, c.in-Ok.ensures, c.count_out.ensures)
