use Rattle.std.proofs.Common.{arith}
use Rattle.mad_widths.proofs.LoopLemmas.{given_all}
use Rattle.mad_widths.proofs.sharing.give_up.Goals as goal

pub returns : goal.returns
returns c = given_all c.args.widths.now c.args.cuts.now c.loop-column.column c.loop-column.widths c.loop-column.auto.widths (omega (arith, c.requires.len)) c.loop-column.invariant
