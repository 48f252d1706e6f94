use Rattle.std.proofs.Common.{◌-◌, ◌+◌, arith}
use Rattle.mad_widths.proofs.EachLemmas.{each_all}
use Rattle.mad_widths.proofs.word_widths.count_from.Goals as goal

pub returns : goal.returns
returns c = each_all (λ w l. (w - l) + 3) c.args.widths.now c.args.least.now c.loop-column.column c.loop-column.widths c.loop-column.auto.widths (omega (arith, c.requires.count)) c.loop-column.invariant
