use Rattle.std.proofs.Common.{max, arith}
use Rattle.mad_widths.proofs.EachLemmas.{each_all}
use Rattle.mad_widths.proofs.word_widths.raise.Goals as goal

pub returns : goal.returns
returns c = each_all max c.args.widths.now c.args.least.now c.loop-column.column c.loop-column.widths c.loop-column.auto.widths (omega (arith, c.requires)) c.loop-column.invariant
