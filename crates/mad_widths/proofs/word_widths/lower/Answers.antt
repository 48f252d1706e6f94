use Rattle.std.proofs.Common.{min, arith}
use Rattle.mad_widths.proofs.EachLemmas.{each_all}
use Rattle.mad_widths.proofs.word_widths.lower.Goals as goal

pub returns : goal.returns
returns c = each_all min c.args.widths.now c.args.words.now c.loop-column.column c.loop-column.widths c.loop-column.auto.widths (omega (arith, c.min-count.ensures)) c.loop-column.invariant
