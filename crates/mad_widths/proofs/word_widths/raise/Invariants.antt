use Rattle.std.proofs.Common.{max}
use Rattle.mad_widths.proofs.EachLemmas.{IsEach}
use Rattle.mad_widths.proofs.word_widths.raise.Given as goal

abbrev pub invariant-loop-column : goal.invariant-loop-column
invariant-loop-column l = IsEach max l.fn.widths l.least l.column l.widths
