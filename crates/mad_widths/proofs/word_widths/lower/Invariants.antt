use Rattle.std.proofs.Common.{min}
use Rattle.mad_widths.proofs.EachLemmas.{IsEach}
use Rattle.mad_widths.proofs.word_widths.lower.Given as goal

abbrev pub invariant-loop-column : goal.invariant-loop-column
invariant-loop-column l = IsEach min l.fn.widths l.words l.column l.widths
