use Rattle.std.proofs.Common.{◌-◌, ◌+◌}
use Rattle.mad_widths.proofs.EachLemmas.{IsEach}
use Rattle.mad_widths.proofs.word_widths.count_from.Given as goal

abbrev pub invariant-loop-column : goal.invariant-loop-column
invariant-loop-column l = IsEach (λ w l. (w - l) + 3) l.fn.widths l.least l.column l.widths
