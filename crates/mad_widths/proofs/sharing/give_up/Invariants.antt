use Rattle.mad_widths.proofs.LoopLemmas.{IsGiven}
use Rattle.mad_widths.proofs.sharing.give_up.Given as goal

abbrev pub invariant-loop-column : goal.invariant-loop-column
invariant-loop-column l = IsGiven l.fn.widths l.cuts l.column l.widths
