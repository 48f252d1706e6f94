use Rattle.std.proofs.Common.{◌≡◌, take, map}
use Rattle.mad_widths.specs.Turns.{turn_of, turns_from}
use Rattle.mad_widths.proofs.sharing.turns_of.Given as goal

abbrev pub invariant-loop-column : goal.invariant-loop-column
invariant-loop-column l = map turn_of l.turns.items ≡ turns_from 0 (take l.column l.widths)
