use Rattle.std.proofs.Common.{◌≡◌}
use Rattle.std.specs.List.{repeat}
use Rattle.mad_term.specs.Trace.{after}
use Rattle.mad_draw.proofs.fillings.put_times.Given as goal

abbrev pub invariant-loop-done : goal.invariant-loop-done
invariant-loop-done g l = g.O.Out.seen l.out ≡ after (g.O.Out.seen l.fn.out) (repeat l._done l.text)
