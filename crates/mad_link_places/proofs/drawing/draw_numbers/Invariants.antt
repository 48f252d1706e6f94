use Rattle.std.proofs.Common.{take}
use Rattle.mad_term.specs.Trace.{TookWith}
use Rattle.mad_link_places.specs.Numbers.{AreNumbersShown}
use Rattle.mad_link_places.proofs.drawing.draw_numbers.Given as goal

-- the numbers so far were drawn
abbrev pub invariant-loop-place : goal.invariant-loop-place
invariant-loop-place g l = TookWith (g.O.Out.seen l.fn.out) (g.O.Out.seen l.out) (AreNumbersShown l.skin l.style l.room l.lines l.fronts l.top (take l.place-index l.places))
