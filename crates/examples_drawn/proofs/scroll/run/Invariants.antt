-- Scrolling leaves the view's area as it was.
use Rattle.termimad.specs.Areas.{IsWithinLimits}
use Rattle.termimad.specs.Views.{view_area}
use Rattle.examples_drawn.proofs.scroll.run.Given as goal

abbrev pub invariant-loop-wanted : goal.invariant-loop-wanted
invariant-loop-wanted l = IsWithinLimits (view_area l.view)
