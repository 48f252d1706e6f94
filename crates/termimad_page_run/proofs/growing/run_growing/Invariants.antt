use Rattle.termimad_page_run.specs.Comings.{arrival}
use Rattle.termimad_page_run.proofs.GrowingLemmas.{IsRunSoFar}
use Rattle.termimad_page_run.proofs.growing.run_growing.Given as goal

-- what was done before a stretch
abbrev pub invariant-stretches : goal.invariant-stretches
invariant-stretches g l =
    IsRunSoFar l.fn.frame (arrival (g.T.Source.seen l.fn.coming.text) (g.F.Source.seen l.fn.coming.mark) l.fn.coming.ended l.fn.coming.is_whole) (g.I.Source.seen l.fn.input) (g.O.Out.seen l.fn.out)
    l.course (arrival (g.T.Source.seen l.coming.text) (g.F.Source.seen l.coming.mark) l.coming.ended l.coming.is_whole) l.read.items (g.I.Source.seen l.input) (g.O.Out.seen l.out)

-- each stretch has fewer turns left
abbrev pub decreases-stretches : goal.decreases-stretches
decreases-stretches g l = l.course.left
