use Rattle.std.proofs.Common.{◌≡◌}
use Rattle.markdown_emphasis.specs.Matching.{close_run}
use Rattle.markdown_emphasis.specs.Matchers.{closing_of, HasBottoms}
use Rattle.markdown_emphasis.proofs.matcher.Matcher.close_run.Given as goal

abbrev pub invariant-loop-left : goal.invariant-loop-left
invariant-loop-left l = record {
  closed : close_run (closing_of l.self (record { place = l.place; run = l.run; left = l.left })) ≡ close_run (closing_of l.fn.self (record { place = l.place; run = l.run; left = l.run.count }));
  bottoms : HasBottoms l.place l.self;
}

abbrev pub decreases-loop-left : goal.decreases-loop-left
decreases-loop-left l = l.left
