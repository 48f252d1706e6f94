use Rattle.std.proofs.Common.{◌≡◌, ◌≤◌, length, take, reverse}
use Rattle.markdown_emphasis.specs.Matching.{nearest}
use Rattle.markdown_emphasis.specs.Keys.{IsBottom}
use Rattle.markdown_emphasis.proofs.matcher.Matcher.nearest.Given as goal

abbrev pub invariant-loop-end : goal.invariant-loop-end
invariant-loop-end l = record {
  within : l.end ≤ length l.self.openers.items;
  same : nearest l.closer (reverse l.self.openers.items) ≡ nearest l.closer (reverse (take l.end l.self.openers.items));
  bottom : IsBottom l.bottom l.closer (reverse (take l.end l.self.openers.items));
}

abbrev pub decreases-loop-end : goal.decreases-loop-end
decreases-loop-end l = l.end
