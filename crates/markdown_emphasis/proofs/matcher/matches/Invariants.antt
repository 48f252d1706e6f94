use Rattle.std.proofs.Common.{◌≡◌, drop}
use Rattle.markdown_emphasis.specs.Matching.{matches, matches_from}
use Rattle.markdown_emphasis.specs.Matchers.{matching_of, HasBottoms}
use Rattle.markdown_emphasis.proofs.matcher.matches.Given as goal

abbrev pub invariant-loop-place : goal.invariant-loop-place
invariant-loop-place l = record {
  matched : matches_from (matching_of l.matcher) l.place (drop l.place l.runs) ≡ matches l.runs;
  bottoms : HasBottoms l.place l.matcher;
}
