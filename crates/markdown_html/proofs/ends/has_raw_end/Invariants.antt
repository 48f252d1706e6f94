use Rattle.std.proofs.Common.{◌≡◌, length}
use Rattle.markdown_html.specs.Ends.{has_raw_end}
use Rattle.markdown_html.proofs.ends.has_raw_end.Given as goal

abbrev pub invariant-loop-rest : goal.invariant-loop-rest
invariant-loop-rest l = has_raw_end l.rest ≡ has_raw_end l.bytes

abbrev pub decreases-loop-rest : goal.decreases-loop-rest
decreases-loop-rest l = length l.rest
