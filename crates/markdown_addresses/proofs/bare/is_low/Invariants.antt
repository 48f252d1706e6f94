use Rattle.std.proofs.Common.{◌≡◌, false, length}
use Rattle.markdown_addresses.specs.Bare.{is_low}
use Rattle.markdown_addresses.proofs.bare.is_low.Given as goal

abbrev pub invariant-loop-rest : goal.invariant-loop-rest
invariant-loop-rest l = is_low l.before l.now l.rest ≡ is_low false false l.bytes

abbrev pub decreases-loop-rest : goal.decreases-loop-rest
decreases-loop-rest l = length l.rest
