use Rattle.std.proofs.Common.{◌≡◌, ◌≤◌, false, length}
use Rattle.markdown_addresses.specs.Addresses.{after_domain}
use Rattle.markdown_addresses.proofs.addresses.after_domain.Given as goal

abbrev pub invariant-loop-rest : goal.invariant-loop-rest
invariant-loop-rest l = record { same : after_domain l.count l.hyphen l.rest ≡ after_domain 0 false l.bytes; few : l.count ≤ 63 }

abbrev pub decreases-loop-rest : goal.decreases-loop-rest
decreases-loop-rest l = length l.rest
