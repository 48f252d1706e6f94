use Rattle.std.proofs.Common.{◌≡◌, ◌+◌, length}
use Rattle.markdown_addresses.specs.Bare.{domain_len}
use Rattle.markdown_addresses.proofs.bare.domain_len.Given as goal

abbrev pub invariant-loop-rest : goal.invariant-loop-rest
invariant-loop-rest l = record { so_far : l.len + domain_len l.rest ≡ domain_len l.bytes; few : l.len + length l.rest ≡ length l.bytes }

abbrev pub decreases-loop-rest : goal.decreases-loop-rest
decreases-loop-rest l = length l.rest
