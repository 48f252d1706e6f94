use Rattle.std.proofs.Common.{◌≡◌, ◌+◌, ◌≤◌, length}
use Rattle.markdown_addresses.specs.Bare.{count_of}
use Rattle.markdown_addresses.proofs.bare.count_of.Given as goal

abbrev pub invariant-loop-rest : goal.invariant-loop-rest
invariant-loop-rest l = record { so_far : l.count + count_of l.b l.rest ≡ count_of l.b l.bytes; few : l.count + length l.rest ≤ length l.bytes }

abbrev pub decreases-loop-rest : goal.decreases-loop-rest
decreases-loop-rest l = length l.rest
