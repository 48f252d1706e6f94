use Rattle.std.proofs.Common.{◌≡◌, ◌+◌, length}
use Rattle.mad_plain.specs.Pens.{joined_len}
use Rattle.mad_plain.proofs.pens.joined_len.Given as goal

abbrev pub invariant-loop-rest : goal.invariant-loop-rest
invariant-loop-rest l = record { so_far : l.joined + joined_len l.rest ≡ joined_len l.parts; few : l.joined + length l.rest ≡ length l.parts }

abbrev pub decreases-loop-rest : goal.decreases-loop-rest
decreases-loop-rest l = length l.rest
