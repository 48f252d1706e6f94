use Rattle.std.proofs.Common.{◌≡◌, length}
use Rattle.code_names.specs.Names.{word_onward}
use Rattle.code_names.proofs.names.word_onward.Given as goal

abbrev pub invariant-loop-rest : goal.invariant-loop-rest
invariant-loop-rest l = word_onward l.rest ≡ word_onward l.info

abbrev pub decreases-loop-rest : goal.decreases-loop-rest
decreases-loop-rest l = length l.rest
