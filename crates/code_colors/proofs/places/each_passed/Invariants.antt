use Rattle.std.proofs.Common.{◌≡◌, length}
use Rattle.code_colors.specs.Places.{passed_all}
use Rattle.code_colors.proofs.places.each_passed.Given as goal

abbrev pub invariant-loop-rest : goal.invariant-loop-rest
invariant-loop-rest l = passed_all l.rest l.known ≡ passed_all l.bytes l.fn.before

abbrev pub decreases-loop-rest : goal.decreases-loop-rest
decreases-loop-rest l = length l.rest
