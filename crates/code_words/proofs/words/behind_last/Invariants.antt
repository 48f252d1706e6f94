use Rattle.std.proofs.Common.{◌≡◌, length}
use Rattle.code_words.specs.Words.{behind_from, behind_last}
use Rattle.code_words.proofs.words.behind_last.Given as goal

abbrev pub invariant-loop-rest : goal.invariant-loop-rest
invariant-loop-rest l = behind_from l.byte l.found l.rest ≡ behind_last l.byte l.bytes

abbrev pub decreases-loop-rest : goal.decreases-loop-rest
decreases-loop-rest l = length l.rest
