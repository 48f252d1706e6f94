use Rattle.std.proofs.Common.{◌≡◌, length}
use Rattle.code_names.specs.Names.{named_by}
use Rattle.code_names.proofs.names.is_named_by.Given as goal

abbrev pub invariant-loop-left : goal.invariant-loop-left
invariant-loop-left l = named_by l.left l.rest ≡ named_by l.name l.word

abbrev pub decreases-loop-left : goal.decreases-loop-left
decreases-loop-left l = length l.left
