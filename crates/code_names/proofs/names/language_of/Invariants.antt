use Rattle.std.proofs.Common.{◌≡◌, length, map}
use Rattle.code_names.specs.Names.{language_of, name_of, named_among}
use Rattle.code_names.proofs.names.language_of.Given as goal

abbrev pub invariant-loop-rest : goal.invariant-loop-rest
invariant-loop-rest l = named_among (map name_of l.rest) l.word ≡ language_of l.info

abbrev pub decreases-loop-rest : goal.decreases-loop-rest
decreases-loop-rest l = length l.rest
