use Rattle.std.specs.Str.Iter.{char_indices_rest, char_indices_offset}
use Rattle.mad_measure.proofs.PrintableLemmas.{FrontSoFar}
use Rattle.mad_measure.proofs.untrusted.printable_front.Given as goal

abbrev pub invariant-loop-start : goal.invariant-loop-start
invariant-loop-start l = FrontSoFar l.text (char_indices_rest l.start-iterator) (char_indices_offset l.start-iterator) l.begins_line
