use Rattle.std.proofs.Common.{◌≤◌}
use Rattle.std.specs.Str.Iter.{chars_rest}
use Rattle.mad_measure.proofs.StrFitLemmas.{CharsSoFar}
use Rattle.mad_measure.proofs.char_fronts.first_chars.Given as goal

abbrev pub invariant-loop-c : goal.invariant-loop-c
invariant-loop-c l = record {
  counted : CharsSoFar l.text (chars_rest l.c-iterator) l.bytes l.count;
  within : l.count ≤ l.most;
}
