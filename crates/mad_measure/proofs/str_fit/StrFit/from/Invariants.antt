use Rattle.std.specs.Str.Iter.{chars_rest}
use Rattle.mad_measure.proofs.StrFitLemmas.{FitSoFar}
use Rattle.mad_measure.proofs.str_fit.StrFit.from.Given as goal

abbrev pub invariant-loop-c : goal.invariant-loop-c
invariant-loop-c l = FitSoFar l.s (chars_rest l.c-iterator) l.cols_max l.room l.fit.bytes_count l.fit.cols_count l.fit.has_tab
