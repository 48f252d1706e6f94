use Rattle.mad_wrap.proofs.FitLemmas.{LinesSoFar}
use Rattle.mad_wrap.proofs.placing.place.Given as goal

abbrev pub invariant-loop-token : goal.invariant-loop-token
invariant-loop-token l = record { so_far : LinesSoFar l.fn.room l.yielded l.lines.items l.line l.fit }
