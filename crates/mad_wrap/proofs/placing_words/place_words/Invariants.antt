use Rattle.mad_wrap.proofs.WordSteps.{WordsSoFar}
use Rattle.mad_wrap.proofs.placing_words.place_words.Given as goal

abbrev pub invariant-loop-token : goal.invariant-loop-token
invariant-loop-token l = record { so_far : WordsSoFar l.fn.room l.fn.compounds l.yielded l.lines l.word.items l.width l.is_loose }
