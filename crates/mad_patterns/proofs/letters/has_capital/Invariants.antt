use Rattle.mad_patterns.proofs.LetterLemmas.{CapitalsSoFar}
use Rattle.mad_patterns.proofs.letters.has_capital.Given as goal

-- the characters so far
abbrev pub invariant-loop-c : goal.invariant-loop-c
invariant-loop-c l = CapitalsSoFar l.yielded l.has_one l.is_behind
