use Rattle.std.proofs.Common.{◌≡◌, ◌<◌, ◌≤◌, ℕ, length, get_or, true}
use Rattle.mad_edit_lines.specs.CharClasses.{is_of}
use Rattle.mad_edit_lines.proofs.words.CharClass.count_end.Given as goal

abbrev pub invariant-loop-rest : goal.invariant-loop-rest
invariant-loop-rest l = record {
  within : l.rest ≤ length l.chars;
  passes : (k : ℕ) → l.rest ≤ k → k < length l.chars → is_of l.self (get_or l.chars k 0) ≡ true;
}

abbrev pub decreases-loop-rest : goal.decreases-loop-rest
decreases-loop-rest l = l.rest
