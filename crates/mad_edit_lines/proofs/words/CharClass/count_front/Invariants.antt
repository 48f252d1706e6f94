use Rattle.std.proofs.Common.{◌≡◌, ◌<◌, ℕ, get_or, true}
use Rattle.mad_edit_lines.specs.CharClasses.{is_of}
use Rattle.mad_edit_lines.proofs.words.CharClass.count_front.Given as goal

abbrev pub invariant-loop-index : goal.invariant-loop-index
invariant-loop-index l = (k : ℕ) → k < l.index → is_of l.self (get_or l.chars k 0) ≡ true
