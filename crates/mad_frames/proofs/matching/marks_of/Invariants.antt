use Rattle.std.proofs.Common.{◌≡◌, length}
use Rattle.mad_frames.proofs.matching.marks_of.Given as goal

abbrev pub invariant-loop-y : goal.invariant-loop-y
invariant-loop-y l = length l.marks.items ≡ l.y
