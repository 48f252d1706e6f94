use Rattle.std.proofs.Common.{◌≡◌, drop}
use Rattle.code_tones.specs.Cursor.{tones_left}
use Rattle.code_tones.proofs.byte_tones.ByteTones.pass.Given as goal

abbrev pub invariant-loop-more : goal.invariant-loop-more
invariant-loop-more l = drop l.more (tones_left l.self) ≡ drop l.fn.count (tones_left l.fn.self)

abbrev pub decreases-loop-more : goal.decreases-loop-more
decreases-loop-more l = l.more
