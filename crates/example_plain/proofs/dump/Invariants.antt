use Rattle.std.proofs.Common.{length}
use Rattle.example_plain.proofs.dump.Given as goal

abbrev pub decreases-loop-style : goal.decreases-loop-style
decreases-loop-style g l = length l.rest.text.now
