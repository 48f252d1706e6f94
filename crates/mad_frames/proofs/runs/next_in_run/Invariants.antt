use Rattle.std.proofs.Common.{◌≡◌, ◌<◌, ◌+◌, ◌-◌, ◌^◌}
use Rattle.mad_frames.specs.RunBytes.{pieces_to}
use Rattle.mad_frames.proofs.runs.next_in_run.Given as goal

abbrev pub invariant-loop-i : goal.invariant-loop-i
invariant-loop-i l = l.spent < 2 ^ 64 - 1 → pieces_to l.new l.i ≡ pieces_to l.new l.end + l.spent
