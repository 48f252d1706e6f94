use Rattle.std.proofs.Common.{◌≡◌, ◌++◌, drop}
use Rattle.mad_frames.specs.Mending.{mended_after, mended_row}
use Rattle.mad_frames.proofs.mending.mended_row.Given as goal

abbrev pub invariant-loop-i : goal.invariant-loop-i
invariant-loop-i l = l.cells.items ++ mended_after l.tails (drop l.i l.row) ≡ mended_row l.row
