use Rattle.std.proofs.Common.{◌≡◌, drop}
use Rattle.mad_screen.specs.Glyph.{look_of}
use Rattle.mad_frames.specs.Whole.{are_whole, are_whole_after}
use Rattle.mad_frames.proofs.whole.are_whole.Given as goal

abbrev pub invariant-loop-cell : goal.invariant-loop-cell
invariant-loop-cell l = are_whole_after l.tails (look_of l.pen) (drop l.cell-index l.cells) ≡ are_whole l.cells
