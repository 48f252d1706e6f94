use Rattle.std.proofs.Common.{◌≡◌, ◌-◌, drop}
use Rattle.mad_screen.specs.Glyph.{look_of}
use Rattle.mad_frames.specs.Mending.{begin_tails}
use Rattle.mad_frames.proofs.mending.begin_tails.Given as goal

abbrev pub invariant-loop-i : goal.invariant-loop-i
invariant-loop-i l = begin_tails (l.tails - l.i) (look_of l.pen) (drop l.i l.cells) ≡ begin_tails l.tails (look_of l.pen) l.cells
