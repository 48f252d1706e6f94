use Rattle.std.proofs.Common.{◌≡◌, replicate}
use Rattle.mad_screen.specs.Glyph.{look_of}
use Rattle.mad_screen.specs.Grid.{blank, plain_pen}
use Rattle.mad_screen.proofs.screen.Screen.new.Given as goal

abbrev pub invariant-loop-i : goal.invariant-loop-i
invariant-loop-i l = record {
  cells : l.cells.items ≡ replicate l._i blank;
  pen : look_of l.pen ≡ plain_pen;
}
