use Rattle.std.proofs.Common.{◌≡◌, ◌≤◌, [], map, take, vec_len}
use Rattle.mad_screen.specs.Glyph.{look_of}
use Rattle.mad_screen.specs.Pictures.{lettered}
use Rattle.mad_screen.proofs.screen.Screen.looks.Given as goal

abbrev pub invariant-loop-cell : goal.invariant-loop-cell
invariant-loop-cell l = (vec_len l.pens ≤ 26) × (map look_of l.pens.items ≡ lettered [] (take l.cell-index l.cell-items))
