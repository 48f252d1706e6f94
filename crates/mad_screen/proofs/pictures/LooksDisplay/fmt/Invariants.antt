use Rattle.std.proofs.Common.{map, take}
use Rattle.std.specs.Fmt.{HasWritten, IsPlainFormatter}
use Rattle.mad_screen.specs.Glyph.{look_of}
use Rattle.mad_screen.specs.Pictures.{lines_text, row_letters}
use Rattle.mad_screen.proofs.pictures.LooksDisplay.fmt.Given as goal

abbrev pub invariant-loop-y : goal.invariant-loop-y
invariant-loop-y g l = IsPlainFormatter l.initial.f → HasWritten g.W.Write.write_str_gives l.initial.f (lines_text (row_letters (map look_of l.self.pens.items)) l.self.screen.now l.y) l.f

abbrev pub invariant-loop-cell : goal.invariant-loop-cell
invariant-loop-cell g l = IsPlainFormatter l.initial.f → HasWritten g.W.Write.write_str_gives l.initial.f (row_letters (map look_of l.self.pens.items) (take l.cell-index l.cell-items)) l.f
