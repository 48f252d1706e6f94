use Rattle.std.proofs.Common.{take}
use Rattle.std.specs.List.{flat_map}
use Rattle.std.specs.Fmt.{HasWritten, IsPlainFormatter}
use Rattle.mad_screen.specs.Pictures.{cell_text}
use Rattle.mad_screen.proofs.pictures.RowDisplay.fmt.Given as goal

abbrev pub invariant-loop-cell : goal.invariant-loop-cell
invariant-loop-cell g l = IsPlainFormatter l.initial.f → HasWritten g.W.Write.write_str_gives l.initial.f (flat_map cell_text (take l.cell-index l.self.0.now)) l.f
