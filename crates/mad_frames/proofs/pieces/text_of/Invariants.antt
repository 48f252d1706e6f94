use Rattle.std.proofs.Common.{◌≡◌, string_bytes, take}
use Rattle.mad_screen.specs.Pictures.{row_text}
use Rattle.mad_frames.proofs.pieces.text_of.Given as goal

abbrev pub invariant-loop-cell : goal.invariant-loop-cell
invariant-loop-cell l = string_bytes l.text ≡ row_text (take l.cell-index l.cells)
