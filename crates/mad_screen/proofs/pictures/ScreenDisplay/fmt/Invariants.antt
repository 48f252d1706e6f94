use Rattle.std.specs.Fmt.{HasWritten, IsPlainFormatter}
use Rattle.mad_screen.specs.Pictures.{row_text, lines_text}
use Rattle.mad_screen.proofs.pictures.ScreenDisplay.fmt.Given as goal

abbrev pub invariant-loop-y : goal.invariant-loop-y
invariant-loop-y g l = IsPlainFormatter l.initial.f → HasWritten g.W.Write.write_str_gives l.initial.f (lines_text row_text l.self l.y) l.f
