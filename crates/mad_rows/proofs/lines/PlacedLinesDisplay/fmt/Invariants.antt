use Rattle.std.proofs.Common.{take}
use Rattle.std.specs.Fmt.{HasWritten, IsPlainFormatter}
use Rattle.mad_rows.specs.Rows.{text_bytes}
use Rattle.mad_rows.proofs.lines.PlacedLinesDisplay.fmt.Given as goal

abbrev pub invariant-loop-line : goal.invariant-loop-line
invariant-loop-line g l =
    IsPlainFormatter l.initial.f → HasWritten g.W.Write.write_str_gives l.initial.f (text_bytes l.self.skin.now l.self.outer (take l.line-index l.self.lines.now)) l.f
