use Rattle.std.specs.Fmt.{HasWritten, IsPlainFormatter}
use Rattle.mad_draw.specs.Pieces.{pieces_bytes, single_chars}
use Rattle.mad_draw.proofs.char_repeats.SingleCharsDisplay.fmt.Given as goal

abbrev pub invariant-loop-done : goal.invariant-loop-done
invariant-loop-done g l = IsPlainFormatter l.initial.f → HasWritten g.W.Write.write_str_gives l.initial.f (pieces_bytes (single_chars l.self.c l._done)) l.f
