use Rattle.std.proofs.Common.{◌≡◌}
use Rattle.std.specs.Prelude.{encode_utf8, string_bytes}
use Rattle.std.specs.List.{repeat}
use Rattle.mad_draw.proofs.fillings.Filling.from_char.Given as goal

abbrev pub invariant-loop-done : goal.invariant-loop-done
invariant-loop-done l = string_bytes l.content ≡ repeat l._done (encode_utf8 l.filling_char)
