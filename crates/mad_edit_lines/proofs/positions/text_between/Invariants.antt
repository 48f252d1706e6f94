use Rattle.std.proofs.Common.{◌≡◌}
use Rattle.std.specs.Prelude.{string_bytes, encode_utf8_all}
use Rattle.mad_edit_lines.proofs.positions.text_between.Given as goal

abbrev pub invariant-loop-c : goal.invariant-loop-c
invariant-loop-c l = string_bytes l.out ≡ encode_utf8_all l.yielded
