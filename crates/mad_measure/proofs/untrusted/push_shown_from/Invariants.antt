use Rattle.std.proofs.Common.{◌≡◌, ◌++◌}
use Rattle.std.specs.Prelude.{chars, encode_utf8_all, string_bytes}
use Rattle.std.specs.Str.{IsUtf8}
use Rattle.std.specs.Str.Iter.{chars_rest}
use Rattle.mad_measure.specs.Printable.{shown_from}
use Rattle.mad_measure.proofs.untrusted.push_shown_from.Given as goal

abbrev pub invariant-loop-c : goal.invariant-loop-c
invariant-loop-c l = record {
  utf8 : IsUtf8 (chars_rest l.rest);
  so_far : string_bytes l.shown ++ encode_utf8_all (shown_from l.begins_line (chars (chars_rest l.rest))) ≡ string_bytes l.fn.shown ++ encode_utf8_all (shown_from l.fn.begins_line (chars l.text));
}
