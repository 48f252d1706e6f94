use Rattle.std.proofs.Common.{◌≡◌, ◌++◌}
use Rattle.std.specs.Prelude.{chars, encode_utf8_all, string_bytes}
use Rattle.std.specs.Str.{IsUtf8}
use Rattle.std.specs.Str.Iter.{chars_rest}
use Rattle.mad_measure.specs.RunningWidths.{tabs_replaced}
use Rattle.mad_measure.proofs.str_fit.replace_tabs.Given as goal

abbrev pub invariant-loop-c : goal.invariant-loop-c
invariant-loop-c l = record {
  utf8 : IsUtf8 (chars_rest l.c-iterator);
  so_far : string_bytes l.replaced ++ encode_utf8_all (tabs_replaced (chars (chars_rest l.c-iterator))) ≡ encode_utf8_all (tabs_replaced (chars l.text));
}
