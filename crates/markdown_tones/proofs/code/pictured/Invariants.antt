use Rattle.std.proofs.Common.{◌≡◌, ◌++◌, map}
use Rattle.std.specs.Prelude.{chars, encode_utf8_all, string_bytes}
use Rattle.std.specs.Str.{IsUtf8}
use Rattle.std.specs.Str.Iter.{chars_rest}
use Rattle.markdown_tones.specs.CodeSource.{pictured}
use Rattle.markdown_tones.proofs.code.pictured.Given as goal

abbrev pub invariant-loop-c : goal.invariant-loop-c
invariant-loop-c l = record {
  utf8 : IsUtf8 (chars_rest l.rest);
  so_far : string_bytes l.shown ++ encode_utf8_all (map pictured (chars (chars_rest l.rest))) ≡ encode_utf8_all (map pictured (chars l.text));
}
