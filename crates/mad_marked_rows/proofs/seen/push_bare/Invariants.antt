use Rattle.std.proofs.Common.{◌≡◌, ◌++◌}
use Rattle.std.specs.Prelude.{chars}
use Rattle.std.specs.Str.{IsUtf8}
use Rattle.std.specs.Str.Iter.{chars_rest}
use Rattle.mad_marked_rows.specs.Seen.{bare_text}
use Rattle.mad_marked_rows.proofs.seen.push_bare.Given as goal

abbrev pub invariant-loop-c : goal.invariant-loop-c
invariant-loop-c l = record {
  utf8 : IsUtf8 (chars_rest l.rest);
  so_far : l.text.items ++ bare_text l.style (chars (chars_rest l.rest)) ≡ l.fn.text.items ++ bare_text l.style (chars l.src);
}
