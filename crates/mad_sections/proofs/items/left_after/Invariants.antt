use Rattle.std.proofs.Common.{◌≡◌, ◌≤◌, ◌+◌, chars}
use Rattle.std.specs.Str.{IsUtf8}
use Rattle.std.specs.Str.Iter.{chars_rest}
use Rattle.mad_sections.specs.Items.{text_length}
use Rattle.mad_sections.proofs.items.left_after.Given as goal

abbrev pub invariant-loop-c : goal.invariant-loop-c
invariant-loop-c l = record {
  utf8 : IsUtf8 (chars_rest l.c-iterator);
  so_far : text_length (chars (chars_rest l.c-iterator)) + l.most ≡ text_length (chars l.text) + l.left;
  within : l.left ≤ l.most;
}
