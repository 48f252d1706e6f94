use Rattle.std.proofs.Common.{◌≡◌, ◌≤◌, length, ◌+◌, chars}
use Rattle.std.specs.Str.{IsUtf8}
use Rattle.std.specs.Str.Iter.{chars_rest}
use Rattle.mad_measure.specs.TextColumns.{columns}
use Rattle.mad_measure.proofs.measure.columns.Given as goal

abbrev pub invariant-loop-c : goal.invariant-loop-c
invariant-loop-c l = record {
  utf8 : IsUtf8 (chars_rest l.c-iterator);
  so_far : l.total + columns (chars (chars_rest l.c-iterator)) ≡ columns (chars l.text);
  bound : l.total + length (chars_rest l.c-iterator) ≤ length l.text;
}
