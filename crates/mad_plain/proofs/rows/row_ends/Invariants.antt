use denote.Shadow.{shadow}
use denote.Text.{Utf8}
use Rattle.std.proofs.Common.{◌≡◌, ◌≤◌, ◌+◌, ◌++◌, length, chars}
use Rattle.mad_plain.specs.Rows.{ends_from, row_ends}
use Rattle.mad_plain.proofs.rows.row_ends.Given as goal

abbrev pub invariant-loop-c : goal.invariant-loop-c
invariant-loop-c l = record {
  text : shadow (Utf8 l.rest);
  so_far : l.ends.items ++ ends_from l.fn.width l.left l.at (chars l.rest) ≡ row_ends l.fn.width (chars l.text);
  few : l.at + length l.rest ≤ length l.text;
}

abbrev pub decreases-loop-c : goal.decreases-loop-c
decreases-loop-c l = length l.rest
