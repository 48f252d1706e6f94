use denote.Shadow.{shadow}
use denote.Text.{Utf8}
use Rattle.std.proofs.Common.{◌≡◌, ◌+◌, length, chars}
use Rattle.mad_plain.specs.Rows.{columns_of}
use Rattle.mad_plain.proofs.rows.columns_up_to.Given as goal

abbrev pub invariant-loop-columns : goal.invariant-loop-columns
invariant-loop-columns l = record {
  text : shadow (Utf8 l.rest);
  so_far : l.columns + columns_of (chars l.rest) ≡ columns_of (chars l.text);
}

abbrev pub decreases-loop-columns : goal.decreases-loop-columns
decreases-loop-columns l = length l.rest
