use denote.Shadow.{shadow}
use denote.Text.{Utf8}
use Rattle.std.proofs.Common.{◌≡◌, ◌≤◌, ◌++◌, length, false, chars}
use Rattle.mad_plain.specs.Pens.{parts_from}
use Rattle.mad_plain.proofs.pens.parts_of.Given as goal

abbrev pub invariant-loop-c : goal.invariant-loop-c
invariant-loop-c l = record {
  text : shadow (Utf8 l.rest);
  so_far : l.parts.items ++ parts_from l.joined l.number (chars l.rest) ≡ parts_from false 0 (chars l.text);
  few : l.number ≤ 256;
}

abbrev pub decreases-loop-c : goal.decreases-loop-c
decreases-loop-c l = length l.rest
