use denote.Shadow.{shadow}
use denote.Text.{Utf8}
use Rattle.std.proofs.Common.{◌≡◌, ◌≤◌, ◌+◌, length, false, chars}
use Rattle.mad_plain.specs.Commands.{sequence_from}
use Rattle.mad_plain.proofs.commands.sequence_len.Given as goal

abbrev pub invariant-loop-c : goal.invariant-loop-c
invariant-loop-c l = record {
  text : shadow (Utf8 l.rest);
  so_far : sequence_from l.middle l.at (chars l.rest) ≡ sequence_from false 1 (chars l.text);
  bound : l.at + length l.rest ≤ length l.text + 1;
}

abbrev pub decreases-loop-c : goal.decreases-loop-c
decreases-loop-c l = length l.rest
