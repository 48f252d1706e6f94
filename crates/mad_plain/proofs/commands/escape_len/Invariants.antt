use denote.Shadow.{shadow}
use denote.Text.{Utf8}
use Rattle.std.proofs.Common.{◌≡◌, ◌≤◌, ◌+◌, length, false, chars}
use Rattle.mad_plain.specs.Commands.{escape_from}
use Rattle.mad_plain.proofs.commands.escape_len.Given as goal

abbrev pub invariant-loop-c : goal.invariant-loop-c
invariant-loop-c l = record {
  text : shadow (Utf8 l.rest);
  so_far : escape_from l.middle l.at (chars l.rest) ≡ escape_from false 0 (chars l.text);
  bound : l.at + length l.rest ≤ length l.text;
}

abbrev pub decreases-loop-c : goal.decreases-loop-c
decreases-loop-c l = length l.rest
