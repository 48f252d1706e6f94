use Rattle.std.proofs.Common.{◌≡◌, length, chars}
use denote.Text.{Utf8}
use denote.Shadow.{shadow}
use Rattle.mad_plain.specs.Lines.{are_plain}
use Rattle.mad_plain.proofs.lines.is_plain.Given as goal

abbrev pub invariant-loop-c : goal.invariant-loop-c
invariant-loop-c l = record { text : shadow (Utf8 l.rest); so_far : are_plain (chars l.rest) ≡ are_plain (chars l.text) }

abbrev pub decreases-loop-c : goal.decreases-loop-c
decreases-loop-c l = length l.rest
