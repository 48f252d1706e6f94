use Rattle.std.proofs.Common.{◌≡◌, ◌++◌, length, chars}
use denote.Text.{Utf8}
use denote.Shadow.{shadow}
use Rattle.mad_plain.specs.Lines.{line_from, line_chars}
use Rattle.mad_plain.specs.Shown.{shown_so_far}
use Rattle.mad_plain.proofs.lines.read_line.Given as goal

abbrev pub invariant-loop-c : goal.invariant-loop-c
invariant-loop-c l = record { text : shadow (Utf8 l.rest); so_far : shown_so_far l.shown ++ line_from l.place l.skip (chars l.rest) ≡ line_chars (chars l.text) }

abbrev pub decreases-loop-c : goal.decreases-loop-c
decreases-loop-c l = length l.rest
