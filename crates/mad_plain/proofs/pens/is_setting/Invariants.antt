use denote.Shadow.{shadow}
use denote.Text.{Utf8}
use Rattle.std.proofs.Common.{◌≡◌, length, chars}
use Rattle.mad_plain.specs.Pens.{is_setting}
use Rattle.mad_plain.proofs.pens.is_setting.Given as goal

abbrev pub invariant-loop-c : goal.invariant-loop-c
invariant-loop-c l = record { text : shadow (Utf8 l.rest); so_far : is_setting (chars l.rest) ≡ is_setting (chars l.text) }

abbrev pub decreases-loop-c : goal.decreases-loop-c
decreases-loop-c l = length l.rest
