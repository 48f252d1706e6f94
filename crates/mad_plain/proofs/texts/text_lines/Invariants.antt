use denote.Shadow.{shadow}
use denote.Text.{Utf8}
use Rattle.std.proofs.Common.{◌≡◌, ◌++◌, length, map}
use Rattle.mad_plain.specs.Texts.{text_lines}
use Rattle.mad_plain.proofs.texts.text_lines.Given as goal

abbrev pub invariant-loop-rest : goal.invariant-loop-rest
invariant-loop-rest l = record { text : shadow (Utf8 l.rest); so_far : map (λ line. line.now) l.lines.items ++ text_lines l.rest ≡ text_lines l.text }

abbrev pub decreases-loop-rest : goal.decreases-loop-rest
decreases-loop-rest l = length l.rest
