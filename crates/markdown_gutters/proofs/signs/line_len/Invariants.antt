use Rattle.std.proofs.Common.{◌≡◌, ◌+◌, length}
use Rattle.markdown_gutters.specs.Signs.{line_len}
use Rattle.markdown_gutters.proofs.signs.line_len.Given as goal

abbrev pub invariant-loop-rest : goal.invariant-loop-rest
invariant-loop-rest l = record { left : l.len + line_len l.rest ≡ line_len l.text; few : l.len + length l.rest ≡ length l.text }

abbrev pub decreases-loop-rest : goal.decreases-loop-rest
decreases-loop-rest l = length l.rest
