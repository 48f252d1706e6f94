use Rattle.std.proofs.Common.{◌≡◌, ◌+◌, length, nat_eq}
use Rattle.std.specs.List.{starts_with}
use Rattle.code_colors.proofs.bytes.begins_on.Given as goal

abbrev pub invariant-loop-left : goal.invariant-loop-left
invariant-loop-left l = record { left : starts_with nat_eq l.rest l.left ≡ starts_with nat_eq l.bytes l.prefix; few : length l.rest + length l.prefix ≡ length l.bytes + length l.left }

abbrev pub decreases-loop-left : goal.decreases-loop-left
decreases-loop-left l = length l.left
