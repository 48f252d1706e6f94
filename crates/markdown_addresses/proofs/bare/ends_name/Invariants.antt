use Rattle.std.proofs.Common.{◌≡◌, ◌≤◌, false, length}
use Rattle.markdown_addresses.specs.Bare.{ends_name}
use Rattle.markdown_addresses.proofs.bare.ends_name.Given as goal

abbrev pub invariant-loop-left : goal.invariant-loop-left
invariant-loop-left l = record { same : ends_name l.some l.left l.bytes ≡ ends_name false l.count l.bytes; few : l.left ≤ length l.bytes }

abbrev pub decreases-loop-left : goal.decreases-loop-left
decreases-loop-left l = l.left
