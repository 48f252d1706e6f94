use Rattle.std.proofs.Common.{◌≡◌, ◌≤◌, false, length}
use Rattle.markdown_addresses.specs.Bare.{trimmed}
use Rattle.markdown_addresses.proofs.bare.trimmed.Given as goal

abbrev pub invariant-loop-left : goal.invariant-loop-left
invariant-loop-left l = record { same : trimmed l.spare l.entity l.left l.bytes ≡ trimmed l.fn.spare false l.count l.bytes; few : l.left ≤ l.count }

abbrev pub decreases-loop-left : goal.decreases-loop-left
decreases-loop-left l = l.left
