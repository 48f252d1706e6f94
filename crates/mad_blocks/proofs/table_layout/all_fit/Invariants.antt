use Rattle.std.proofs.Common.{ℕ, ◌<◌, ◌≤◌, ◌-◌, length, get_or}
use Rattle.mad_measure.specs.declared.spacing.Spacing.{Spacing}
use Rattle.mad_format.specs.declared.composite.FmtComposite.{FmtComposite}
use Rattle.mad_blocks.proofs.table_layout.all_fit.Given as goal

abbrev pub invariant-loop-i : goal.invariant-loop-i
invariant-loop-i l = record { fit : (k : ℕ) (c : Spacing) (x : FmtComposite) → k < l.i → (get_or l.fn.cells k x).visible_length ≤ (get_or l.fn.columns k c).width }

abbrev pub decreases-loop-i : goal.decreases-loop-i
decreases-loop-i l = length l.fn.columns - l.i
