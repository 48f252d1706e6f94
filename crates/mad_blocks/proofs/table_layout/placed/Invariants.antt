use Rattle.std.proofs.Common.{◌≡◌, ℕ, ◌<◌, ◌≤◌, ◌-◌, length, get_or}
use Rattle.mad_measure.specs.declared.spacing.Spacing.{Spacing}
use Rattle.mad_format.specs.declared.composite.FmtComposite.{FmtComposite}
use Rattle.mad_blocks.specs.Tables.{in_column}
use Rattle.mad_blocks.proofs.table_layout.placed.Given as goal

abbrev pub invariant-loop-i : goal.invariant-loop-i
invariant-loop-i l = record {
  count : length l.cells.items ≡ length l.fn.row.cells.items;
  done : (k : ℕ) (c : Spacing) (x : FmtComposite) → k < l.i → get_or l.cells.items k x ≡ in_column (get_or l.fn.columns k c) (get_or l.fn.row.cells.items k x);
  rest : (k : ℕ) (x : FmtComposite) → l.i ≤ k → get_or l.cells.items k x ≡ get_or l.fn.row.cells.items k x;
}

abbrev pub decreases-loop-i : goal.decreases-loop-i
decreases-loop-i l = length l.fn.columns - l.i
