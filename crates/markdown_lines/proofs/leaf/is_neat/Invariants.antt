use Rattle.std.proofs.Common.{◌≡◌, ℕ, ◌≤◌, ◌<◌, ◌-◌, true, eqb, get_or, length}
use Rattle.markdown_lines.specs.CutRows.{IsAlone}
use Rattle.markdown_lines.proofs.leaf.is_neat.Given as goal

abbrev pub invariant-loop-skip : goal.invariant-loop-skip
invariant-loop-skip l = record {
  within : l.from ≤ length l.text;
  beside : (k : ℕ) → k < l.from → eqb (get_or l.text k 0) 10 ≡ true → IsAlone l.text k;
}

abbrev pub decreases-loop-skip : goal.decreases-loop-skip
decreases-loop-skip l = length l.text - l.from
