use Rattle.std.proofs.Common.{◌≡◌, ◌++◌, length, map}
use Rattle.mad_md.specs.Flagged.{run_of}
use Rattle.mad_outline.specs.LinkLists.{runs_with}
use Rattle.mad_outline.proofs.links.runs_with.Given as goal

-- what was put, and what is left, are the whole
abbrev pub invariant-rest : goal.invariant-rest
invariant-rest l = map run_of l.own.items ++ runs_with l.mark l.rest (map run_of l.left) ≡ runs_with l.mark l.marks (map run_of l.runs)

abbrev pub decreases-rest : goal.decreases-rest
decreases-rest l = length l.rest
