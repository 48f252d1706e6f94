use Rattle.std.proofs.Common.{◌≡◌, find, drop}
use Rattle.std.specs.Prelude.{nat_lt}
use Rattle.mad_patterns.proofs.breaks.part_end.Given as goal

-- what is found among the starts that are left
abbrev pub invariant-loop-start : goal.invariant-loop-start
invariant-loop-start l = find (nat_lt l.row) (drop l.start-index l.starts) ≡ find (nat_lt l.row) l.starts
