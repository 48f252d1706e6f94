use Rattle.std.proofs.Common.{◌≡◌}
use Rattle.mad_list_rows.specs.Selecting.{first_from}
use Rattle.mad_list_rows.proofs.finding.first_in.Given as goal

abbrev pub invariant-loop-i : goal.invariant-loop-i
invariant-loop-i g l = first_from l.rows l.i ≡ first_from l.fn.rows l.fn.from
