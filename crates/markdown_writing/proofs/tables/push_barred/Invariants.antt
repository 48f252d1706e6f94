use Rattle.std.proofs.Common.{◌≡◌, ◌++◌, length}
use Rattle.markdown_writing.specs.Tables.{barred}
use Rattle.markdown_writing.proofs.tables.push_barred.Given as goal

abbrev pub invariant-loop-rest : goal.invariant-loop-rest
invariant-loop-rest l = l.out.items ++ barred l.rest ≡ l.fn.out.items ++ barred l.text

abbrev pub decreases-loop-rest : goal.decreases-loop-rest
decreases-loop-rest l = length l.rest
