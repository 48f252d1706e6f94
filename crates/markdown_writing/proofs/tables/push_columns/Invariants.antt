use Rattle.std.proofs.Common.{◌≡◌, ◌++◌, length}
use Rattle.std.specs.List.{flat_map}
use Rattle.markdown_writing.specs.Tables.{delimiter}
use Rattle.markdown_writing.proofs.tables.push_columns.Given as goal

abbrev pub invariant-loop-rest : goal.invariant-loop-rest
invariant-loop-rest l = l.out.items ++ flat_map delimiter l.rest ≡ l.fn.out.items ++ flat_map delimiter l.rule

abbrev pub decreases-loop-rest : goal.decreases-loop-rest
decreases-loop-rest l = length l.rest
