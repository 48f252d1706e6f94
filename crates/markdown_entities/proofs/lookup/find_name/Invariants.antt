use Rattle.std.proofs.Common.{◌≡◌, length, map}
use Rattle.markdown_entities.specs.Rows.{row_of}
use Rattle.markdown_entities.specs.Lookup.{find_name}
use Rattle.markdown_entities.proofs.lookup.find_name.Given as goal

abbrev pub invariant-loop-rest : goal.invariant-loop-rest
invariant-loop-rest l = find_name l.name (map row_of l.rest) ≡ find_name l.name (map row_of l.rows)

abbrev pub decreases-loop-rest : goal.decreases-loop-rest
decreases-loop-rest l = length l.rest
