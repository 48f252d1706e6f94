use Rattle.std.proofs.Common.{◌≡◌, ◌++◌, length}
use Rattle.markdown_lines.specs.LinkNumbers.{after_links, numbers_from}
use Rattle.markdown_lines.proofs.numbers.push_from.Given as goal

abbrev pub invariant-loop-rest : goal.invariant-loop-rest
invariant-loop-rest l = l.numbers.items ++ after_links l.before (numbers_from l.begun l.rest) ≡ l.fn.numbers.items ++ after_links l.before (numbers_from l.fn.first l.others)

abbrev pub decreases-loop-rest : goal.decreases-loop-rest
decreases-loop-rest l = length l.rest
