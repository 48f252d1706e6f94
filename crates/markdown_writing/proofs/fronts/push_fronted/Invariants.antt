use Rattle.std.proofs.Common.{◌≡◌, ◌++◌, length}
use Rattle.markdown_writing.specs.Fronts.{fronted}
use Rattle.markdown_writing.proofs.fronts.push_fronted.Given as goal

abbrev pub invariant-loop-rest : goal.invariant-loop-rest
invariant-loop-rest l = l.out.items ++ fronted l.empty l.full l.at_first l.rest ≡ l.fn.out.items ++ fronted l.empty l.full l.begins l.text

abbrev pub decreases-loop-rest : goal.decreases-loop-rest
decreases-loop-rest l = length l.rest
