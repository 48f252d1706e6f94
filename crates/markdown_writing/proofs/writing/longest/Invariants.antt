use Rattle.std.proofs.Common.{◌≡◌, map, length}
use Rattle.markdown_writing.specs.Pages.{longest, longest_from}
use Rattle.markdown_writing.proofs.writing.longest.Given as goal

abbrev pub invariant-loop-rest : goal.invariant-loop-rest
invariant-loop-rest l = longest_from l.most (map (λ line. line.now) l.rest) ≡ longest (map (λ line. line.now) l.lines)

abbrev pub decreases-loop-rest : goal.decreases-loop-rest
decreases-loop-rest l = length l.rest
