use Rattle.std.proofs.Common.{◌≡◌, ◌++◌, map, length}
use Rattle.std.specs.List.{flat_map}
use Rattle.markdown_writing.specs.Pages.{ended}
use Rattle.markdown_writing.proofs.writing.push_lines.Given as goal

abbrev pub invariant-loop-rest : goal.invariant-loop-rest
invariant-loop-rest l = l.out.items ++ flat_map ended (map (λ line. line.now) l.rest) ≡ l.fn.out.items ++ flat_map ended (map (λ line. line.now) l.lines)

abbrev pub decreases-loop-rest : goal.decreases-loop-rest
decreases-loop-rest l = length l.rest
