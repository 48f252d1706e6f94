use Rattle.std.proofs.Common.{◌≡◌, ◌≤◌, ◌++◌, ◌-◌, ◌+◌, take, drop}
use Rattle.mad_blocks.proofs.CodeBlockLemmas.{first_placed}
use Rattle.mad_blocks.proofs.code_blocks.CodeBlock.justify.Given as goal

abbrev pub invariant-loop-index : goal.invariant-loop-index
invariant-loop-index l = record {
  from : l.self.start ≤ l.index;
  to : l.index ≤ l.self.start + l.self.height;
  so_far : l.lines ≡ take l.self.start l.fn.lines ++ first_placed l.self.width (l.index - l.self.start) (drop l.self.start l.fn.lines);
}

abbrev pub decreases-loop-index : goal.decreases-loop-index
decreases-loop-index l = l.self.start + l.self.height - l.index
