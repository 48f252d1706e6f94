use Rattle.std.proofs.Common.{arith}
use Rattle.mad_edit.proofs.EditorLemmas.{lines_seen, front_length}
use Rattle.mad_edit.proofs.content.InputFieldContent.position_back.Goals as goal

pub overflow_sub-result : goal.overflow_sub-result
overflow_sub-result c = let n = front_length _ _ _ _ c.self.view_is c.self.invariant in omega arith

pub returns : goal.returns
returns c = let n = front_length _ _ _ _ c.self.view_is c.self.invariant in rw (lines_seen _ _ _ _ c.self.view_is c.self.invariant, ← c.self.view_is) ((omega arith, omega arith), omega arith)
