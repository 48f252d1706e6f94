use Rattle.std.proofs.Common.{arith}
use Rattle.mad_edit.proofs.EditorLemmas.{lines_seen, rest_length}
use Rattle.mad_edit.proofs.content.InputFieldContent.position_ahead.Goals as goal

pub prove-unreachable-requires : goal.prove-unreachable-requires
prove-unreachable-requires c = let room = rw c.deref.ensures.value at c.line_len.ensures in let n = rest_length _ _ _ _ c.self.view_is c.self.invariant in omega arith

pub overflow_add-result : goal.overflow_add-result
overflow_add-result c = let n = rest_length _ _ _ _ c.self.view_is c.self.invariant in omega arith

pub returns : goal.returns
returns c = let n = rest_length _ _ _ _ c.self.view_is c.self.invariant in rw (lines_seen _ _ _ _ c.self.view_is c.self.invariant, ← c.self.view_is) ((omega arith, omega arith), omega arith)
