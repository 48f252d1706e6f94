use Rattle.std.proofs.Common.{arith}
use Rattle.mad_edit.proofs.EditorLemmas.{lines_seen}
use Rattle.mad_edit.proofs.content.InputFieldContent.start.Goals as goal

pub returns : goal.returns
returns c = rw (lines_seen _ _ _ _ c.self.view_is c.self.invariant) ((omega (arith, c.self.invariant.cursor.0), omega arith), omega arith)
