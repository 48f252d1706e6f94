use Rattle.std.proofs.Common.{rules}
use Rattle.mad_edit.proofs.EditorLemmas.{lines_seen}
use Rattle.mad_edit.proofs.content.InputFieldContent.line_count.Goals as goal

pub returns : goal.returns
returns c = rw (lines_seen _ _ _ _ c.self.view_is c.self.invariant) (search rules)
