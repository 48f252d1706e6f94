use Rattle.std.proofs.Common.{◌∙◌}
use Rattle.mad_edit.proofs.EditorLemmas.{front_seen}
use Rattle.mad_edit.proofs.content.InputFieldContent.front_of_line.Goals as goal

pub returns : goal.returns
returns c = (rw c.deref.ensures.value at c.front_at.ensures) ∙ front_seen _ _ _ _ c.self.view_is c.self.invariant
