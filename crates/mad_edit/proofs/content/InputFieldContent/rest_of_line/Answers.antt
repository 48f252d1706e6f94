use Rattle.std.proofs.Common.{◌∙◌}
use Rattle.mad_edit.proofs.EditorLemmas.{rest_seen}
use Rattle.mad_edit.proofs.content.InputFieldContent.rest_of_line.Goals as goal

pub returns : goal.returns
returns c = (rw c.deref.ensures.value at c.rest_at.ensures) ∙ rest_seen _ _ _ _ c.self.view_is c.self.invariant
