use Rattle.std.proofs.Common.{rules}
use Rattle.mad_edit.proofs.EditorLemmas.{lines_seen}
use Rattle.mad_edit.proofs.content.InputFieldContent.position_past_char.Goals as goal

pub position_past-requires : goal.position_past-requires
position_past-requires c = rw c.deref.ensures.value (rw (lines_seen _ _ _ _ c.self.view_is c.self.invariant) at c.requires)

pub returns : goal.returns
returns c = rw (lines_seen _ _ _ _ c.self.view_is c.self.invariant, ← c.self.view_is) (search rules)
