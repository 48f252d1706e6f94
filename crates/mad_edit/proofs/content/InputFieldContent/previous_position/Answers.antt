use Rattle.std.proofs.Common.{rules}
use Rattle.mad_edit.proofs.EditorLemmas.{lines_seen}
use Rattle.mad_edit.proofs.content.InputFieldContent.previous_position.Goals as goal

pub position_before-requires : goal.position_before-requires
position_before-requires c = rw c.deref.ensures.value (rw (lines_seen _ _ _ _ c.self.view_is c.self.invariant) at c.requires)

pub returns-clause-position : goal.returns-clause-position
returns-clause-position c = rw (lines_seen _ _ _ _ c.self.view_is c.self.invariant) (search rules)

pub returns-clause-next : goal.returns-clause-next
returns-clause-next c = rw (lines_seen _ _ _ _ c.self.view_is c.self.invariant) (search rules)
