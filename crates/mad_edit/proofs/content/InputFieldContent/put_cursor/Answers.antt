use Rattle.std.proofs.Common.{rules}
use Rattle.mad_edit.proofs.EditorLemmas.{lines_seen}
use Rattle.mad_edit.proofs.content.InputFieldContent.put_cursor.Goals as goal

pub invariant_of-self : goal.invariant_of-self
invariant_of-self c = record { cursor = rw (lines_seen _ _ _ _ c.self.view_is c.self.invariant) at c.requires; selected = c.self.invariant.selected; texts = c.self.invariant.texts }

pub returns : goal.returns
returns c = rw (lines_seen _ _ _ _ c.self.view_is c.self.invariant, ← c.self.view_is) (search rules)
