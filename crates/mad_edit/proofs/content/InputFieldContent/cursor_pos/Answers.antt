use Rattle.std.proofs.Common.{refl}
use Rattle.mad_edit.proofs.EditorLemmas.{lines_seen, editor_seen, line_seen, index_seen}
use Rattle.mad_edit.proofs.content.InputFieldContent.cursor_pos.Goals as goal

pub returns-clause-at : goal.returns-clause-at
returns-clause-at c = rw (lines_seen _ _ _ _ c.self.view_is c.self.invariant, ← c.self.view_is) (c.self.invariant.cursor, refl)

pub returns-clause-line : goal.returns-clause-line
returns-clause-line c = line_seen _ _ _ _ c.self.view_is c.self.invariant

pub returns-clause-index : goal.returns-clause-index
returns-clause-index c = index_seen _ _ _ _ c.self.view_is c.self.invariant

pub returns-clause-valid : goal.returns-clause-valid
returns-clause-valid c = editor_seen _ _ _ _ c.self.view_is c.self.invariant
