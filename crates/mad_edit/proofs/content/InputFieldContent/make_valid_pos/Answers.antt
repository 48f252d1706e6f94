use Rattle.std.proofs.Common.{rules}
use Rattle.mad_edit.proofs.EditorLemmas.{lines_seen}
use Rattle.mad_edit.proofs.content.InputFieldContent.make_valid_pos.Goals as goal

pub returns-clause-position : goal.returns-clause-position
returns-clause-position c = rw (lines_seen _ _ _ _ c.self.view_is c.self.invariant) (search rules)

pub returns-clause-nearest : goal.returns-clause-nearest
returns-clause-nearest c = rw (lines_seen _ _ _ _ c.self.view_is c.self.invariant) (search rules)
