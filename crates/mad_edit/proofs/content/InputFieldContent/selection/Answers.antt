use Rattle.std.proofs.Common.{rules}
use Rattle.mad_edit.proofs.EditorLemmas.{own_lines, lines_seen, editor_seen}
use Rattle.mad_edit.proofs.content.InputFieldContent.selection.Goals as goal

pub returns-in-Some-clause-min : goal.returns-in-Some-clause-min
returns-in-Some-clause-min c = rw (← c.self.view_is, c.in-Some.is, own_lines _ _ _ c.self.invariant) (search rules)

pub returns-in-Some-clause-max : goal.returns-in-Some-clause-max
returns-in-Some-clause-max c = rw (← c.self.view_is, c.in-Some.is, own_lines _ _ _ c.self.invariant) (search rules)

pub returns-in-None-clause-min : goal.returns-in-None-clause-min
returns-in-None-clause-min c = rw (lines_seen _ _ _ _ c.self.view_is c.self.invariant, ← c.self.view_is) (search rules)

pub returns-in-None-clause-max : goal.returns-in-None-clause-max
returns-in-None-clause-max c = rw (lines_seen _ _ _ _ c.self.view_is c.self.invariant, ← c.self.view_is) (search rules)

pub returns-in-Some-clause-valid : goal.returns-in-Some-clause-valid
returns-in-Some-clause-valid c = editor_seen _ _ _ _ c.self.view_is c.self.invariant

pub returns-in-None-clause-valid : goal.returns-in-None-clause-valid
returns-in-None-clause-valid c = editor_seen _ _ _ _ c.self.view_is c.self.invariant
