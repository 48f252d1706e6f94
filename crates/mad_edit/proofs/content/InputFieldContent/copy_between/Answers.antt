use Rattle.std.proofs.Common.{rules}
use Rattle.mad_edit.proofs.EditorLemmas.{lines_seen}
use Rattle.mad_edit.proofs.content.InputFieldContent.copy_between.Goals as goal

pub text_between-requires-clause-from : goal.text_between-requires-clause-from
text_between-requires-clause-from c = rw c.deref.ensures.value (rw (lines_seen _ _ _ _ c.self.view_is c.self.invariant) at c.requires.from)

pub text_between-requires-clause-to : goal.text_between-requires-clause-to
text_between-requires-clause-to c = rw c.deref.ensures.value (rw (lines_seen _ _ _ _ c.self.view_is c.self.invariant) at c.requires.to)

pub returns : goal.returns
returns c = rw (lines_seen _ _ _ _ c.self.view_is c.self.invariant, ← c.self.view_is) (search rules)
