use Rattle.std.proofs.Common.{rules}
use Rattle.mad_edit.proofs.EditorLemmas.{lines_seen}
use Rattle.mad_edit.proofs.content.InputFieldContent.selection_chars.Goals as goal

pub new-requires-clause-at : goal.new-requires-clause-at
new-requires-clause-at c = rw c.deref.ensures.value (rw (lines_seen _ _ _ _ c.self.view_is c.self.invariant) at c.selected_span.ensures.start.0)

pub new-requires-clause-end : goal.new-requires-clause-end
new-requires-clause-end c = rw c.deref.ensures.value (rw (lines_seen _ _ _ _ c.self.view_is c.self.invariant) at c.selected_span.ensures.end.0)

pub returns : goal.returns
returns c =
    rw (← c.selected_span.ensures.start.1, ← c.selected_span.ensures.end.1, lines_seen _ _ _ _ c.self.view_is c.self.invariant, ← c.self.view_is) (search rules)
