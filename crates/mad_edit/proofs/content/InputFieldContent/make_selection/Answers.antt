use Rattle.std.proofs.Common.{refl}
use Rattle.mad_edit.proofs.EditorLemmas.{lines_seen}
use Rattle.mad_edit.proofs.content.InputFieldContent.make_selection.Goals as goal

pub returns-then-is_none-clause-made : goal.returns-then-is_none-clause-made
returns-then-is_none-clause-made c = rw (lines_seen _ _ _ _ c.self.view_is c.self.invariant, ← c.self.view_is) (λ none. (c.self.invariant.cursor, refl))
