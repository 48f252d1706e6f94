use Rattle.std.proofs.Common.{ℕ, List, ap, ◌∙◌}
use Rattle.std.specs.Prelude.{option_map}
use Rattle.mad_edit_lines.specs.TextLines.{clamp}
use Rattle.mad_edit.proofs.content.InputFieldContent.clear.Goals as goal

pub returns-clause-tail : goal.returns-clause-tail
returns-clause-tail c = rw (← c.self.view_is) ((rw c.deref.ensures.value at c.clamp_tail-self-inside.ensures.is) ∙ ap (λ (ls : List (List ℕ)). option_map (clamp ls) c.self.inside.selection_tail) c.clear_lines.ensures)
