use Rattle.std.proofs.Common.{rules}
use Rattle.mad_edit.proofs.EditorLemmas.{lines_seen}
use Rattle.mad_edit.proofs.content.InputFieldContent.line.Goals as goal

pub returns-then-y-line_count : goal.returns-then-y-line_count
returns-then-y-line_count c = rw (lines_seen _ _ _ _ c.self.view_is c.self.invariant) (search rules)

pub returns-else-y-line_count : goal.returns-else-y-line_count
returns-else-y-line_count c = rw (lines_seen _ _ _ _ c.self.view_is c.self.invariant) (search rules)
