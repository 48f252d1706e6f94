use Rattle.std.proofs.Common.{◌≡◌, ◌++◌, ◌∷◌}
use Rattle.mad_edit_lines.specs.TextLines.{lines_of, led_lines_with, accepted, AreLineTexts}
use Rattle.mad_edit_lines.proofs.edits.lines_with_text.Given as goal

abbrev pub invariant-loop-c : goal.invariant-loop-c
invariant-loop-c l = (led_lines_with (lines_of l.lines.items) l.current.items ≡ (10 ∷ l.front) ++ accepted l.yielded) × AreLineTexts (lines_of l.lines.items) l.current.items
