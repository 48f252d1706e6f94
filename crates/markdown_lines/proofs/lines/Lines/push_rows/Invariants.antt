use Rattle.std.proofs.Common.{◌≡◌, ◌++◌, ◌-◌, length, drop}
use Rattle.markdown_lines.specs.Lines.{lines_said}
use Rattle.markdown_lines.specs.Restyled.{restyled}
use Rattle.markdown_lines.specs.Said.{said}
use Rattle.markdown_lines.specs.Shown.{shown}
use Rattle.markdown_lines.proofs.lines.Lines.push_rows.Given as goal

abbrev pub invariant-loop-index : goal.invariant-loop-index
invariant-loop-index l = shown l.self ++ restyled l.style l.others (lines_said (said l.rows.runs) (drop l.index l.rows.lines.items)) ≡ shown l.fn.self ++ restyled l.fn.first l.others (shown l.rows)

abbrev pub decreases-loop-index : goal.decreases-loop-index
decreases-loop-index l = length l.rows.lines.items - l.index
