use Rattle.std.proofs.Common.{◌≡◌, ◌++◌, ◌-◌, map, length, drop}
use Rattle.mad_md.specs.Lines.{content_of}
use Rattle.markdown_lines.specs.Lines.{lines_said}
use Rattle.markdown_lines.specs.Said.{said}
use Rattle.markdown_lines.specs.Shown.{shown}
use Rattle.markdown_lines.proofs.lines.Lines.text_lines.Given as goal

abbrev pub invariant-loop-index : goal.invariant-loop-index
invariant-loop-index l = map content_of l.made.items ++ lines_said (said l.self.runs) (drop l.index l.self.lines.items) ≡ shown l.self

abbrev pub decreases-loop-index : goal.decreases-loop-index
decreases-loop-index l = length l.self.lines.items - l.index
