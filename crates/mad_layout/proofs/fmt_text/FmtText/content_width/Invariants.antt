use Rattle.std.proofs.Common.{◌≡◌, max, drop}
use Rattle.mad_format.specs.FmtLines.{widest_line}
use Rattle.mad_layout.proofs.fmt_text.FmtText.content_width.Given as goal

abbrev pub invariant-loop-line : goal.invariant-loop-line
invariant-loop-line l = max l.widest (widest_line (drop l.line-index l.self.lines.items)) ≡ widest_line l.self.lines.items
