use Rattle.std.proofs.Common.{◌≡◌, ◌++◌, map, take, drop}
use Rattle.mad_md.specs.Flagged.{run_of}
use Rattle.markdown_lines.specs.Said.{said, range_said}
use Rattle.markdown_lines.proofs.text.make_composite.Given as goal

abbrev pub invariant-loop-more : goal.invariant-loop-more
invariant-loop-more l = map run_of l.compounds.items ++ take l.more (drop l.index (said l.runs)) ≡ range_said (said l.runs) l.fn.range

abbrev pub decreases-loop-more : goal.decreases-loop-more
decreases-loop-more l = l.more
