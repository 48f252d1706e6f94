use Rattle.std.proofs.Common.{◌≡◌, ◌≤◌, ◌++◌, length, take, drop}
use Rattle.markdown_lines.specs.Said.{said, range_said}
use Rattle.markdown_lines.proofs.runs.Runs.add.Given as goal

abbrev pub invariant-loop-more : goal.invariant-loop-more
invariant-loop-more l = record {
  same : said l.self ++ take l.more (drop l.index (said l.from)) ≡ said l.fn.self ++ range_said (said l.from) l.fn.range;
  grows : length (said l.fn.self) ≤ length (said l.self);
}

abbrev pub decreases-loop-more : goal.decreases-loop-more
decreases-loop-more l = l.more
