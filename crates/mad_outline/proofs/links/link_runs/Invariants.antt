use Rattle.std.proofs.Common.{◌≡◌, ◌++◌, map, drop}
use Rattle.mad_md.specs.Flagged.{run_of}
use Rattle.mad_md.specs.Lines.{content_of}
use Rattle.mad_outline.specs.LinkLists.{link_runs}
use Rattle.mad_outline.proofs.links.link_runs.Given as goal

abbrev pub invariant-loop-line : goal.invariant-loop-line
invariant-loop-line l = map run_of l.runs.items ++ link_runs (map content_of (drop l.line-index l.lines)) ≡ link_runs (map content_of l.lines)
