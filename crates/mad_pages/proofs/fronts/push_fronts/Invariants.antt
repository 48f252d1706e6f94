use Rattle.std.proofs.Common.{◌≡◌, ◌++◌, true, drop, map}
use Rattle.mad_pages.specs.Fronts.{front_content, front_of}
use Rattle.mad_pages.specs.PageRows.{behind}
use Rattle.mad_pages.proofs.fronts.push_fronts.Given as goal

abbrev pub invariant-loop-line : goal.invariant-loop-line
invariant-loop-line l =
    map front_content l.fronts.items ++ map front_of (behind l.gutters l.here l.left l.number l.heads (drop l.line-index l.lines))
    ≡ map front_content l.fn.fronts.items ++ map front_of (behind l.fn.gutters l.fn.fresh l.fn.marks 0 true l.fn.lines)
