use Rattle.std.proofs.Common.{◌≡◌, ◌++◌, List, length, map}
use Rattle.std.specs.Vec.Iter.{into_iter_items}
use Rattle.mad_format.specs.CompositeWraps.{AreComposites}
use Rattle.mad_format.specs.LinesLeft.{AreCompositesLeft}
use Rattle.mad_format.specs.Indents.{follow_up}
use Rattle.mad_format.specs.WrappedLines.{line_with}
use Rattle.mad_format.specs.declared.composite.FmtComposite.{FmtComposite}
use Rattle.mad_format.proofs.wrap.push_wrapped.Given as goal

abbrev pub invariant-loop-composite : goal.invariant-loop-composite
invariant-loop-composite l = (cs : List FmtComposite) × (l.lines.items ≡ l.fn.lines.items ++ map (line_with l.margins) cs)
    × ((more : List FmtComposite) → AreCompositesLeft l.left more → AreComposites l.fn.kind (follow_up l.fn.kind) l.fn.room.first l.fn.room.other l.fn.spacing l.fn.wrap.items (cs ++ more))

abbrev pub decreases-loop-composite : goal.decreases-loop-composite
decreases-loop-composite l = length (into_iter_items l.left.lines)
