use Rattle.std.specs.Vec.Iter.{into_iter_items}
use Rattle.mad_blocks.proofs.LayoutLemmas.{ClosedSoFar}
use Rattle.mad_blocks.proofs.laying.push_block.Given as goal

abbrev pub invariant-loop-composite : goal.invariant-loop-composite
invariant-loop-composite g l = ClosedSoFar (g.S.LineSkin.rules l.skin) l.wrap l.columns l.fn.block.items (into_iter_items l.composite-iterator) l.fn.lines.items l.lines.items
