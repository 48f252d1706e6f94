use Rattle.std.proofs.Common.{length}
use Rattle.std.specs.Vec.Iter.{into_iter_items}
use Rattle.mad_blocks.proofs.TableLemmas.{PartsSoFar}
use Rattle.mad_blocks.proofs.table_layout.push_table_lines.Given as goal

abbrev pub invariant-loop-line : goal.invariant-loop-line
invariant-loop-line g l = PartsSoFar (g.S.LineSkin.rules l.skin) l.widths l.fn.table.items l.fn.lines.items l.columns.items l.first (into_iter_items l.rest) l.lines.items

abbrev pub decreases-loop-line : goal.decreases-loop-line
decreases-loop-line g l = length (into_iter_items l.rest)
