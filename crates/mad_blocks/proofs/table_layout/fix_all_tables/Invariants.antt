use Rattle.std.specs.Vec.Iter.{into_iter_items}
use Rattle.mad_blocks.proofs.TableLemmas.{TablesSoFar}
use Rattle.mad_blocks.proofs.table_layout.fix_all_tables.Given as goal

abbrev pub invariant-loop-line : goal.invariant-loop-line
invariant-loop-line g l = TablesSoFar (g.S.LineSkin.rules l.skin) l.width l.fn.lines.items l.table.items (into_iter_items l.line-iterator) l.lines.items
