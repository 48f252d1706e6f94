use Rattle.std.proofs.Common.{refl, arith}
use Rattle.std.specs.Vec.Iter.{into_iter_items}
use Rattle.std.proofs.lemmas.List.{drop_all}
use Rattle.mad_blocks.proofs.TableLemmas.{cells_more, cells_all}
use Rattle.mad_blocks.proofs.table_rows.lay_cells.Goals as goal

pub loop-column-preserved : goal.loop-column-preserved
loop-column-preserved g c =
    cells_more (g.S.LineSkin.rules c.args.skin.now) c.args.columns.now c.args.cells.items c.loop-column.column-index _ (into_iter_items c.loop-column.rest) _ c.loop-column.parts.items _ _ c.in_ok-lines.lines.items c.loop-column.height _
    c.loop-column-test.true c.loop-column.invariant refl c.into_iter.ensures.rest c.in_ok-lines.ensures.lines c.in_ok-lines.ensures.rest c.in_ok-push.ensures.items
    (omega (arith, c.max-height.ensures, c.len.ensures))

pub returns-clause-laid_out : goal.returns-clause-laid_out
returns-clause-laid_out g c = cells_all (g.S.LineSkin.rules c.args.skin.now) c.args.columns.now c.args.cells.items _ _ _ _ (drop_all _ _ c.loop-column-test.false) c.loop-column.invariant
