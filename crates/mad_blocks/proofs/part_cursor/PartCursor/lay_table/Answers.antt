use Rattle.std.proofs.Common.{◌∷◌, arith}
use Rattle.mad_md.specs.Lines.{content_of}
use Rattle.mad_blocks.specs.PartCursors.{lines_left}
use Rattle.mad_blocks.proofs.TableCursorLemmas.{part_ends, part_goes_on}
use Rattle.mad_blocks.proofs.part_cursor.PartCursor.lay_table.Goals as goal

pub loop-table-init : goal.loop-table-init
loop-table-init g c = c.in_ok-table.ensures c.args.lines.now.items

pub loop-table-preserved : goal.loop-table-preserved
loop-table-preserved g c =
    let step = rw c.if-branch.true at c.in_ok-lay_next.ensures in
    part_goes_on (g.S.LineSkin.rules c.args.skin.now) c.args.width (content_of c.args.first ∷ lines_left c.args.self.now) c.args.lines.now.items _ c.loop-table.table c.lay_next.new.self c.loop-table.lines.items c.lay_next.new.lines.items step.1.0 c.loop-table.invariant step.1.1 step.1.2

pub loop-table-smaller : goal.loop-table-smaller
loop-table-smaller g c = let step = rw c.if-branch.true at c.in_ok-lay_next.ensures in omega (arith, step.0)

pub returns : goal.returns
returns g c =
    let end = rw c.if-branch.false at c.in_ok-lay_next.ensures in
    part_ends (g.S.LineSkin.rules c.args.skin.now) c.args.width (content_of c.args.first ∷ lines_left c.args.self.now) c.args.lines.now.items _ c.loop-table.table c.loop-table.lines.items c.lay_next.new.lines.items c.loop-table.invariant end.0 end.1
