use Rattle.std.proofs.Common.{◌≤◌, ◌<◌, map, arith, rules}
use Rattle.mad_md.specs.Lines.{content_of}
use Rattle.mad_blocks.specs.Tables.{most_columns}
use Rattle.mad_blocks.proofs.ReadTables.{read_narrow, read_wide}
use Rattle.mad_blocks.proofs.TableWidths.{room_beside}
use Rattle.mad_blocks.proofs.table_columns.read_widths.Goals as goal

pub returns-then-most-nbcols : goal.returns-then-most-nbcols
returns-then-most-nbcols g c =
    let skin = g.S.LineSkin.rules c.args.skin.now in
    let most = rw c.cell_blanks.ensures at c.most_columns-most.ensures in
    let few : most_columns skin.cell_blanks c.args.width < c.args.nbcols = omega (arith, most, c.if-most-nbcols.true) in
    read_narrow c.vec.result skin c.args.nbcols c.args.width (map content_of c.args.table.now) c.requires few (search rules)

pub without_blanks-room-requires : goal.without_blanks-room-requires
without_blanks-room-requires g c =
    let most = rw c.cell_blanks.ensures at c.most_columns-most.ensures in
    rw c.cell_blanks-2.ensures (omega (arith, most, c.if-most-nbcols.false))

pub fitted_lines-requires : goal.fitted_lines-requires
fitted_lines-requires g c =
    let skin = g.S.LineSkin.rules c.args.skin.now in
    let most = rw c.cell_blanks.ensures at c.most_columns-most.ensures in
    let room = rw c.cell_blanks-2.ensures at c.without_blanks-room.ensures in
    let few : c.args.nbcols ≤ most_columns skin.cell_blanks c.args.width = omega (arith, most, c.if-most-nbcols.false) in
    omega (arith, room, room_beside skin.cell_blanks c.args.nbcols c.args.width c.requires few)

pub returns : goal.returns
returns g c =
    let skin = g.S.LineSkin.rules c.args.skin.now in
    let most = rw c.cell_blanks.ensures at c.most_columns-most.ensures in
    let room = rw c.cell_blanks-2.ensures at c.without_blanks-room.ensures in
    let few : c.args.nbcols ≤ most_columns skin.cell_blanks c.args.width = omega (arith, most, c.if-most-nbcols.false) in
    read_wide c.fitted_lines.result skin c.args.nbcols c.args.width (map content_of c.args.table.now) c.requires few (rw room at c.fitted_lines.ensures)
