use Rattle.std.proofs.Common.{◌≤◌, ◌<◌, arith, rules}
use Rattle.mad_blocks.specs.Tables.{most_columns}
use Rattle.mad_blocks.proofs.TableWidths.{ok_narrow, ok_wide, room_beside}
use Rattle.mad_blocks.proofs.table_columns.kept_widths.Goals as goal

pub returns-then-most-nbcols : goal.returns-then-most-nbcols
returns-then-most-nbcols c =
    let b = c.args.rules.cell_blanks in
    let few : most_columns b c.args.width < c.args.nbcols = omega (arith, c.most_columns-most.ensures, c.if-most-nbcols.true) in
    ok_narrow c.vec.result c.args.rules.whole_words b c.args.nbcols c.args.width c.args.table.now c.requires few (search rules)

pub without_blanks-room-requires : goal.without_blanks-room-requires
without_blanks-room-requires c = omega (arith, c.most_columns-most.ensures, c.if-most-nbcols.false)

pub fitted_widths-requires : goal.fitted_widths-requires
fitted_widths-requires c =
    let few : c.args.nbcols ≤ most_columns c.args.rules.cell_blanks c.args.width = omega (arith, c.most_columns-most.ensures, c.if-most-nbcols.false) in
    omega (arith, c.without_blanks-room.ensures, room_beside c.args.rules.cell_blanks c.args.nbcols c.args.width c.requires few)

pub returns : goal.returns
returns c =
    let few : c.args.nbcols ≤ most_columns c.args.rules.cell_blanks c.args.width = omega (arith, c.most_columns-most.ensures, c.if-most-nbcols.false) in
    ok_wide c.fitted_widths.result c.args.rules.whole_words c.args.rules.cell_blanks c.args.nbcols c.args.width c.args.table.now c.requires few
    (rw c.without_blanks-room.ensures at c.fitted_widths.ensures)
