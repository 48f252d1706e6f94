use Rattle.std.proofs.Common.{List, sym, subst}
use Rattle.mad_md.specs.Lines.{LineContent}
use Rattle.mad_blocks.specs.PartCursors.{lines_left}
use Rattle.mad_blocks.specs.TableCursors.{IsFirstTable}
use Rattle.mad_blocks.proofs.part_cursor.PartCursor.next_table.Goals as goal

pub returns-in_ok-table-in-Some : goal.returns-in_ok-table-in-Some
returns-in_ok-table-in-Some g c =
    let next = rw c.in-Some.is at c.in_ok-first.ensures in
    subst (λ (cs : List LineContent). IsFirstTable (g.S.LineSkin.rules c.args.skin.now) c.args.width cs c.in_ok-table-in-Some.table (lines_left c.read_table.new.self)) (sym next.0) c.in_ok-table-in-Some.ensures

pub returns-in-None : goal.returns-in-None
returns-in-None g c = rw c.in-None.is at c.in_ok-first.ensures
