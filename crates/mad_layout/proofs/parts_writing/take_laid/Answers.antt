use Rattle.std.proofs.Common.{string_bytes}
use Rattle.std.proofs.lemmas.Result.{IfOk-weaker}
use Rattle.mad_blocks.specs.PartCursors.{lines_left}
use Rattle.mad_layout.proofs.TakenParts.{table_taken, laid_taken}
use Rattle.mad_layout.proofs.parts_writing.take_laid.Goals as goal

pub returns-in_ok-append_table-in-Some : goal.returns-in_ok-append_table-in-Some
returns-in_ok-append_table-in-Some c =
    table_taken c.args.skin.now c.args.width (lines_left c.args.parts.now) (lines_left c.next_table.new.self) c.in-Some.table (string_bytes c.args.rows.now) (string_bytes c.append_table.new.rows) c.append_table.new.lines.items (rw c.in-Some.is at c.in_ok-table.ensures)
    c.in_ok-append_table-in-Some.ensures.none c.in_ok-append_table-in-Some.ensures.rows

pub returns-in-None : goal.returns-in-None
returns-in-None c =
    let next = rw c.in-None.is at c.in_ok-table.ensures in
    IfOk-weaker c.lay_next.result _ _
    (λ found h. laid_taken c.args.skin.now c.args.width (lines_left c.args.parts.now) (lines_left c.next_table.new.self) (lines_left c.lay_next.new.self) (string_bytes c.args.rows.now) c.args.lines.now.items c.lay_next.new.lines.items found next.0 c.requires h) c.lay_next.ensures
