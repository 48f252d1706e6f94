use Rattle.std.proofs.Common.{ℕ, ap, sym, ◌∙◌, map, arith}
use Rattle.mad_md.specs.Lines.{content_of}
use Rattle.mad_sections.specs.TableTexts.{rows_in, stand_in, least_widths}
use Rattle.mad_sections.proofs.TableLemmas.{fit_first, fit_last, fit_on, fit_no_more}
use Rattle.mad_sections.proofs.table_rooms.has_room.Goals as goal

pub loop-column-init : goal.loop-column-init
loop-column-init c =
    let rows = rows_in (map content_of c.args.lines.now) in
    fit_first c.args.rules c.columns_count-count.result c.args.room rows (omega arith)
    ∙ ap (λ (n : ℕ). stand_in c.args.room (least_widths c.args.rules n rows)) c.columns_count-count.ensures

pub loop-column-preserved : goal.loop-column-preserved
loop-column-preserved c =
    fit_on c.args.rules c.columns_count-count.result c.loop-column.column c.loop-column.left c.least_width-width.result (rows_in (map content_of c.args.lines.now)) c.loop-column-test.true (omega arith) c.least_width-width.ensures c.if-left-width.false
    ∙ c.loop-column.invariant

pub returns-then-left-width : goal.returns-then-left-width
returns-then-left-width c =
    sym (fit_no_more c.args.rules c.columns_count-count.result c.loop-column.column c.loop-column.left c.least_width-width.result (rows_in (map content_of c.args.lines.now)) c.loop-column-test.true c.least_width-width.ensures c.if-left-width.true)
    ∙ c.loop-column.invariant

pub returns : goal.returns
returns c =
    sym (fit_last c.args.rules c.columns_count-count.result c.loop-column.column c.loop-column.left (rows_in (map content_of c.args.lines.now)) c.loop-column-test.false)
    ∙ c.loop-column.invariant
