use Rattle.std.proofs.Common.{◌∷◌, ◌++◌, [], map, ap, ◌∙◌}
use Rattle.std.proofs.lemmas.List.{map-append}
use Rattle.std.proofs.lemmas.Result.{IfOk-weaker}
use Rattle.mad_md.specs.Lines.{content_of}
use Rattle.mad_blocks.specs.PartCursors.{lines_left}
use Rattle.mad_blocks.proofs.TableCursorLemmas.{table_begun, table_goes_on, table_whole}
use Rattle.mad_blocks.proofs.part_cursor.PartCursor.read_table.Goals as goal

pub loop-table-init : goal.loop-table-init
loop-table-init g c = table_begun (content_of c.args.first) (lines_left c.args.self.now) _ (ap (map content_of) (c.in_ok-push.ensures.items ∙ ap (λ ls. ls ++ c.args.first ∷ []) c.new-table.ensures.items))

pub loop-table-preserved : goal.loop-table-preserved
loop-table-preserved g c =
    let next = rw c.in-Some.is at c.in_ok-line.ensures in
    table_goes_on (content_of c.args.first) (lines_left c.args.self.now) (lines_left c.loop-table.self) (lines_left c.next_table_line.new.self) (map content_of c.loop-table.table.items) _ (content_of c.in-Some.line) c.loop-table.invariant next.0 next.1
    (ap (map content_of) c.in_ok-push-2.ensures.items ∙ map-append content_of c.loop-table.table.items (c.in-Some.line ∷ []))

pub returns : goal.returns
returns g c =
    let next = rw c.in_default.is at c.in_ok-line.ensures in
    IfOk-weaker c.new.result _ _
    (λ table becomes lines own left. table_whole (g.S.LineSkin.rules c.args.skin.now) c.args.width (content_of c.args.first) (lines_left c.args.self.now) (lines_left c.loop-table.self) _ (map content_of c.loop-table.table.items) c.table_width.result lines own c.requires c.loop-table.invariant next.0 next.1
    c.table_width.ensures (becomes own left)) c.new.ensures
