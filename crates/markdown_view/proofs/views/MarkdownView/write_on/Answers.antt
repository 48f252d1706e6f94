use Rattle.std.proofs.Common.{ap, ◌∙◌, drop}
use Rattle.markdown_view.proofs.ViewLemmas.{shown_kept, shown_read}
use Rattle.markdown_view.proofs.views.MarkdownView.write_on.Goals as goal

pub returns-clause-shown : goal.returns-clause-shown
returns-clause-shown g c =
    shown_kept c.draw_rows_beside.result _ c.args.self.now c.last_column-bar.result c.rows_from.result.now c.page_columns.result (g.O.Out.seen c.args.out.now) (g.O.Out.seen c.draw_rows_beside.new.out) c.self.view_is c.requires c.self.invariant.laid_out
    c.last_column-bar.ensures (c.rows_from.ensures ∙ ap (drop c.self.inside.scroll) c.deref.ensures.value) c.page_columns.ensures c.draw_rows_beside.ensures.shown

pub returns-clause-read : goal.returns-clause-read
returns-clause-read g c =
    shown_read c.draw_rows_beside.result _ c.args.self.now (g.O.Out.seen c.args.out.now) (g.O.Out.seen c.draw_rows_beside.new.out) c.self.view_is c.self.invariant.typed (returns-clause-shown g c)
