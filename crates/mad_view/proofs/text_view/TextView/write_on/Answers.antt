use Rattle.mad_layout.proofs.DrawnLayouts.{layout_shown}
use Rattle.mad_view.specs.Views.{view_area, view_bar, view_lines, view_skin}
use Rattle.mad_view.proofs.text_view.TextView.write_on.Goals as goal

pub returns-clause-shown_layout : goal.returns-clause-shown_layout
returns-clause-shown_layout g c =
    let view = c.args.self.now in
    layout_shown c.draw_text.result (view_skin view) (view_bar view) (view_lines view) (view_area view) view.scroll (g.O.Out.seen c.args.out.now) (g.O.Out.seen c.draw_text.new.out) c.requires c.draw_text.ensures.shown
