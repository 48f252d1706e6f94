use Rattle.mad_term.proofs.Traces.{took_flushed}
use Rattle.mad_layout.proofs.DrawnLayouts.{rows_flushed}
use Rattle.mad_view.specs.Views.{view_area, view_bar, view_lines, view_skin}
use Rattle.mad_view.proofs.text_view.TextView.write.Goals as goal

pub returns-clause-shown : goal.returns-clause-shown
returns-clause-shown g c bar drawable =
    took_flushed (g.O.Out.seen c.args.out.now) (g.O.Out.seen c.write_on.new.out) (g.O.Out.seen c.flush.new.self) _ (c.in_ok-write_on.ensures.shown bar drawable) c.in_ok-flush.ensures

pub returns-clause-shown_layout : goal.returns-clause-shown_layout
returns-clause-shown_layout g c source width within bar keeps layout =
    took_flushed (g.O.Out.seen c.args.out.now) (g.O.Out.seen c.write_on.new.out) (g.O.Out.seen c.flush.new.self) _ (c.in_ok-write_on.ensures.shown_layout source width within bar keeps layout) c.in_ok-flush.ensures

pub returns-clause-headline : goal.returns-clause-headline
returns-clause-headline g c =
    let view = c.args.self.now in
    rows_flushed (view_skin view) (view_bar view) (view_lines view) (view_area view) view.scroll (g.O.Out.seen c.args.out.now) (g.O.Out.seen c.write_on.new.out) (g.O.Out.seen c.flush.new.self) c.in_ok-write_on.ensures.headline c.in_ok-flush.ensures
