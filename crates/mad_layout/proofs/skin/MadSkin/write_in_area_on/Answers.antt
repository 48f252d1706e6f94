use Rattle.std.proofs.Common.{ap}
use Rattle.mad_layout.proofs.HeadlineLemmas.{area_written, text_shown}
use Rattle.mad_layout.proofs.HeadlineRows.{headline_shown}
use Rattle.mad_layout.proofs.SourceLemmas.{source_shown}
use Rattle.mad_layout.specs.RowSkins.{row_skin}
use Rattle.mad_layout.proofs.skin.MadSkin.write_in_area_on.Goals as goal

pub returns-clause-writes : goal.returns-clause-writes
returns-clause-writes g c =
    area_written c.draw_text.result (row_skin c.args.self.now) (row_skin c.in_ok-text.text.skin.now) c.args.markdown.now c.args.area.now c.in_ok-text.text.lines.items _ _ (ap row_skin c.in_ok-text.ensures.skin) c.in_ok-text.ensures.lines c.draw_text.ensures.writes

pub returns-clause-shown : goal.returns-clause-shown
returns-clause-shown g c = text_shown c.draw_text.result _ _ _ _ _ (g.O.Out.seen c.args.out.now) (g.O.Out.seen c.draw_text.new.out) c.utf8.markdown c.requires (ap row_skin c.in_ok-text.ensures.skin) c.in_ok-text.ensures.lines c.draw_text.ensures.shown

pub returns-clause-shown_source : goal.returns-clause-shown_source
returns-clause-shown_source g c = source_shown c.draw_text.result _ _ _ (g.O.Out.seen c.args.out.now) (g.O.Out.seen c.draw_text.new.out) (returns-clause-shown g c)

pub returns-clause-headline : goal.returns-clause-headline
returns-clause-headline g c = headline_shown c.draw_text.result _ _ _ (g.O.Out.seen c.args.out.now) (g.O.Out.seen c.draw_text.new.out) c.utf8.markdown c.requires (returns-clause-shown g c)
