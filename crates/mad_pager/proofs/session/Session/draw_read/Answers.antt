use Rattle.std.proofs.Common.{OnOk, subst, sym}
use Rattle.mad_term.specs.Trace.{TookWith}
use Rattle.mad_outline.specs.Sources.{content_of}
use Rattle.mad_outline.specs.declared.sources.Source.{Source}
use Rattle.mad_patterns.specs.Readings.{reading_of}
use Rattle.mad_pager.specs.Screens.{AreDrawnOver, own_rows}
use Rattle.mad_pager.specs.Sessions.{state_of}
use Rattle.mad_pager.proofs.session.Session.draw_read.Goals as goal

pub returns-in-Text : goal.returns-in-Text
returns-in-Text g c =
    let self = c.args.self.now in
    subst (λ (o : Source). OnOk c.draw_read_text.result (TookWith (g.O.Out.seen c.args.out.now) (g.O.Out.seen c.draw_read_text.new.out) (AreDrawnOver self.skin.now (own_rows self.skin.now (content_of o) (state_of self)) (state_of self) (reading_of c.args.reading.now).pattern)))
    (sym c.in-Text.is) c.draw_read_text.ensures

pub returns-in-Numbered : goal.returns-in-Numbered
returns-in-Numbered g c =
    let self = c.args.self.now in
    subst (λ (o : Source). OnOk c.draw_read_text-in-Numbered.result (TookWith (g.O.Out.seen c.args.out.now) (g.O.Out.seen c.draw_read_text-in-Numbered.new.out) (AreDrawnOver self.skin.now (own_rows self.skin.now (content_of o) (state_of self)) (state_of self) (reading_of c.args.reading.now).pattern)))
    (sym c.in-Numbered.is) c.draw_read_text-in-Numbered.ensures

pub returns-in-Links : goal.returns-in-Links
returns-in-Links g c =
    let self = c.args.self.now in
    subst (λ (o : Source). OnOk c.draw_marks.result (TookWith (g.O.Out.seen c.args.out.now) (g.O.Out.seen c.draw_marks.new.out) (AreDrawnOver self.skin.now (own_rows self.skin.now (content_of o) (state_of self)) (state_of self) (reading_of c.args.reading.now).pattern)))
    (sym c.in-Links.is) c.draw_marks.ensures

pub returns-in-Contents : goal.returns-in-Contents
returns-in-Contents g c =
    let self = c.args.self.now in
    subst (λ (o : Source). OnOk c.draw_marks-in-Contents.result (TookWith (g.O.Out.seen c.args.out.now) (g.O.Out.seen c.draw_marks-in-Contents.new.out) (AreDrawnOver self.skin.now (own_rows self.skin.now (content_of o) (state_of self)) (state_of self) (reading_of c.args.reading.now).pattern)))
    (sym c.in-Contents.is) c.draw_marks-in-Contents.ensures
