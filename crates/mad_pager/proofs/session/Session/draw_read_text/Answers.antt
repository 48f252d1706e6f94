use Rattle.std.proofs.Common.{OnOk, subst, sym}
use Rattle.mad_term.specs.Trace.{TookWith}
use Rattle.mad_outline.specs.Sources.{a_text, text_said}
use Rattle.mad_search.specs.declared.paged.PagedText.{PagedText}
use Rattle.mad_patterns.specs.Readings.{reading_of}
use Rattle.mad_pager.specs.Screens.{AreDrawnOver, own_rows}
use Rattle.mad_pager.specs.Sessions.{state_of}
use Rattle.mad_pager.proofs.session.Session.draw_read_text.Goals as goal

pub returns-in-Lines : goal.returns-in-Lines
returns-in-Lines g c =
    let self = c.args.self.now in
    subst (λ (t : PagedText). OnOk c.draw_marks.result (TookWith (g.O.Out.seen c.args.out.now) (g.O.Out.seen c.draw_marks.new.out) (AreDrawnOver self.skin.now (own_rows self.skin.now (a_text (text_said t)) (state_of self)) (state_of self) (reading_of c.args.reading.now).pattern)))
    (sym c.in-Lines.is) c.draw_marks.ensures

pub returns-in-Markdown : goal.returns-in-Markdown
returns-in-Markdown g c =
    let self = c.args.self.now in
    subst (λ (t : PagedText). OnOk c.draw_marks-in-Markdown.result (TookWith (g.O.Out.seen c.args.out.now) (g.O.Out.seen c.draw_marks-in-Markdown.new.out) (AreDrawnOver self.skin.now (own_rows self.skin.now (a_text (text_said t)) (state_of self)) (state_of self) (reading_of c.args.reading.now).pattern)))
    (sym c.in-Markdown.is) c.draw_marks-in-Markdown.ensures

pub returns-in-Plain : goal.returns-in-Plain
returns-in-Plain g c =
    let self = c.args.self.now in
    subst (λ (t : PagedText). OnOk c.draw_plain.result (TookWith (g.O.Out.seen c.args.out.now) (g.O.Out.seen c.draw_plain.new.out) (AreDrawnOver self.skin.now (own_rows self.skin.now (a_text (text_said t)) (state_of self)) (state_of self) (reading_of c.args.reading.now).pattern)))
    (sym c.in-Plain.is) c.draw_plain.ensures
