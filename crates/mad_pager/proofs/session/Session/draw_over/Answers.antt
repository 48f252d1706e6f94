use Rattle.std.proofs.Common.{◌≡◌, ◌==◌, ◌&&◌, not, true, false, List, ℕ, ap, length, refl, subst, sym, ◌∙◌}
use Rattle.mad_hits.proofs.TookLemmas.{took_so}
use Rattle.mad_patterns.specs.Readings.{reading_of, IsReadingOf}
use Rattle.mad_outline.specs.Sources.{content_of}
use Rattle.mad_pager.specs.Screens.{AreDrawnOver, AreHitsDrawn, marks_typed, own_rows}
use Rattle.mad_pager.specs.Sessions.{state_of}
use Rattle.mad_pager.proofs.session.Session.draw_over.Goals as goal

pub returns-then-marks_typed : goal.returns-then-marks_typed
returns-then-marks_typed g c =
    let s = state_of c.args.self.now in
    let skin = c.args.self.now.skin.now in
    let rows = own_rows skin (content_of c.args.self.now.source) s in
    let is : marks_typed s ≡ true = ap (λ (t : List ℕ). s.is_typing && not (length t == 0)) (sym (c.as_str.ensures.value ∙ c.in_ok-typed.ensures)) ∙ (sym c.marks_typed-marks_typed.ensures ∙ c.if-marks_typed.true) in
    took_so (g.O.Out.seen c.args.out.now) (g.O.Out.seen c.draw_read.new.out) (AreDrawnOver skin rows s (reading_of c.in_ok-reading.reading).pattern) (AreHitsDrawn skin rows s)
    (λ text marks. record {
      reading = reading_of c.in_ok-reading.reading;
      is = record {
        typed = λ e. subst (λ (t : List ℕ). IsReadingOf t (reading_of c.in_ok-reading.reading)) (c.as_str-then-marks_typed.ensures.value ∙ c.in_ok-typed.ensures) c.in_ok-reading.ensures;
        sought = λ e. let never : true ≡ false = sym is ∙ e in absurd (cc);
      };
      marks = marks;
    })
    c.in_ok-draw_read.ensures

pub returns : goal.returns
returns g c =
    let s = state_of c.args.self.now in
    let skin = c.args.self.now.skin.now in
    let rows = own_rows skin (content_of c.args.self.now.source) s in
    let is : marks_typed s ≡ false = ap (λ (t : List ℕ). s.is_typing && not (length t == 0)) (sym (c.as_str.ensures.value ∙ c.in_ok-typed.ensures)) ∙ (sym c.marks_typed-marks_typed.ensures ∙ c.if-marks_typed.false) in
    took_so (g.O.Out.seen c.args.out.now) (g.O.Out.seen c.draw_read-2.new.out) (AreDrawnOver skin rows s s.reading.pattern) (AreHitsDrawn skin rows s)
    (λ text marks. record {
      reading = s.reading;
      is = record { typed = λ e. let never : false ≡ true = sym is ∙ e in absurd (cc); sought = λ e. refl };
      marks = marks;
    })
    c.in_ok-draw_read-2.ensures
