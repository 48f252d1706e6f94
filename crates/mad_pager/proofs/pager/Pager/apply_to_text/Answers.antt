use Rattle.std.proofs.Common.{ap, refl, sym, ◌∙◌}
use Rattle.mad_pager.specs.Pagers.{leaf_of}
use Rattle.mad_pager.specs.Sessions.{opens, state_of, turn_of}
use Rattle.mad_pager.specs.declared.session.Turn.{Turn}
use Rattle.mad_pager.proofs.PagerOrder.{covered_so, stepped_leaf}
use Rattle.mad_pager.proofs.pager.Pager.apply_to_text.Goals as goal

pub returns-in_ok-over-in-Some-clause-step : goal.returns-in_ok-over-in-Some-clause-step
returns-in_ok-over-in-Some-clause-step c =
    let old = c.args.self.now.text in
    let new = c.apply.new.self in
    record {
      text = stepped_leaf c.args.event old new c.in_ok-turn.ensures.text c.in_ok-turn.ensures.step;
      over = covered_so (opens (turn_of c.args.event (state_of old))) c.in-Some.overlay (leaf_of new) (leaf_of c.in_ok-over-in-Some.over) _
          (sym (c.opens.ensures ∙ ap (λ (t : Turn). opens t) c.in_ok-turn.ensures.turn) ∙ c.in-Some.is) c.in_ok-over-in-Some.ensures refl;
    }
