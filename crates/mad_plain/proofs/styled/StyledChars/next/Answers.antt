use Rattle.std.proofs.Common.{◌∙◌, ap, arith, chars}
use Rattle.mad_plain.proofs.RunLemmas.{step_rest, step_within, spread_nothing}
use Rattle.mad_plain.specs.Pens.{plain_pen}
use Rattle.mad_plain.specs.Runs.{spread}
use Rattle.mad_plain.proofs.styled.StyledChars.next.Goals as goal

pub invariant_of-self : goal.invariant_of-self
invariant_of-self c =
    let s = c.args.self.now in
    record {
      ordered = step_within s.at s.runs.now _ (chars s.text.now) _ c.in-Some.c s.ordered c.in-Some.ensures.cases c.next_runs-runs.ensures;
      few = omega (arith, s.few, c.in-Some.ensures.shorter);
    }

pub returns-in-Some-clause-cases : goal.returns-in-Some-clause-cases
returns-in-Some-clause-cases c =
    let s = c.args.self.now in
    step_rest s.at s.runs.now _ (chars s.text.now) _ c.in-Some.c _ s.ordered c.in-Some.ensures.cases c.next_runs-runs.ensures c.first_style.ensures

pub returns-in-None-clause-cases : goal.returns-in-None-clause-cases
returns-in-None-clause-cases c = let s = c.args.self.now in ap (spread plain_pen s.at s.runs.now) c.in-None.ensures.cases ∙ spread_nothing plain_pen s.at s.runs.now

pub returns-in-None-clause-ended : goal.returns-in-None-clause-ended
returns-in-None-clause-ended c = let s = c.args.self.now in ap (spread plain_pen s.at s.runs.now) c.in-None.ensures.cases ∙ spread_nothing plain_pen s.at s.runs.now
