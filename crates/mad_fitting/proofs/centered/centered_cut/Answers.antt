use Rattle.std.proofs.Common.{◌<◌, ◌≤◌, ◌+◌, ◌-◌, ◌⊎◌, inl, inr, chars, length, ap, ◌∙◌, arith, refl, subst}
use Rattle.mad_fitting.specs.CenteredCuts.{IsCenteredCut}
use Rattle.mad_fitting.proofs.CenteredLemmas.{fewest_more, centered_is}
use Rattle.mad_fitting.proofs.centered.centered_cut.Goals as goal
use Rattle.mad_fitting.proofs.centered.centered_cut.Goals.{else-loop-middle-test, then-loop-middle-test+in-None}

pub loop-middle-preserved : goal.loop-middle-preserved
loop-middle-preserved c =
    let held = c.loop-middle.invariant in
    let grows = c.in-Some.ensures.more in
    let text = ap (λ t. t.now) grows.text in
    record {
      is = c.in-Some.ensures.middle;
      text = text ∙ held.text;
      most = omega (arith, grows.most, c.loop-middle-test.true);
      fewest = fewest_more c.loop-middle.middle c.in-Some.more held.is c.args.excess c.loop-middle-test.true text grows.count held.fewest;
    }

pub returns-clause-cut : goal.returns-clause-cut
returns-clause-cut c =
    let held = c.loop-middle.invariant in
    let m = c.loop-middle.middle in
    let stops : (c.args.excess < m.columns) ⊎ (length (chars m.text.now) ≤ m.count + 2) = elim c.loop-middle-test.branch as (λ _. (c.args.excess < m.columns) ⊎ (length (chars m.text.now) ≤ m.count + 2)) [
      | else-loop-middle-test w ↦ inl (omega (arith, w.loop-middle-test.false))
      | then-loop-middle-test+in-None w ↦ inr w.in-None.ensures.last
    ] in
    subst (λ t. IsCenteredCut c.args.excess t (record { start = length m.before.now; end = length t - length m.after.now; columns = m.columns })) held.text (centered_is c.args.excess m held.is _ refl held.fewest stops)
