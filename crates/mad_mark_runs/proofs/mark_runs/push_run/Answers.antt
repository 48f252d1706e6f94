use Rattle.std.proofs.Common.{◌≡◌, ℕ, ◌+◌, ◌∙◌, sym, ap, subst, arith}
use Rattle.mad_mark_runs.specs.Values.{AreRising, values_of, end_from}
use Rattle.mad_mark_runs.proofs.ValueLemmas.{pushed_run, pushed_values, pushed_rising}
use Rattle.mad_mark_runs.proofs.mark_runs.push_run.Goals as goal

pub returns-clause-rising : goal.returns-clause-rising
returns-clause-rising c =
    let end_is : c.in-Some.end ≡ end_from 0 c.args.runs.now.items + c.args.count = c.in-Some.ensures.1 ∙ ap (λ (n : ℕ). n + c.args.count) (c.end_of.ensures ∙ ap (end_from 0) c.deref.ensures.value) in
    subst (AreRising 0) (sym c.in_ok-push.ensures.items) (pushed_rising c.args.runs.now.items c.args.value c.args.count c.in-Some.end c.requires (omega arith) end_is)

pub returns-clause-values : goal.returns-clause-values
returns-clause-values c =
    let end_is : c.in-Some.end ≡ end_from 0 c.args.runs.now.items + c.args.count = c.in-Some.ensures.1 ∙ ap (λ (n : ℕ). n + c.args.count) (c.end_of.ensures ∙ ap (end_from 0) c.deref.ensures.value) in
    ap values_of c.in_ok-push.ensures.items ∙ pushed_values c.args.runs.now.items c.args.value c.args.count c.in-Some.end end_is

pub returns-clause-runs : goal.returns-clause-runs
returns-clause-runs c =
    let end_is : c.in-Some.end ≡ end_from 0 c.args.runs.now.items + c.args.count = c.in-Some.ensures.1 ∙ ap (λ (n : ℕ). n + c.args.count) (c.end_of.ensures ∙ ap (end_from 0) c.deref.ensures.value) in
    pushed_run c.args.runs.now.items c.push.new.self.items c.args.value c.args.count c.in-Some.end (omega arith) end_is c.in_ok-push.ensures.items
