use Rattle.std.proofs.Common.{List, ℕ, refl, ap, sym, ◌∙◌, subst, inl}
use Rattle.mad_live.specs.declared.live_rows.LiveRows.{LiveRows}
use Rattle.mad_live.proofs.CodeLemmas.{on_err}
use Rattle.mad_stream.specs.Gathered.{gathered_trace}
use Rattle.mad_stream.specs.Streams.{Steps}
use Rattle.mad_stream.proofs.LiveTextLemmas.{all_taken, below_fails, goes_below}
use Rattle.mad_stream.proofs.live_text.LiveText.go_on_below.Goals as goal

pub returns-in_err-begin_below-clause-goes_on : goal.returns-in_err-begin_below-clause-goes_on
returns-in_err-begin_below-clause-goes_on g c = inl (below_fails c.args.self.now _ c.args.width c.args.height _ _ c.from_residual.result _ c.from_residual.ensures.1 c.in_err-begin_below.ensures.begins)

pub returns-in_err-begin_below-clause-err : goal.returns-in_err-begin_below-clause-err
returns-in_err-begin_below-clause-err g c = on_err c.from_residual.result _ (ap (λ (rows : LiveRows). record c.args.self.now { rows = rows }) c.in_err-begin_below.ensures.begins.kept)

pub returns-clause-goes_on : goal.returns-clause-goes_on
returns-clause-goes_on g c =
    let piece : List ℕ = c.as_str.result.now in
    let all = all_taken piece c.feed-fed.result.0 c.feed-fed.result.1 (sym c.is_err.ensures.value ∙ c.if-is_err.false) c.feed-fed.ensures.all in
    let fed = subst (λ (l : List ℕ). Steps c.begun_again-stream.result l c.feed-fed.new.self (gathered_trace c.new-done.result) c.feed-fed.result.1 (gathered_trace c.feed-fed.new.out)) all c.feed-fed.ensures.fed in
    inl (goes_below c.args.self.now _ c.args.width c.args.height _ _ piece c.feed-fed.result.1 c.begun_again-stream.result c.new-done.result (sym c.is_err.ensures.value ∙ c.if-is_err.false) c.begun_again-stream.ensures.start c.new-done.ensures fed c.as_str.ensures.value refl
    (c.feed-fed.ensures.width ∙ c.begun_again-stream.ensures.width) c.in_ok-begin_below.ensures.begins)
