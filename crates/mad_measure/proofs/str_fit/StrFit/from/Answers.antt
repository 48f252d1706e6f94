use Rattle.std.proofs.Common.{◌≡◌, rules, arith, sym, ap, subst, ◌∙◌, ◌||◌, ◌==◌, List, ℕ, false}
use Rattle.std.specs.Str.Iter.{chars_rest}
use Rattle.mad_measure.proofs.StrFitLemmas.{FitSoFar, fit_none, fit_more, fit_before}
use Rattle.mad_measure.proofs.str_fit.StrFit.from.Goals as goal

pub loop-c-init : goal.loop-c-init
loop-c-init c =
    let all : chars_rest c.into_iter-c-iterator.result ≡ c.args.s.now = search rules in
    subst (λ (rest : List ℕ). FitSoFar c.args.s.now rest c.args.cols_max c.args.cols_max 0 0 false) (sym all) (fit_none c.args.s.now c.args.cols_max c.utf8.s)

pub loop-c-preserved : goal.loop-c-preserved
loop-c-preserved c =
    fit_more c.args.s.now _ _ c.args.cols_max c.loop-c.room c.in-Some-room_after.left c.loop-c.fit.bytes_count _ c.loop-c.fit.cols_count _ c.in-Some.c c.loop-c.fit.has_tab _ c.utf8.s c.loop-c.invariant
    c.in-Some.ensures.steps.0 c.in-Some-room_after.ensures (omega (arith, c.len_utf8.ensures.value)) c.saturating_sub.ensures (sym (ap (λ b. b || (c.in-Some.c == 9)) c.if-fit.false))

pub loop-c-preserved-then-fit : goal.loop-c-preserved-then-fit
loop-c-preserved-then-fit c =
    fit_more c.args.s.now _ _ c.args.cols_max c.loop-c.room c.in-Some-room_after.left c.loop-c.fit.bytes_count _ c.loop-c.fit.cols_count _ c.in-Some.c c.loop-c.fit.has_tab _ c.utf8.s c.loop-c.invariant
    c.in-Some.ensures.steps.0 c.in-Some-room_after.ensures (omega (arith, c.len_utf8.ensures.value)) c.saturating_sub.ensures (c.if-fit.true ∙ sym (ap (λ b. b || (c.in-Some.c == 9)) c.if-fit.true))

pub returns-in_default-clause-fit : goal.returns-in_default-clause-fit
returns-in_default-clause-fit c =
    fit_before c.args.s.now _ _ c.args.cols_max c.loop-c.room c.loop-c.fit.bytes_count c.loop-c.fit.cols_count c.in-Some.c c.loop-c.fit.has_tab c.utf8.s c.loop-c.invariant c.in-Some.ensures.steps.0 c.in_default.ensures
