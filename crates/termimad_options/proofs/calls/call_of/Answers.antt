use Rattle.std.proofs.Common.{◌≡◌, ◌∙◌, ap, sym, subst, map, is_some, true, List, inl}
use Rattle.std.proofs.lemmas.Result.{IfOk-weaker, IfErr-weaker}
use Rattle.clap.proofs.WalkLemmas.{both}
use Rattle.clap.specs.Words.{App, HasKind, Row, fault_of, is_simple, is_simple_and_free, matches_of, takes}
use Rattle.termimad_options.proofs.CallLemmas.{error_exit, error_of, ok_always}
use Rattle.termimad_options.proofs.RuleLemmas.{rules_are_free, rules_are_simple}
use Rattle.termimad_options.specs.Calls.{IsAskedBy, is_call, links_said}
use Rattle.termimad_options.proofs.calls.call_of.Goals as goal

pub returns-in_err-matches-clause-passes : goal.returns-in_err-matches-clause-passes
returns-in_err-matches-clause-passes g c =
    let said = map g.S.AsStr.text c.args.words.now in
    let passes = (λ (k : is_call said ≡ true). c.in_err-matches.ensures.passes (ap (λ (a : App). takes a said) c.in_ok-command.ensures ∙ (both _ _ k).0)) in
    error_exit c.from_residual-in_err-matches.result c.in_err-matches.field-0.0 _ c.from_residual-in_err-matches.ensures.1 passes

pub returns-clause-call : goal.returns-clause-call
returns-clause-call g c =
    let said = map g.S.AsStr.text c.args.words.now in
    let rows = (c.in_ok-matches.ensures.ok.2 (ap is_simple c.in_ok-command.ensures ∙ rules_are_simple)).0 ∙ ap (λ (a : App). matches_of a said) c.in_ok-command.ensures in
    IfOk-weaker c.call_in.result _ _ (λ call h. subst (λ (r : List Row). IsAskedBy r call) rows h) c.call_in.ensures.call

pub returns-clause-passes : goal.returns-clause-passes
returns-clause-passes g c =
    let said = map g.S.AsStr.text c.args.words.now in
    let rows = (c.in_ok-matches.ensures.ok.2 (ap is_simple c.in_ok-command.ensures ∙ rules_are_simple)).0 ∙ ap (λ (a : App). matches_of a said) c.in_ok-command.ensures in
    IfErr-weaker c.call_in.result _ _ (λ e h k. h (ap (λ r. is_some (links_said r)) rows ∙ (both _ _ k).1)) c.call_in.ensures.passes

pub returns-in_err-matches-clause-kinds : goal.returns-in_err-matches-clause-kinds
returns-in_err-matches-clause-kinds g c =
    let said = map g.S.AsStr.text c.args.words.now in
    let kinds = c.in_err-matches.ensures.kinds (ap is_simple_and_free c.in_ok-command.ensures ∙ rules_are_free) in
    error_exit c.from_residual-in_err-matches.result c.in_err-matches.field-0.0 _ c.from_residual-in_err-matches.ensures.1
    (inl (subst (λ (a : App). HasKind (fault_of a said) c.in_err-matches.field-0.0) c.in_ok-command.ensures kinds))

pub returns-clause-taken : goal.returns-clause-taken
returns-clause-taken g c =
    let said = map g.S.AsStr.text c.args.words.now in
    ok_always c.call_in.result _ (ap (λ (a : App). fault_of a said) (sym c.in_ok-command.ensures) ∙ c.in_ok-matches.ensures.kinds (ap is_simple_and_free c.in_ok-command.ensures ∙ rules_are_free))

pub returns-clause-kinds : goal.returns-clause-kinds
returns-clause-kinds g c =
    let said = map g.S.AsStr.text c.args.words.now in
    let rows = (c.in_ok-matches.ensures.ok.2 (ap is_simple c.in_ok-command.ensures ∙ rules_are_simple)).0 ∙ ap (λ (a : App). matches_of a said) c.in_ok-command.ensures in
    let none = ap (λ (a : App). fault_of a said) (sym c.in_ok-command.ensures) ∙ c.in_ok-matches.ensures.kinds (ap is_simple_and_free c.in_ok-command.ensures ∙ rules_are_free) in
    IfErr-weaker c.call_in.result _ _ (error_of c.in_ok-matches.matches said rows none) c.call_in.ensures.kinds
