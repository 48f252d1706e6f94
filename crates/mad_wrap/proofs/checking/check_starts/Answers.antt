use Rattle.std.proofs.Common.{◌≡◌, true, rules, sym, ap, ◌∙◌, subst}
use Rattle.mad_measure.specs.Tokens.{AreTokensOf}
use Rattle.mad_measure.proofs.UniqueLemmas.{all_unique}
use Rattle.mad_wrap.specs.Bounds.{are_starts}
use Rattle.mad_wrap.specs.LeastWrap.{AreTokensIn}
use Rattle.mad_wrap.proofs.BoundLemmas.{bound}
use Rattle.mad_wrap.proofs.checking.check_starts.Goals as goal

-- what was read are the tokens of the compounds
tokens_are : (c : goal.After-check) → AreTokensIn c.args.room c.args.compounds.now c.check.ensures.0
tokens_are c = subst (λ n. AreTokensOf n c.args.compounds.now c.check.ensures.0) c.token_limit.ensures (c.token_iter-tokens.ensures.tokens c.check.ensures.0 c.check.ensures.1)

exact : (c : goal.After-check) (ts : _) → AreTokensIn c.args.room c.args.compounds.now ts → c.check.result ≡ are_starts c.args.room ts c.args.starts.now
exact c ts tokens = c.check.ensures.2 ∙ ap (λ us. are_starts c.args.room us c.args.starts.now) (all_unique _ _ _ ts (tokens_are c) tokens)

pub returns-clause-exact : goal.returns-clause-exact
returns-clause-exact c ts tokens = exact c ts tokens

pub returns-clause-bound : goal.returns-clause-bound
returns-clause-bound c on ts tokens breaks fitting =
    let is_true : c.check.result ≡ true = search rules in
    bound c.args.room ts c.args.starts.now (sym (exact c ts tokens) ∙ is_true) breaks fitting

pub returns-clause-tokenized : goal.returns-clause-tokenized
returns-clause-tokenized c = record { tokens = c.check.ensures.0; cut = tokens_are c; only = λ ts others. all_unique _ _ ts c.check.ensures.0 others (tokens_are c) }
