use Rattle.std.proofs.Common.{subst, sym}
use Rattle.mad_measure.specs.Tokens.{AreTokensOf}
use Rattle.mad_measure.specs.TokensLeft.{AreTokensLeft}
use Rattle.mad_measure.proofs.CursorLemmas.{all_read}
use Rattle.mad_measure.proofs.UniqueLemmas.{all_unique}
use Rattle.mad_measure.proofs.cutting.tokenize.Goals as goal

pub returns-clause-tokens : goal.returns-clause-tokens
returns-clause-tokens c =
    let left = all_read c.loop-token.yielded _ _ c.loop-token.yielded_by c.in-None.ensures.steps.0 in
    let gives = c.into_iter-token-iterator.ensures.into_iter_gives in
    subst (AreTokensOf c.args.max c.args.compounds.now) (sym c.loop-token.invariant) (c.token_iter-token-items.ensures.tokens _ (subst (λ s. AreTokensLeft s c.loop-token.yielded) gives left))

pub returns-clause-only : goal.returns-clause-only
returns-clause-only c others h =
    let left = all_read c.loop-token.yielded _ _ c.loop-token.yielded_by c.in-None.ensures.steps.0 in
    let gives = c.into_iter-token-iterator.ensures.into_iter_gives in
    all_unique _ _ _ _ h (subst (AreTokensOf c.args.max c.args.compounds.now) (sym c.loop-token.invariant) (c.token_iter-token-items.ensures.tokens _ (subst (λ s. AreTokensLeft s c.loop-token.yielded) gives left)))
