use Rattle.mad_wrap.proofs.WordLineLemmas.{takes_next}
use Rattle.mad_wrap.proofs.placing_words.add_tokens.Goals as goal

pub loop-token-preserved : goal.loop-token-preserved
loop-token-preserved c =
    let part = c.to_compound.ensures in
    let added = c.in_ok-add.ensures in
    takes_next _ c.loop-token.line _ _ _ _ c.loop-token-test.true c.loop-token.invariant (record { compound = c.to_compound.result; bytes = part.text; flags = part.flags; text = added.text; columns = added.columns })
