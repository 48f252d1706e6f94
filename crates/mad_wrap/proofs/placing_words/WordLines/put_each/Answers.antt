use Rattle.mad_wrap.proofs.WordLineLemmas.{puts_next}
use Rattle.mad_wrap.proofs.placing_words.WordLines.put_each.Goals as goal

pub loop-token-preserved : goal.loop-token-preserved
loop-token-preserved c = puts_next _ c.loop-token.self _ _ _ _ c.loop-token-test.true c.loop-token.invariant c.in_ok-put_word.ensures
