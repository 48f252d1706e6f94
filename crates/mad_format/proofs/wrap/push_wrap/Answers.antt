use Rattle.mad_format.proofs.WrapLemmas.{then_ok}
use Rattle.mad_format.proofs.wrap.push_wrap.Goals as goal

pub returns : goal.returns
returns c =
    let made = c.in_ok-wrap in
    then_ok _ _ c.push_wrapped.result (λ put. (made.wrap.items, made.ensures.wrapped, made.ensures.counted, put)) c.push_wrapped.ensures
