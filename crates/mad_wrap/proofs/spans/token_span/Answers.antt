use Rattle.std.proofs.Common.{refl}
use Rattle.mad_wrap.proofs.SpanLemmas.{one_token}
use Rattle.mad_wrap.proofs.spans.token_span.Goals as goal

pub returns : goal.returns
returns c = one_token _ _ _ _ _ c.quick_token_at-token.result c.quick_token_at-token.ensures refl c.put-put.ensures
