use Rattle.mad_wrap.proofs.SpanLemmas.{full_here}
use Rattle.mad_wrap.proofs.spans.ended_span.Goals as goal

pub word_on_next-requires-clause-full : goal.word_on_next-requires-clause-full
word_on_next-requires-clause-full c = full_here c.args.fit _ _ _ _ c.requires.full
