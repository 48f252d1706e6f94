use Rattle.std.proofs.Common.{ℕ, ◌++◌, List, ap, ◌∙◌, arith}
use Rattle.markdown_spans.specs.Decoded.{decoded_from}
use Rattle.markdown_spans.proofs.DecodedLemmas.{decoded_next, after_first_byte}
use Rattle.markdown_spans.proofs.decoded.decoded.Goals as goal

pub loop-rest-preserved : goal.loop-rest-preserved
loop-rest-preserved c =
    ap (λ (l : List ℕ). c.push_part.new.out.items ++ decoded_from c.args.escapes 0 l) c.bytes_from-rest.ensures
    ∙ decoded_next c.args.escapes c.loop-rest.rest.now _ c.loop-rest.out.items c.push_part.new.out.items _ c.in_ok-more.more (omega (arith, c.in-len1-up.len_at_least)) (after_first_byte c.loop-rest.rest.now) c.loop-rest.invariant c.in_ok-more.ensures.pushed c.in_ok-more.ensures.more
