use Rattle.std.proofs.Common.{rules}
use Rattle.mad_plain.proofs.TextLemmas.{cut_more}
use Rattle.mad_plain.proofs.texts.text_lines.Goals as goal

pub loop-rest-preserved : goal.loop-rest-preserved
loop-rest-preserved c = record {
  text = search rules;
  so_far = cut_more c.loop-rest.rest.now _ _ _ _ _ c.without_return.result (search rules) c.cut_part.ensures.part c.cut_part.ensures.after c.in_ok-push.ensures.items c.without_return.ensures c.loop-rest.invariant.so_far;
}
