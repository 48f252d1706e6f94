use Rattle.std.proofs.Common.{ap, sym, ◌∙◌, arith}
use Rattle.serde_json.specs.Data.{put}
use Rattle.serde_json.specs.View.{members_view}
use Rattle.mad_parse.specs.Written.{tokens_text}
use Rattle.mad_json.specs.Written.{text_data}
use Rattle.mad_json.proofs.ReadingBack.{all_more, all_taken}
use Rattle.mad_page_json.proofs.LoopLemmas.{put_next}
use Rattle.mad_page_json.proofs.writing.put_parts.Goals as goal

pub loop-named-preserved : goal.loop-named-preserved
loop-named-preserved g c =
    let all = c.args.parts.now in
    let i = c.loop-named.named-index in
    let x = c.named-item.result in
    record {
      so_far = put_next (λ part. text_data (g.P.PushStyleTokens.tokens_of_value part)) all i x (members_view c.loop-named.members.entries) (members_view c.put.new.map.entries) c.loop-named-test.true c.named-item.is
          (c.in_ok-put.ensures.ok ∙ ap (λ value. put x.key.now value (members_view c.loop-named.members.entries)) c.in_ok-value.ensures.value) ∙ c.loop-named.invariant.so_far;
      back = all_more (λ named. g.P.PushStyleTokens.reads_back named.part (tokens_text (g.P.PushStyleTokens.tokens_of_value named.part))) all i x x c.loop-named-test.true (sym c.named-item.is) c.loop-named.invariant.back c.in_ok-value.ensures.reads_back;
    }

pub returns-clause-reads_back : goal.returns-clause-reads_back
returns-clause-reads_back g c = all_taken (λ named. g.P.PushStyleTokens.reads_back named.part (tokens_text (g.P.PushStyleTokens.tokens_of_value named.part))) c.args.parts.now c.loop-named.named-index (omega (arith, c.loop-named-test.false)) c.loop-named.invariant.back
