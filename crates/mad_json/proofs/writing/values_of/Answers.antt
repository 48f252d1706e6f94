use Rattle.std.proofs.Common.{◌≡◌, get_or, map, ap, ◌∙◌, arith, rules}
use Rattle.std.proofs.lemmas.List.{take_all}
use Rattle.serde_json.specs.Data.{array}
use Rattle.serde_json.specs.View.{view, items_of}
use Rattle.mad_parse.specs.Written.{tokens_text}
use Rattle.mad_json.specs.Written.{text_data}
use Rattle.mad_json.proofs.ReadingBack.{map_more, all_more, all_taken}
use Rattle.mad_json.proofs.writing.values_of.Goals as goal

pub loop-part-preserved : goal.loop-part-preserved
loop-part-preserved g c =
    let all = c.args.parts.now in
    let i = c.loop-part.part-index in
    let x = c.part-item.result in
    let is : get_or all i x ≡ x = search rules in (
      map_more view (λ x. text_data (g.P.PushStyleTokens.tokens_of_value x)) c.loop-part.values.items c.push.new.self.items all i x x c.in_ok-value.value c.loop-part-test.true is c.loop-part.invariant.0 c.in_ok-value.ensures.value (search rules),
      all_more (λ x. g.P.PushStyleTokens.reads_back x (tokens_text (g.P.PushStyleTokens.tokens_of_value x))) all i x x c.loop-part-test.true is c.loop-part.invariant.1 c.in_ok-value.ensures.reads_back,
    )

pub returns-clause-value : goal.returns-clause-value
returns-clause-value g c =
    c.array_of.ensures ∙ ap (λ ds. array (items_of ds)) (c.loop-part.invariant.0 ∙ ap (map (λ x. text_data (g.P.PushStyleTokens.tokens_of_value x))) (take_all c.loop-part.part-index c.args.parts.now (omega (arith, c.loop-part-test.false))))

pub returns-clause-reads_back : goal.returns-clause-reads_back
returns-clause-reads_back g c = all_taken (λ x. g.P.PushStyleTokens.reads_back x (tokens_text (g.P.PushStyleTokens.tokens_of_value x))) c.args.parts.now c.loop-part.part-index (omega (arith, c.loop-part-test.false)) c.loop-part.invariant.1
