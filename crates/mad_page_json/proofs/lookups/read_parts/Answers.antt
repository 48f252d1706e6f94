use Rattle.std.proofs.Common.{[], map, ◌∙◌, arith, rules}
use Rattle.serde_json.specs.View.{view}
use Rattle.mad_json.specs.Faults.{TellsSkin}
use Rattle.mad_page_json.specs.Lookups.{parts_under}
use Rattle.mad_page_json.specs.Named.{named_said}
use Rattle.mad_page_json.proofs.LoopLemmas.{read_all, read_next, read_refused}
use Rattle.mad_page_json.proofs.lookups.read_parts.Goals as goal

pub loop-named-preserved : goal.loop-named-preserved
loop-named-preserved g c =
    read_next g.S.FromTokens.of_tokens (view c.args.value.now) c.args.parts.now c.loop-named.named-index c.named-item.result c.loop-named.read.items c.push_part.new.read.items c.in_ok-part.part c.loop-named-test.true c.named-item.is c.in_ok-part.ensures.ok c.in_ok-push_part.ensures ∙ c.loop-named.invariant

pub returns-in_err-part-clause-err : goal.returns-in_err-part-clause-err
returns-in_err-part-clause-err g c =
    let told : TellsSkin c.in_err-part.field-0.0 (parts_under g.S.FromTokens.of_tokens (view c.args.value.now) (map named_said c.args.parts.now) []) =
    read_refused g.S.FromTokens.of_tokens (view c.args.value.now) c.args.parts.now c.loop-named.named-index c.named-item.result c.loop-named.read.items c.in_err-part.field-0.0 c.loop-named-test.true c.named-item.is c.in_err-part.ensures.err c.loop-named.invariant in
    search rules

pub returns-clause-ok : goal.returns-clause-ok
returns-clause-ok g c = read_all g.S.FromTokens.of_tokens (view c.args.value.now) c.args.parts.now c.loop-named.named-index c.loop-named.read.items (omega (arith, c.loop-named-test.false)) c.loop-named.invariant
