use Rattle.std.proofs.Common.{◌≡◌, [], ◌∷◌, ◌++◌, ap, arith, rules}
use Rattle.std.proofs.lemmas.Grind.{common_steps}
use Rattle.serde_json.specs.View.{items_view}
use Rattle.mad_json.specs.Faults.{TellsValue}
use Rattle.mad_json.specs.Lists.{items_said}
use Rattle.mad_json.proofs.ItemLemmas.{items_more, items_refused, items_all}
use Rattle.mad_json.proofs.lists.read_styles.Goals as goal

pub loop-item-init : goal.loop-item-init
loop-item-init g c = ap (items_said g.S.FromTokens.of_tokens (items_view c.deref-item-items.result.now)) c.new-styles.ensures.items

pub loop-item-preserved : goal.loop-item-preserved
loop-item-preserved g c =
    let pushed : c.push.new.self.items ≡ c.loop-item.styles.items ++ c.in_ok-style.style ∷ [] = grind (arith, common_steps) in
    items_more g.S.FromTokens.of_tokens c.deref-item-items.result.now c.loop-item.item-index c.item-item.result c.loop-item.styles.items c.push.new.self.items c.in_ok-style.style _ c.loop-item-test.true c.item-item.is c.loop-item.invariant c.in_ok-style.ensures.ok pushed

pub returns-in_err-style-clause-err : goal.returns-in_err-style-clause-err
returns-in_err-style-clause-err g c =
    let told : TellsValue c.in_err-style.field-0.0 (items_said g.S.FromTokens.of_tokens (items_view c.deref-item-items.result.now) []) =
    items_refused g.S.FromTokens.of_tokens c.deref-item-items.result.now c.loop-item.item-index c.item-item.result c.loop-item.styles.items c.in_err-style.field-0.0 _ c.loop-item-test.true c.item-item.is c.loop-item.invariant c.in_err-style.ensures.err in
    let there = rw c.deref-item-items.ensures.value at told in
    search rules

pub returns : goal.returns
returns g c = record {
  ok = items_all g.S.FromTokens.of_tokens c.deref-item-items.result.now c.args.items.now.items c.loop-item.item-index c.loop-item.styles.items c.loop-item-test.false c.deref-item-items.ensures.value c.loop-item.invariant;
  err = tt;
}
