use Rattle.std.proofs.Common.{string_bytes}
use Rattle.markdown_anchors.proofs.NameLemmas.{names_step, names_end}
use Rattle.markdown_anchors.proofs.names.heading_names.Goals as goal

pub loop-text-preserved : goal.loop-text-preserved
loop-text-preserved c =
    names_step string_bytes c.args.texts.now c.loop-text.text-index _ c.loop-text.names.items c.loop-text.before.items c.push.new.self.items c.push-in-loop-text.new.self.items _ _ _ _ _ _ _ _ c.loop-text-test.true c.loop-text.invariant
    c.in_ok-push_heading_name.ensures c.new-name.ensures.bytes c.deref.ensures c.deref-in-loop-text.ensures.value c.times-count.ensures c.deref-in-loop-text-2.ensures c.in_ok-numbered.ensures c.in_ok-push.ensures.items c.in_ok-push-2.ensures.items

pub returns : goal.returns
returns c = names_end c.args.texts.now c.loop-text.text-index _ _ _ c.loop-text-test.false c.loop-text.invariant
