use Rattle.std.proofs.Common.{◌∙◌}
use Rattle.markdown_anchors.proofs.NameLemmas.{three_left}
use Rattle.markdown_anchors.proofs.names.push_char.Goals as goal

pub returns : goal.returns
returns c =
    three_left _ _ _ _ c.next-first.result c.next-second.result c.next-third.result c.to_lowercase-small.result _ c.in_ok-push_left.ensures c.in_ok-push_left-2.ensures c.in_ok-push_left-3.ensures
    c.next-first.ensures.steps.0
    (c.next-second.ensures.steps.0 ∙ c.next-first.ensures.steps.1)
    (c.next-third.ensures.steps.0 ∙ c.next-second.ensures.steps.1 ∙ c.next-first.ensures.steps.2)
    c.to_lowercase-small.ensures.value
