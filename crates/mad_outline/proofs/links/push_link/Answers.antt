use Rattle.std.proofs.Common.{ap, refl, ◌∙◌}
use Rattle.mad_md.specs.declared.composite.CompositeStyle.TheVariants.{Paragraph}
use Rattle.mad_outline.specs.LinkLists.{raw_line}
use Rattle.mad_outline.proofs.LinkLemmas.{link_put}
use Rattle.mad_outline.proofs.links.push_link.Goals as goal

pub returns : goal.returns
returns c =
    link_put c.args.lines.now.items c.push.new.self.items c.push-2.new.self.items _ c.in_ok-raw_line.field-0 c.args.before c.number_after.result _ _ c.in_ok-push.ensures.items c.in_ok-push-2.ensures.items refl c.number_after.ensures
    (c.in_ok-raw_line.ensures ∙ ap (raw_line Paragraph) c.as_str.ensures.value)
