use Rattle.std.proofs.Common.{length, ap, ◌∙◌}
use Rattle.markdown_inlines.specs.Tags.{tagged}
use Rattle.markdown_inlines.proofs.LinkLemmas.{overs_length}
use Rattle.markdown_inlines.proofs.TagLemmas.{all_length}
use Rattle.markdown_inlines.proofs.inlines.all_over.Goals as goal

pub tagged-requires : goal.tagged-requires
tagged-requires c = ap length (c.deref.ensures.value ∙ c.in_ok-overs.ensures) ∙ overs_length 0 0 c.args.pieces.now

pub returns-clause-over : goal.returns-clause-over
returns-clause-over c = c.in_ok-all.ensures ∙ ap (tagged c.args.pieces.now) (c.deref.ensures.value ∙ c.in_ok-overs.ensures)

pub returns-clause-size : goal.returns-clause-size
returns-clause-size c = ap length (c.in_ok-all.ensures ∙ ap (tagged c.args.pieces.now) (c.deref.ensures.value ∙ c.in_ok-overs.ensures)) ∙ all_length c.args.pieces.now
