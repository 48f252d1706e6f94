use Rattle.std.proofs.Common.{◌∙◌, sym}
use Rattle.markdown_headings.proofs.TargetLemmas.{named_at}
use Rattle.markdown_headings.proofs.targets.find_name.Goals as goal

pub returns : goal.returns
returns c = c.find_heading.ensures ∙ sym (named_at c.args.headings.now c.args.name.now)
