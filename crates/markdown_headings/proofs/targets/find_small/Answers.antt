use Rattle.std.proofs.Common.{◌∙◌, ap, map}
use Rattle.markdown_headings.specs.HeadingsSaid.{name_said}
use Rattle.markdown_headings.specs.Targets.{first_named}
use Rattle.markdown_headings.proofs.targets.find_small.Goals as goal

pub returns : goal.returns
returns c = c.find_name.ensures ∙ ap (first_named (map name_said c.args.headings.now)) (c.as_str.ensures.value ∙ c.in_ok-small.ensures.value)
