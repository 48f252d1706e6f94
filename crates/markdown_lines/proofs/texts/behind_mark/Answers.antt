use Rattle.std.proofs.Common.{ap, ◌∙◌}
use Rattle.markdown_lines.proofs.MarkLemmas.{stripped_mark}
use Rattle.markdown_lines.proofs.texts.behind_mark.Goals as goal

pub returns : goal.returns
returns c = ap (λ x. x.now) c.unwrap_or.ensures ∙ stripped_mark c.args.text c.strip_prefix.result c.strip_prefix.ensures.cases
