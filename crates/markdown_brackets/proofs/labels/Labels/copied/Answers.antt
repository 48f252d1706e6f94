use Rattle.std.proofs.Common.{◌∙◌}
use Rattle.markdown_brackets.proofs.CopyLemmas.{same_labels, same_numbered}
use Rattle.markdown_brackets.proofs.labels.Labels.copied.Goals as goal

pub invariant_of-result : goal.invariant_of-result
invariant_of-result c = same_numbered c.self.inside.numbers.entries c.in_ok-numbers.numbers.entries c.in_ok-numbers.ensures.cases c.self.invariant

pub returns : goal.returns
returns c = same_labels c.self.inside.numbers.entries c.in_ok-numbers.numbers.entries c.in_ok-numbers.ensures.cases ∙ c.self.view_is
