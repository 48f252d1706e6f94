use Rattle.markdown_sign_laws.proofs.laws.headings_are_said.Goals as goal
use Rattle.markdown_sign_laws.proofs.HeadingLemmas.{headings_said}

pub returns : goal.returns
returns c = headings_said
