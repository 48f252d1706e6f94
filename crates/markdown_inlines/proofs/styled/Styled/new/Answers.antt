use Rattle.std.proofs.Common.{string_bytes}
use Rattle.markdown_inlines.proofs.StyledLemmas.{nothing}
use Rattle.markdown_inlines.proofs.styled.Styled.new.Goals as goal

pub returns-clause-nothing : goal.returns-clause-nothing
returns-clause-nothing c = nothing c.new-2.result.items (string_bytes c.new.result) c.new-2.ensures.items
