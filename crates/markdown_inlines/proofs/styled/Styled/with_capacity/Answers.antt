use Rattle.std.proofs.Common.{string_bytes}
use Rattle.markdown_inlines.proofs.StyledLemmas.{nothing}
use Rattle.markdown_inlines.proofs.styled.Styled.with_capacity.Goals as goal

pub returns-clause-nothing : goal.returns-clause-nothing
returns-clause-nothing c = nothing c.new.result.items (string_bytes c.in_ok-text.text) c.new.ensures.items
