use Rattle.mad_pages.proofs.WholeLemmas.{lists_are_needed}
use Rattle.mad_pages.proofs.laws.lists_are_needed.Goals as goal

pub returns : goal.returns
returns c = lists_are_needed
