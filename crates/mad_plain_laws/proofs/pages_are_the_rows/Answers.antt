use Rattle.mad_plain_laws.proofs.PageLemmas.{pages_are_the_rows}
use Rattle.mad_plain_laws.proofs.pages_are_the_rows.Goals as goal

pub returns : goal.returns
returns c = pages_are_the_rows
