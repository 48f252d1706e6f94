use Rattle.mad_pages.proofs.BesideLemmas.{rows_are}
use Rattle.mad_pages.proofs.laws.rows_are_the_page.Goals as goal

pub returns : goal.returns
returns c = rows_are
