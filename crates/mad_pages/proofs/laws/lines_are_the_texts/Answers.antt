use Rattle.mad_pages.proofs.BesideLemmas.{lines_are_the_texts}
use Rattle.mad_pages.proofs.laws.lines_are_the_texts.Goals as goal

pub returns : goal.returns
returns c = lines_are_the_texts
