use Rattle.mad_input.proofs.CountLemmas.{sizes_counted}
use Rattle.mad_input.proofs.laws.sizes_are_answers.Goals as goal

pub returns : goal.returns
returns c = sizes_counted
