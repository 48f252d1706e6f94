use Rattle.mad_patterns.proofs.LawLemmas.{text_is_found_as_it_stands}
use Rattle.mad_patterns.proofs.laws.text_is_found_as_it_stands.Goals as goal

pub returns : goal.returns
returns c = text_is_found_as_it_stands
