use Rattle.mad_list_columns.proofs.PlaceLemmas.{place_filled}
use Rattle.mad_list_columns.proofs.laws.places_are_filled.Goals as goal

pub returns : goal.returns
returns c = λ place text utf8. place_filled place text utf8
