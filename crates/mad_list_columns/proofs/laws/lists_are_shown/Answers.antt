use Rattle.mad_list_columns.specs.Shown.{AnyCode}
use Rattle.mad_list_columns.proofs.ShownLemmas.{list_shown}
use Rattle.mad_list_columns.proofs.laws.lists_are_shown.Goals as goal

pub returns : goal.returns
returns g c = λ style columns area list drawn limits known are fits. list_shown AnyCode style columns area list drawn limits known are fits
