use Rattle.mad_measure.proofs.KeptCellLemmas.{cells_kept}
use Rattle.mad_measure.proofs.KeptFormLemmas.{forms_kept, tabs_stay_code, line_by_line}
use Rattle.mad_measure.proofs.untrusted.printable_lines_keep_their_form.Goals as goal

pub returns : goal.returns
returns c = record { lines = line_by_line; form = forms_kept; tab = tabs_stay_code; cells = cells_kept }
