use Rattle.mad_md.proofs.TypedLemmas.{read_lines_are_typed}
use Rattle.mad_md.proofs.laws.typed_lines.Goals as goal

pub returns : goal.returns
returns c = read_lines_are_typed
