use Rattle.mad_wrap.proofs.LawLemmas.{starts_count}
use Rattle.mad_wrap.proofs.laws.starts_count_lines.Goals as goal

pub returns : goal.returns
returns c = starts_count
