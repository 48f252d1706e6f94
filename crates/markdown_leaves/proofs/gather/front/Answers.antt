use Rattle.std.proofs.Common.{rules}
use Rattle.std.proofs.lemmas.List.{take-map}
use Rattle.markdown_leaves.proofs.gather.front.Goals as goal

pub returns : goal.returns
returns c = rw take-map (search rules)
