use Rattle.std.proofs.Common.{List, ℕ, arith, ap, find, length, reverse}
use Rattle.std.specs.Prelude.{nat_le}
use Rattle.std.proofs.lemmas.List.{take_all}
use Rattle.mad_patterns.proofs.breaks.part_start.Goals as goal

pub last_start-requires-clause-found : goal.last_start-requires-clause-found
last_start-requires-clause-found c = ap (λ (l : List ℕ). find (λ start. nat_le start c.args.row) (reverse l)) (take_all (length c.args.starts.now) c.args.starts.now (omega arith))
