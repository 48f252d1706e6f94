use Rattle.std.proofs.Common.{refl}
use Rattle.markdown_emphasis.proofs.laws.rules_are_followed.Goals as goal

pub returns : goal.returns
returns c = record {
  threes = refl;
  both_threes = refl;
  fewest = refl;
  strong_inside = refl;
  first_wins = refl;
  shorter_wins = refl;
  same_tildes = refl;
  few_tildes = refl;
}
