use Rattle.std.proofs.Common.{◌≡◌, ◌≤◌, ◌++◌, ◌-◌, drop, length}
use Rattle.std.specs.Option.{option_or}
use Rattle.termimad_options.specs.Places.{place_said, words_left}
use Rattle.termimad_options.proofs.places.part_places.Given as goal

abbrev pub invariant-loop-at : goal.invariant-loop-at
invariant-loop-at l = record {
  left : l.kept.items ++ words_left (drop l.at l.words) ≡ words_left l.words;
  said : option_or (place_said (drop l.at l.words)) l.place ≡ place_said l.words;
  within : l.at ≤ length l.words;
}

abbrev pub decreases-loop-at : goal.decreases-loop-at
decreases-loop-at l = length l.words - l.at
