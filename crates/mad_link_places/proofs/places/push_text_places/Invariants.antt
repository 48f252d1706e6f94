use Rattle.std.proofs.Common.{◌≡◌, ◌++◌}
use Rattle.mad_link_places.specs.LinkPlaces.{text_places, text_walked}
use Rattle.mad_link_places.proofs.places.push_text_places.Given as goal

-- the characters so far
abbrev pub invariant-loop-c : goal.invariant-loop-c
invariant-loop-c l = record {
  places : l.places.items ≡ l.fn.places.items ++ text_places l.fn.spot.marks.now l.fn.spot.before l.fn.spot.row l.fn.linked l.fn.walk l.yielded;
  walk : l.walk ≡ text_walked l.fn.spot.marks.now l.fn.linked l.fn.walk l.yielded;
}
