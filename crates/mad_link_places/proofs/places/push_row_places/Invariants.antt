use Rattle.std.proofs.Common.{◌≡◌, ◌++◌, length}
use Rattle.mad_link_places.specs.LinkPlaces.{row_places, row_walked}
use Rattle.mad_link_places.proofs.places.push_row_places.Given as goal

-- what was put, and what is left, are the whole
abbrev pub invariant-compounds : goal.invariant-compounds
invariant-compounds l = record {
  places : l.places.items ++ row_places l.fn.spot.marks.now l.fn.spot.before l.fn.spot.row l.fn.kind l.walk l.rest ≡ l.fn.places.items ++ row_places l.fn.spot.marks.now l.fn.spot.before l.fn.spot.row l.fn.kind l.fn.walk l.compounds;
  walk : row_walked l.fn.spot.marks.now l.fn.kind l.walk l.rest ≡ row_walked l.fn.spot.marks.now l.fn.kind l.fn.walk l.compounds;
}

abbrev pub decreases-compounds : goal.decreases-compounds
decreases-compounds l = length l.rest
