use Rattle.std.proofs.Common.{◌≡◌, ◌++◌, length}
use Rattle.mad_mark_runs.specs.Values.{AreRising}
use Rattle.mad_link_places.specs.LinkPlaces.{rows_places}
use Rattle.mad_link_places.proofs.places.push_rows_places.Given as goal

-- what was put, and what is left, are the whole
abbrev pub invariant-rows : goal.invariant-rows
invariant-rows l = record {
  rising : AreRising 0 l.here.marks.now;
  places : l.places.items ++ rows_places l.here.marks.now l.here.before l.here.row l.so_far l.rest ≡ l.fn.places.items ++ rows_places l.fn.spot.marks.now l.fn.spot.before l.fn.spot.row l.fn.walk l.rows;
}

abbrev pub decreases-rows : goal.decreases-rows
decreases-rows l = length l.rest
