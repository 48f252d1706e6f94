use Rattle.std.proofs.Common.{◌≡◌, ◌+◌, length}
use Rattle.mad_link_places.specs.LinkPlaces.{rows_count}
use Rattle.mad_link_places.proofs.places.rows_count.Given as goal

-- what is counted, and what is left, are the whole
abbrev pub invariant-rows : goal.invariant-rows
invariant-rows l = l.count + rows_count l.rest ≡ rows_count l.rows

abbrev pub decreases-rows : goal.decreases-rows
decreases-rows l = length l.rest
