use Rattle.std.proofs.Common.{◌≡◌}
use Rattle.std.specs.List.{filter, range_with_len}
use Rattle.markdown_emphasis.specs.Pieces.{is_run}
use Rattle.markdown_emphasis.proofs.pieces.places_of.Given as goal

abbrev pub invariant-loop-place : goal.invariant-loop-place
invariant-loop-place l = l.places.items ≡ filter (is_run l.pieces) (range_with_len 0 l.place)
