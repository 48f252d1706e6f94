use Rattle.std.proofs.Common.{◌≡◌, map}
use Rattle.std.specs.List.{filter, range_with_len}
use Rattle.markdown_emphasis.specs.Pieces.{is_run, run_of_piece}
use Rattle.markdown_emphasis.proofs.pieces.runs_of.Given as goal

abbrev pub invariant-loop-place : goal.invariant-loop-place
invariant-loop-place l = l.runs.items ≡ map (run_of_piece l.pieces) (filter (is_run l.pieces) (range_with_len 0 l.place))
