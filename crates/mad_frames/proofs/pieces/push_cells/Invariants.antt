use Rattle.std.proofs.Common.{length, ◌-◌, ◌≡◌, ◌≤◌, ◌<◌, ◌+◌, true, false, string_bytes, get_or, take, drop}
use Rattle.mad_screen.specs.Grid.{blank}
use Rattle.mad_screen.specs.Pictures.{same_look}
use Rattle.mad_frames.specs.RunBytes.{pen_before, pieces_to}
use Rattle.mad_frames.specs.Changes.{AddsPaint}
use Rattle.mad_frames.specs.Whole.{are_whole}
use Rattle.mad_frames.proofs.pieces.push_cells.Given as goal

abbrev pub invariant-loop-from : goal.invariant-loop-from
invariant-loop-from l = record {
  within : l.from ≤ length l.cells;
  done : AddsPaint (string_bytes l.fn.out) (take l.from l.cells) (string_bytes l.out);
  rest : are_whole (drop l.from l.cells) ≡ true;
  bytes : length (string_bytes l.out) ≤ length (string_bytes l.fn.out) + pieces_to l.cells l.from;
  other : l.from < length l.cells → 0 < l.from → same_look (get_or l.cells l.from blank).pen (pen_before l.cells l.from) ≡ false;
}

abbrev pub decreases-loop-from : goal.decreases-loop-from
decreases-loop-from l = length l.cells - l.from
