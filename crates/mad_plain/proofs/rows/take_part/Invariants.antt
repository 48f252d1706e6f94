use Rattle.std.proofs.Common.{◌≡◌, ◌++◌, ◌-◌, length, take, drop}
use Rattle.mad_plain.specs.Shown.{shown_so_far, rest_of}
use Rattle.mad_plain.proofs.rows.take_part.Given as goal

abbrev pub invariant-loop-at : goal.invariant-loop-at
invariant-loop-at l = record {
  part : shown_so_far l.shown ++ take (l.fn.count - l.at) (rest_of l.rest) ≡ take l.fn.count (rest_of l.fn.rest);
  left : drop (l.fn.count - l.at) (rest_of l.rest) ≡ drop l.fn.count (rest_of l.fn.rest);
}

abbrev pub decreases-loop-at : goal.decreases-loop-at
decreases-loop-at l = length l.rest.text.now
