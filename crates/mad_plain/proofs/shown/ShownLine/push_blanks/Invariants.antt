use Rattle.std.proofs.Common.{◌≡◌, ◌++◌, ◌∷◌, []}
use Rattle.std.specs.List.{repeat}
use Rattle.mad_plain.specs.Runs.{styled}
use Rattle.mad_plain.specs.Shown.{shown_so_far}
use Rattle.mad_plain.proofs.shown.ShownLine.push_blanks.Given as goal

abbrev pub invariant-loop-left : goal.invariant-loop-left
invariant-loop-left l = shown_so_far l.self ++ repeat l.left (styled l.fn.style 32 ∷ []) ≡ shown_so_far l.fn.self ++ repeat l.fn.count (styled l.fn.style 32 ∷ [])

abbrev pub decreases-loop-left : goal.decreases-loop-left
decreases-loop-left l = l.left
