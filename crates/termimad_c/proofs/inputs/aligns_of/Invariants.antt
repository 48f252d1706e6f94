use Rattle.std.proofs.Common.{◌≡◌, ℕ, List, map, take, length}
use Rattle.termimad_c.specs.Inputs.{AreAligned}
use Rattle.termimad_c.proofs.Alignments.{next_align}
use Rattle.termimad_c.proofs.inputs.aligns_of.Given as goal

-- the alignments of the numbers so far
abbrev pub invariant-loop-number : goal.invariant-loop-number
invariant-loop-number l = AreAligned (take l.number-index l.fn.numbers) l.aligns.items
