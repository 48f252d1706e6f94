use Rattle.std.proofs.Common.{◌-◌, ◌≤◌, length}
use Rattle.mad_steady.specs.Plain.{ArePlain}
use Rattle.mad_steady.proofs.steady_text.plain_len.Given as goal

abbrev pub invariant-loop-at : goal.invariant-loop-at
invariant-loop-at l = record { plain : ArePlain l.bytes l.at; inside : l.at ≤ length l.bytes }

abbrev pub decreases-loop-at : goal.decreases-loop-at
decreases-loop-at l = length l.bytes - l.at
