use Rattle.std.proofs.Common.{take}
use Rattle.mad_live.specs.StyledRows.{IsStyling}
use Rattle.mad_live.proofs.styling.growth_in_style.Given as goal

abbrev pub invariant-loop-i : goal.invariant-loop-i
invariant-loop-i l = IsStyling (take l.i l.front) l.styling
