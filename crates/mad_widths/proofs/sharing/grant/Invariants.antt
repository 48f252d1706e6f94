use Rattle.std.proofs.Common.{◌≡◌, drop, map}
use Rattle.mad_widths.specs.Turns.{turn_of}
use Rattle.mad_widths.proofs.Granted.{granted, left_after}
use Rattle.mad_widths.proofs.sharing.grant.Given as goal

-- what the turns from here on do to what there is now, all turns do to what there was
abbrev pub invariant-loop-column : goal.invariant-loop-column
invariant-loop-column l = record {
  requests : granted l.requests l.left (map turn_of (drop l.column-index l.turns)) ≡ granted l.fn.requests l.excess (map turn_of l.turns);
  left : left_after l.requests l.left (map turn_of (drop l.column-index l.turns)) ≡ left_after l.fn.requests l.excess (map turn_of l.turns);
}
