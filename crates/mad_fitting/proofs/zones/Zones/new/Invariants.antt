use Rattle.std.proofs.Common.{drop}
use Rattle.mad_fitting.proofs.ZoneLemmas.{ZonesBefore}
use Rattle.mad_fitting.proofs.zones.Zones.new.Given as goal

abbrev pub invariant-loop-number : goal.invariant-loop-number
invariant-loop-number l = ZonesBefore l.number l.compounds (drop l.number l.compounds) l.runs.items
