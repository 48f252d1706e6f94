use Rattle.mad_fitting.specs.Zones.{AreZones, runs_of}
use Rattle.test_drawing.proofs.fits.zones.Given as goal

abbrev pub invariant-loop-cut : goal.invariant-loop-cut
invariant-loop-cut l = AreZones 0 l.compounds.items (runs_of l.zones)
