use Rattle.std.proofs.Common.{drop, map, take, Result}
use Rattle.mad_term.specs.Draws.{Draws}
use Rattle.mad_term.specs.Trace.{Trace, TookWith}
use Rattle.mad_term.specs.declared.errors.Error.{Error}
use Rattle.mad_hits.specs.Drawn.{AreHitsShown, hits_bytes}
use Rattle.mad_hits.specs.Hits.{marked_of}
use Rattle.mad_hits.specs.FrontHits.{hit_behind}
use Rattle.mad_hits.proofs.drawing.draw_each.Given as goal

-- what is done and what is done of the hits from here on is what is done of all; the hits so far were drawn
abbrev pub invariant-loop-hit : goal.invariant-loop-hit
invariant-loop-hit g l = record {
  writes : (r : Result (Unit {0}) Error) (new : Trace) → Draws (g.O.Out.seen l.out) (hits_bytes l.width l.y (map (hit_behind l.style l.front) (map marked_of (drop l.hit-index l.hits)))) r new
      → Draws (g.O.Out.seen l.fn.out) (hits_bytes l.width l.y (map (hit_behind l.style l.front) (map marked_of l.hits))) r new;
  shown : TookWith (g.O.Out.seen l.fn.out) (g.O.Out.seen l.out) (AreHitsShown l.width l.y (map (hit_behind l.style l.front) (map marked_of (take l.hit-index l.hits))));
}
