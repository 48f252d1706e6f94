use Rattle.mad_draw.proofs.AreaLemmas.{DrawnSoFar}
use Rattle.mad_draw.proofs.rows_in_area.draw_rows.Given as goal

abbrev pub invariant-loop-y : goal.invariant-loop-y
invariant-loop-y g l = DrawnSoFar (g.R.Rows.pieces l.rows) l.area l.y (g.O.Out.seen l.fn.out) (g.O.Out.seen l.out)
