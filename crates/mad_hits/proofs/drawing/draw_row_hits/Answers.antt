use Rattle.std.proofs.Common.{ℕ, ◌+◌, ◌-◌, [], Ok, arith, refl}
use Rattle.regex.specs.Strings.{regex_pattern}
use Rattle.std.specs.List.{range_with_len}
use Rattle.mad_hits.proofs.TookLemmas.{took_in_turn, took_nothing}
use Rattle.mad_hits.specs.FrontHits.{AreRowsMarked, IsRowMarked}
use Rattle.mad_hits.proofs.FrontHitLemmas.{row_more}
use Rattle.mad_hits.proofs.WrittenHits.{counted, row_before, row_refused, rows_to_come}
use Rattle.mad_hits.proofs.drawing.draw_row_hits.Goals as goal

pub rows-init : goal.rows-init
rows-init g c = record {
  within = omega arith;
  writes = λ r new row n at left h.
      rows_to_come r c.args.skin.now c.args.style c.args.room (regex_pattern c.args.sought.now) c.args.lines.now c.args.fronts.now c.args.starts.now 0 c.args.top row n _ _ new refl at left h;
  marked = took_nothing (g.O.Out.seen c.args.out.now) (AreRowsMarked c.args.skin.now c.args.style c.args.room (regex_pattern c.args.sought.now) c.args.lines.now c.args.fronts.now c.args.starts.now 0 []) refl;
}

pub rows-preserved : goal.rows-preserved
rows-preserved g c =
    let skin = c.args.skin.now in
    let y = c.rows.y in
    let row : ℕ = c.args.top + c.from-in-rows-2.result in
    record {
      within = omega (arith, c.from-in-rows.ensures);
      writes = λ r new after_it n at left h.
          c.rows.invariant.writes r new row (n + 1) (omega (arith, c.from-in-rows-2.ensures)) (omega (arith, left))
          (row_before r c.in_ok-draw_row.field-0 skin c.args.style c.args.room (regex_pattern c.args.sought.now) c.args.lines.now c.args.fronts.now c.args.starts.now y row after_it n _ _ new (omega (arith, at, c.from-in-rows-2.ensures)) c.in_ok-draw_row.ensures.writes h);
      marked =
          took_in_turn (g.O.Out.seen c.args.out.now) (g.O.Out.seen c.rows.out) (g.O.Out.seen c.draw_row.new.out)
          (AreRowsMarked skin c.args.style c.args.room (regex_pattern c.args.sought.now) c.args.lines.now c.args.fronts.now c.args.starts.now 0 (range_with_len c.args.top y))
          (IsRowMarked skin c.args.style c.args.room (regex_pattern c.args.sought.now) c.args.lines.now c.args.fronts.now c.args.starts.now y row)
          (AreRowsMarked skin c.args.style c.args.room (regex_pattern c.args.sought.now) c.args.lines.now c.args.fronts.now c.args.starts.now 0 (range_with_len c.args.top (y + 1)))
          (λ a b so here. row_more skin c.args.style c.args.room (regex_pattern c.args.sought.now) c.args.lines.now c.args.fronts.now c.args.starts.now c.args.top y row a b (omega (arith, c.from-in-rows-2.ensures)) so here)
          c.rows.invariant.marked c.in_ok-draw_row.ensures.shown;
    }

pub returns-in_err-draw_row-clause-writes : goal.returns-in_err-draw_row-clause-writes
returns-in_err-draw_row-clause-writes g c =
    let count : ℕ = c.min-count.result in
    let row : ℕ = c.args.top + c.from-in-rows-2.result in
    let n : ℕ = count - (c.rows.y + 1) in
    counted _ c.args.skin.now c.args.style c.args.room (regex_pattern c.args.sought.now) c.args.lines.now c.args.fronts.now c.args.starts.now 0 c.args.top count _ (g.O.Out.seen c.args.out.now) _ (omega (arith, c.min-count.ensures, c.from.ensures, c.saturating_sub.ensures))
    (c.rows.invariant.writes _ _ row (n + 1) (omega (arith, c.from-in-rows-2.ensures)) (omega (arith, c.from-in-rows.ensures))
    (row_refused _ c.in_err-draw_row.field-0.0 c.args.skin.now c.args.style c.args.room (regex_pattern c.args.sought.now) c.args.lines.now c.args.fronts.now c.args.starts.now c.rows.y row n _ _ c.from_residual.ensures.1 c.in_err-draw_row.ensures.writes))

pub returns-clause-writes : goal.returns-clause-writes
returns-clause-writes g c =
    let count : ℕ = c.min-count.result in
    let now = g.O.Out.seen c.rows.out in
    counted (Ok tt) c.args.skin.now c.args.style c.args.room (regex_pattern c.args.sought.now) c.args.lines.now c.args.fronts.now c.args.starts.now 0 c.args.top count _ (g.O.Out.seen c.args.out.now) now (omega (arith, c.min-count.ensures, c.from.ensures, c.saturating_sub.ensures))
    (c.rows.invariant.writes (Ok tt) now (c.args.top + c.rows.y) 0 refl (omega (arith, c.from-in-rows.ensures)) (refl, refl))
