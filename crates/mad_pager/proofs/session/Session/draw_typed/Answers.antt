use Rattle.std.proofs.Common.{refl, sym, subst, arith}
use Rattle.mad_measure.specs.Areas.{IsWithinLimits}
use Rattle.mad_measure.specs.declared.area.Area.{Area}
use Rattle.mad_draw.specs.DrawnRows.{AreRowsShown}
use Rattle.mad_hits.proofs.TookLemmas.{took_in_turn}
use Rattle.mad_pager.specs.Screens.{IsFieldRow, IsFieldShown, prompt_row}
use Rattle.mad_pager.specs.Sessions.{prompt_cell, state_of}
use Rattle.mad_pager.proofs.DrawnLemmas.{prompt_fills, typed_shown}
use Rattle.mad_pager.proofs.session.Session.draw_typed.Goals as goal

pub draw_rows-requires : goal.draw_rows-requires
draw_rows-requires g c = subst (λ (a : Area). IsWithinLimits a) (sym c.prompt_cell.ensures) (record { columns = omega arith; rows = omega arith })

pub returns : goal.returns
returns g c =
    let s = state_of c.args.self.now in
    let prompt = rw c.prompt_cell.ensures at c.in_ok-draw_rows.ensures.shown (prompt_fills s.types_back (prompt_cell s.page.rows) s.page.rows refl) in
    took_in_turn (g.O.Out.seen c.args.out.now) (g.O.Out.seen c.draw_rows.new.out) (g.O.Out.seen c.draw_field.new.out) (AreRowsShown (prompt_row s.types_back) (prompt_cell s.page.rows)) (IsFieldShown s) (IsFieldRow s) (typed_shown s) prompt c.in_ok-draw_field.ensures
