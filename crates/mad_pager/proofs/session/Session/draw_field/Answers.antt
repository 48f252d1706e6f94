use Rattle.std.proofs.Common.{sym, ◌∙◌, arith}
use Rattle.mad_draw.specs.DrawnRows.{AreRowsShown}
use Rattle.mad_field.specs.Drawn.{row_pieces}
use Rattle.mad_field.specs.Shown.{IsShowable}
use Rattle.mad_pager.specs.Screens.{IsFieldShown}
use Rattle.mad_pager.specs.Sessions.{state_of}
use Rattle.mad_pager.proofs.DrawnLemmas.{row_elsewhere, row_within, showable}
use Rattle.mad_hits.proofs.TookLemmas.{known, took_so, took_nothing}
use Rattle.mad_pager.proofs.session.Session.draw_field.Goals as goal

pub display_on-requires : goal.display_on-requires
display_on-requires g c = row_within _ _ _ _ _ (omega arith) (omega arith) c.area.ensures c.field_row-row.ensures (sym c.eq-is_there.ensures ∙ c.if-is_there.true)

pub returns-then-is_there : goal.returns-then-is_there
returns-then-is_there g c =
    let s = state_of c.args.self.now in
    let f = c.args.self.now.field in
    let old = g.O.Out.seen c.args.out.now in
    let new = g.O.Out.seen c.display_on.new.out in
    took_so old new _ (IsFieldShown s) (λ text shown some row. shown (showable s some row))
    (known old new _ (IsShowable f) (AreRowsShown (row_pieces f) f.area) c.in_ok-display_on.ensures.writes c.in_ok-display_on.ensures.shown)

pub returns : goal.returns
returns g c =
    took_nothing (g.O.Out.seen c.args.out.now) (IsFieldShown (state_of c.args.self.now)) (λ some row. absurd (row_elsewhere _ _ _ _ c.area.ensures c.field_row-row.ensures (sym c.eq-is_there.ensures ∙ c.if-is_there.false) row.area))
