use Rattle.std.proofs.Common.{OnOk, Option, None, Some, refl, subst, sym}
use Rattle.mad_term.specs.Trace.{TookWith}
use Rattle.mad_draw.specs.BarsApart.{AreShownBeside, FillBeside}
use Rattle.mad_draw.specs.declared.scroll_bars.ScrollBar.{ScrollBar}
use Rattle.mad_draw.proofs.BesideLemmas.{joined_shown, narrow}
use Rattle.mad_draw.proofs.scroll_bars.draw_rows_beside.Goals as goal

pub returns-in_default-clause-shown : goal.returns-in_default-clause-shown
returns-in_default-clause-shown g c =
    let row = g.R.Rows.pieces c.args.rows.now in
    let area = c.args.area.now in
    let old = g.O.Out.seen c.args.out.now in
    let new = g.O.Out.seen c.draw_rows.new.out in
    subst (λ (b : Option ScrollBar). OnOk c.draw_rows.result (FillBeside b row area → TookWith old new (AreShownBeside b row area))) (sym c.in_default.is)
    (joined_shown c.draw_rows.result None row area old new refl c.draw_rows.ensures.shown)

pub returns-then-area-lt2-clause-shown : goal.returns-then-area-lt2-clause-shown
returns-then-area-lt2-clause-shown g c =
    let row = g.R.Rows.pieces c.args.rows.now in
    let area = c.args.area.now in
    let old = g.O.Out.seen c.args.out.now in
    let new = g.O.Out.seen c.draw_rows-then-area-lt2.new.out in
    subst (λ (b : Option ScrollBar). OnOk c.draw_rows-then-area-lt2.result (FillBeside b row area → TookWith old new (AreShownBeside b row area))) (sym c.in-Some.is)
    (joined_shown c.draw_rows-then-area-lt2.result (Some c.in-Some.shown) row area old new (narrow c.in-Some.shown row area c.if-area-lt2.true) c.draw_rows-then-area-lt2.ensures.shown)
