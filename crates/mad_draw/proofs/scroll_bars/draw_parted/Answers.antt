use Rattle.std.proofs.Common.{List, ℕ, [], ◌++◌, subst, sym}
use Rattle.std.proofs.lemmas.List.{append-nil}
use Rattle.mad_term.specs.Draws.{Draws}
use Rattle.mad_term.proofs.Exits.{refused_exit, refused_in_first}
use Rattle.mad_draw.specs.BarsApart.{bar_row, but_last_column, last_column}
use Rattle.mad_draw.specs.DrawnRows.{rows_bytes}
use Rattle.mad_draw.proofs.BesideLemmas.{parted_drawn}
use Rattle.mad_draw.proofs.PartLemmas.{draws_after}
use Rattle.mad_draw.proofs.scroll_bars.draw_parted.Goals as goal

pub returns-in_err-draw_rows-clause-writes : goal.returns-in_err-draw_rows-clause-writes
returns-in_err-draw_rows-clause-writes g c =
    let area = c.args.area.now in
    refused_exit _ _ _ _ _ c.from_residual.ensures.1
    (refused_in_first c.in_err-draw_rows.field-0.0 (g.O.Out.seen c.args.out.now) (g.O.Out.seen c.draw_rows.new.out) (rows_bytes (g.R.Rows.pieces c.args.rows.now) (but_last_column area)) (rows_bytes (bar_row c.args.bar) (last_column area) ++ []) c.in_err-draw_rows.ensures.writes)

pub returns-clause-writes : goal.returns-clause-writes
returns-clause-writes g c =
    let area = c.args.area.now in
    let mid = g.O.Out.seen c.draw_rows.new.out in
    let new = g.O.Out.seen c.draw_rows-2.new.out in
    draws_after c.draw_rows-2.result (g.O.Out.seen c.args.out.now) mid new (rows_bytes (g.R.Rows.pieces c.args.rows.now) (but_last_column area)) (rows_bytes (bar_row c.args.bar) (last_column area) ++ []) c.in_ok-draw_rows.ensures.writes
    (subst (λ (t : List ℕ). Draws mid t c.draw_rows-2.result new) (sym (append-nil (rows_bytes (bar_row c.args.bar) (last_column area)))) c.draw_rows-2.ensures.writes)

pub returns-clause-shown : goal.returns-clause-shown
returns-clause-shown g c =
    parted_drawn c.draw_rows-2.result c.args.bar (g.R.Rows.pieces c.args.rows.now) c.args.area.now (g.O.Out.seen c.args.out.now) (g.O.Out.seen c.draw_rows.new.out) (g.O.Out.seen c.draw_rows-2.new.out) c.requires.wide
    c.in_ok-draw_rows.ensures.shown c.draw_rows-2.ensures.shown
