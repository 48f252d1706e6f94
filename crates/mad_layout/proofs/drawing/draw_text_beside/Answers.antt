use Rattle.std.proofs.Common.{◌≡◌, ap, ◌∙◌, drop}
use Rattle.mad_draw.specs.BesideBar.{columns_beside}
use Rattle.mad_layout.proofs.BesideLemmas.{beside_drawn, layout_beside, layout_whole, lines_beside}
use Rattle.mad_layout.proofs.DrawnLayouts.{rows_shown}
use Rattle.mad_layout.specs.Shown.{text_bar}
use Rattle.mad_layout.proofs.drawing.draw_text_beside.Goals as goal

pub returns-clause-writes : goal.returns-clause-writes
returns-clause-writes g c =
    let text = c.args.text.now in
    let area = c.args.area.now in
    let bar = text_bar c.args.bar text area c.args.scroll in
    let from = c.lines_from.ensures ∙ ap (drop c.args.scroll) c.as_slice.ensures.value in
    let wide : c.columns_beside.result ≡ columns_beside bar area.width = c.columns_beside.ensures ∙ ap (λ b. columns_beside b c.from.result) c.text_bar-shown_bar.ensures ∙ ap (columns_beside bar) c.from.ensures in
    rw (beside_drawn c.args.skin.now _ bar text.lines.items _ area _ c.args.scroll c.text_bar-shown_bar.ensures from wide) at c.draw_rows_beside.ensures.writes

pub returns-clause-shown : goal.returns-clause-shown
returns-clause-shown g c =
    let text = c.args.text.now in
    let area = c.args.area.now in
    let bar = text_bar c.args.bar text area c.args.scroll in
    let from = c.lines_from.ensures ∙ ap (drop c.args.scroll) c.as_slice.ensures.value in
    let wide : c.columns_beside.result ≡ columns_beside bar area.width = c.columns_beside.ensures ∙ ap (λ b. columns_beside b c.from.result) c.text_bar-shown_bar.ensures ∙ ap (columns_beside bar) c.from.ensures in
    lines_beside c.draw_rows_beside.result c.args.skin.now c.text_bar-shown_bar.result bar text.lines.items _ area _ c.args.scroll (g.O.Out.seen c.args.out.now) (g.O.Out.seen c.draw_rows_beside.new.out) c.text_bar-shown_bar.ensures from wide c.draw_rows_beside.ensures.shown

pub returns-clause-shown_layout : goal.returns-clause-shown_layout
returns-clause-shown_layout g c =
    let text = c.args.text.now in
    layout_beside c.draw_rows_beside.result c.args.skin.now (text_bar c.args.bar text c.args.area.now c.args.scroll) text.lines.items c.args.area.now c.args.scroll (g.O.Out.seen c.args.out.now) (g.O.Out.seen c.draw_rows_beside.new.out) c.requires (returns-clause-shown g c)

pub returns-clause-headline : goal.returns-clause-headline
returns-clause-headline g c =
    let text = c.args.text.now in
    let bar = text_bar c.args.bar text c.args.area.now c.args.scroll in
    let old = g.O.Out.seen c.args.out.now in
    let new = g.O.Out.seen c.draw_rows_beside.new.out in
    rows_shown c.draw_rows_beside.result c.args.skin.now bar text.lines.items c.args.area.now c.args.scroll old new c.requires
    (layout_whole c.draw_rows_beside.result c.args.skin.now bar text.lines.items c.args.area.now c.args.scroll old new (returns-clause-shown_layout g c))
