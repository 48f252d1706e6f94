use Rattle.std.proofs.Common.{◌≡◌, ap, refl, ◌∙◌, drop}
use Rattle.mad_draw.specs.BesideBar.{columns_beside}
use Rattle.mad_layout.proofs.DrawnLayouts.{layout_shown, rows_shown}
use Rattle.mad_layout.proofs.ShownLemmas.{area_drawn, text_shown_in}
use Rattle.mad_layout.specs.Shown.{text_bar}
use Rattle.mad_layout.proofs.drawing.draw_text_in.Goals as goal

pub returns-clause-writes : goal.returns-clause-writes
returns-clause-writes g c =
    let text = c.args.text.now in
    let area = c.args.area.now in
    let bar = text_bar c.args.bar text area c.args.scroll in
    let from = c.lines_from.ensures ∙ ap (drop c.args.scroll) c.as_slice.ensures.value in
    let wide : c.columns_beside.result ≡ columns_beside bar area.width = c.columns_beside.ensures ∙ ap (λ b. columns_beside b c.from.result) c.text_bar-shown_bar.ensures ∙ ap (columns_beside bar) c.from.ensures in
    rw (area_drawn _ c.args.skin.now _ bar text.lines.items _ area _ c.args.scroll refl c.text_bar-shown_bar.ensures from wide) at c.draw_rows.ensures.writes

pub returns-clause-shown : goal.returns-clause-shown
returns-clause-shown g c =
    let text = c.args.text.now in
    let area = c.args.area.now in
    let bar = text_bar c.args.bar text area c.args.scroll in
    let from = c.lines_from.ensures ∙ ap (drop c.args.scroll) c.as_slice.ensures.value in
    let wide : c.columns_beside.result ≡ columns_beside bar area.width = c.columns_beside.ensures ∙ ap (λ b. columns_beside b c.from.result) c.text_bar-shown_bar.ensures ∙ ap (columns_beside bar) c.from.ensures in
    text_shown_in c.draw_rows.result c.args.skin.now c.args.skin.now c.text_bar-shown_bar.result bar text.lines.items _ area _ c.args.scroll (g.O.Out.seen c.args.out.now) (g.O.Out.seen c.draw_rows.new.out) refl c.text_bar-shown_bar.ensures from wide c.draw_rows.ensures.shown

pub returns-clause-shown_layout : goal.returns-clause-shown_layout
returns-clause-shown_layout g c =
    let text = c.args.text.now in
    layout_shown c.draw_rows.result c.args.skin.now (text_bar c.args.bar text c.args.area.now c.args.scroll) text.lines.items c.args.area.now c.args.scroll (g.O.Out.seen c.args.out.now) (g.O.Out.seen c.draw_rows.new.out) c.requires (returns-clause-shown g c)

pub returns-clause-headline : goal.returns-clause-headline
returns-clause-headline g c =
    let text = c.args.text.now in
    rows_shown c.draw_rows.result c.args.skin.now (text_bar c.args.bar text c.args.area.now c.args.scroll) text.lines.items c.args.area.now c.args.scroll (g.O.Out.seen c.args.out.now) (g.O.Out.seen c.draw_rows.new.out) c.requires (returns-clause-shown_layout g c)
