use Rattle.std.proofs.Common.{◌≡◌, ◌∙◌, ◌-◌, ℕ, drop, string_bytes, ap, subst, arith}
use Rattle.std.proofs.lemmas.List.{drop-drop}
use Rattle.mad_list_columns.specs.Drawing.{shown_from}
use Rattle.mad_list_columns.specs.Writing.{HasBody}
use Rattle.mad_list_columns.proofs.RowLemmas.{body_grows, body_starts, first_left}
use Rattle.mad_list_columns.proofs.drawing.push_body.Goals as goal

pub loop-r-init : goal.loop-r-init
loop-r-init g c = record {
  left = ap (shown_from c.args.rows.now.rows) c.scroll-next.ensures;
  written = body_starts g.E.CellExtract.extracts c.args.style.now c.args.columns.now c.args.area.now c.args.rows.now (string_bytes c.args.bytes.now);
}

pub loop-r-preserved : goal.loop-r-preserved
loop-r-preserved g c =
    let list = c.args.rows.now in
    let r = c.loop-r.r in
    let shown = shown_from list.rows list.scroll in
    record {
      left = c.in_ok-next.ensures.next ∙ ap (drop 1) c.loop-r.invariant.left ∙ drop-drop 1 r shown;
      written =
          body_grows g.E.CellExtract.extracts c.args.style.now c.args.columns.now c.args.area.now list r _ c.bar_beside-bar.result _ _ _ _ _
          c.loop-r.invariant.written
          c.in_ok-push_move.ensures
          (first_left shown (shown_from list.rows c.loop-r.next) r c.loop-r.invariant.left)
          c.in_ok-next.ensures.writes
          c.bar_beside-bar.ensures
          c.in_ok-push_bar.ensures;
    }

pub returns : goal.returns
returns g c =
    let area = c.args.area.now in
    let all : c.loop-r.r ≡ area.height - 2 = omega arith in
    subst (λ (n : ℕ). HasBody g.E.CellExtract.extracts c.args.style.now c.args.columns.now area c.args.rows.now n (string_bytes c.args.bytes.now) (string_bytes c.loop-r.bytes)) all c.loop-r.invariant.written
