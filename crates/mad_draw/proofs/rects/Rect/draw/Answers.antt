use Rattle.std.proofs.Common.{ℕ, List, ◌++◌, ◌-◌, ap, ◌∙◌, subst}
use Rattle.mad_term.specs.Draws.{Draws, Refused}
use Rattle.mad_term.specs.Trace.{after}
use Rattle.mad_term.proofs.Exits.{refused_exit, refused_in_first, refused_between}
use Rattle.mad_draw.specs.Parts.{parts_bytes}
use Rattle.mad_draw.specs.PlacedPieces.{one_placed_bytes, placed_bytes}
use Rattle.mad_draw.specs.Rects.{edge, top_edge, bottom_edge, rect_pieces, AreBorderChars, IsRectShown}
use Rattle.mad_draw.specs.declared.rects.Edge.{Edge}
use Rattle.mad_draw.proofs.PartLemmas.{draws_after, shown_where_drawn}
use Rattle.mad_draw.proofs.RectBytes.{sides_part, rect_bytes}
use Rattle.mad_draw.proofs.RectLemmas.{rect_shown}
use Rattle.mad_draw.proofs.rects.Rect.draw.Given.{Over}
use Rattle.mad_draw.proofs.rects.Rect.draw.Goals as goal

-- the bytes of an edge
abbrev edge_text : Edge → List ℕ
edge_text e = one_placed_bytes (edge e.rect.now e.y e.first e.middle e.last)

pub returns-in_err-put_displayed-clause-writes : goal.returns-in_err-put_displayed-clause-writes
returns-in_err-put_displayed-clause-writes g c =
    let r = c.args.self.now in
    let error = c.in_err-put_displayed.field-0.0 in
    let old = g.O.Out.seen c.args.out.now in
    let new = g.O.Out.seen c.put_displayed.new.out in
    let top : List ℕ = one_placed_bytes (top_edge r) in
    let later : List ℕ = parts_bytes (sides_part r) (r.area.height - 2) ++ one_placed_bytes (bottom_edge r) in
    refused_exit _ _ _ _ _ c.from_residual.ensures.1
    (subst (λ (t : List ℕ). Refused old t error new) (rect_bytes r)
    (refused_in_first error old new top later (subst (λ (e : Edge). Refused old (edge_text e) error new) c.top_edge-top.ensures c.in_err-put_displayed.ensures.writes)))

pub returns-in_err-put_parts-clause-writes : goal.returns-in_err-put_parts-clause-writes
returns-in_err-put_parts-clause-writes g c =
    let r = c.args.self.now in
    let error = c.in_err-put_parts.field-0.0 in
    let old = g.O.Out.seen c.args.out.now in
    let mid = g.O.Out.seen c.put_displayed.new.out in
    let new = g.O.Out.seen c.put_parts.new.out in
    let top : List ℕ = one_placed_bytes (top_edge r) in
    refused_exit _ _ _ _ _ c.from_residual-in_err-put_parts.ensures.1
    (subst (λ (t : List ℕ). Refused old t error new) (rect_bytes r)
    (refused_between error old mid new top (parts_bytes (sides_part r) (r.area.height - 2)) (one_placed_bytes (bottom_edge r))
    (c.in_ok-put_displayed.ensures.writes ∙ ap (λ e. after old (edge_text e)) c.top_edge-top.ensures) c.in_err-put_parts.ensures))

-- the whole rectangle
all_drawn : (g : Over) (c : goal.After-put_displayed-2 g) → Draws (g.O.Out.seen c.args.out.now) (placed_bytes (rect_pieces c.args.self.now)) c.put_displayed-2.result (g.O.Out.seen c.put_displayed-2.new.out)
all_drawn g c =
    let r = c.args.self.now in
    let old = g.O.Out.seen c.args.out.now in
    let first = g.O.Out.seen c.put_displayed.new.out in
    let mid = g.O.Out.seen c.put_parts.new.out in
    let new = g.O.Out.seen c.put_displayed-2.new.out in
    let top : List ℕ = one_placed_bytes (top_edge r) in
    let between : List ℕ = parts_bytes (sides_part r) (r.area.height - 2) in
    let bottom : List ℕ = one_placed_bytes (bottom_edge r) in
    subst (λ (t : List ℕ). Draws old t c.put_displayed-2.result new) (rect_bytes r)
    (draws_after c.put_displayed-2.result old first new top (between ++ bottom) (c.in_ok-put_displayed.ensures.writes ∙ ap (λ e. after old (edge_text e)) c.top_edge-top.ensures)
    (draws_after c.put_displayed-2.result first mid new between bottom c.in_ok-put_parts.ensures
    (subst (λ (e : Edge). Draws mid (edge_text e) c.put_displayed-2.result new) c.bottom_edge-bottom.ensures c.put_displayed-2.ensures.writes)))

pub returns-clause-writes : goal.returns-clause-writes
returns-clause-writes g c = all_drawn g c

pub returns-clause-shown : goal.returns-clause-shown
returns-clause-shown g c =
    let r = c.args.self.now in
    shown_where_drawn c.put_displayed-2.result _ _ (placed_bytes (rect_pieces r)) (AreBorderChars r.border_style) (IsRectShown r) (all_drawn g c) (λ chars. rect_shown r c.requires.columns c.requires.rows c.requires.limits c.know_style.ensures chars)
