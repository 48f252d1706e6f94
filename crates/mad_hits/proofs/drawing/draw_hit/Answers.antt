use Rattle.std.proofs.Common.{OnOk, subst}
use Rattle.mad_term.specs.Trace.{TookWith}
use Rattle.mad_term.proofs.QueueExits.{memory_first}
use Rattle.mad_hits.specs.Drawn.{IsHitShown}
use Rattle.mad_hits.specs.Hits.{Marked}
use Rattle.mad_hits.proofs.WrittenHits.{hit_is}
use Rattle.mad_hits.proofs.drawing.draw_hit.Goals as goal

pub returns-in_err-chars-clause-writes : goal.returns-in_err-chars-clause-writes
returns-in_err-chars-clause-writes g c = memory_first _ _ _ c.from_residual.ensures.1

pub returns-clause-shown : goal.returns-clause-shown
returns-clause-shown g c =
    subst (λ (m : Marked). OnOk c.draw_chars.result (TookWith (g.O.Out.seen c.args.out.now) (g.O.Out.seen c.draw_chars.new.out) (IsHitShown c.args.width c.args.y m)))
    (hit_is c.args.style c.args.front c.saturating_add-column.result c.args.hit.now c.as_slice-2.result.now c.in_ok-chars.chars.items c.as_slice.result.now c.saturating_add-column.ensures c.as_slice-2.ensures.value c.in_ok-chars.ensures c.as_slice.ensures.value)
    c.draw_chars.ensures.shown
