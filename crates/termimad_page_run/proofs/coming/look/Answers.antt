use Rattle.std.proofs.Common.{sym, ◌∙◌, arith}
use Rattle.termimad_page_run.proofs.ComingLemmas.{looked_by, mark_unread}
use Rattle.termimad_page_run.proofs.coming.look.Goals as goal

pub returns-else-count-gt0 : goal.returns-else-count-gt0
returns-else-count-gt0 g c =
    looked_by _ _ _ _ _ (sym c.is_some.ensures ∙ c.if-is_some.false)
    (mark_unread _ _ c.fill.new.buffer c.in_ok-count.count (omega (arith, c.if-count-gt0.false)) c.in_ok-count.ensures (omega arith))
