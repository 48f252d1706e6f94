use Rattle.std.proofs.Common.{Option, subst, sym}
use Rattle.mad_outline.specs.Sources.{text_said}
use Rattle.mad_pager.specs.Pagers.{view_of}
use Rattle.mad_regrown.specs.declared.session.Kept.{Kept}
use Rattle.termimad_page_run.specs.Stretches.{IsStretchStartOf}
use Rattle.termimad_page_run.proofs.stretches.pager_on.Goals as goal

pub returns-in_ok-pager-in-None : goal.returns-in_ok-pager-in-None
returns-in_ok-pager-in-None c =
    subst (λ (kept : Option Kept). IsStretchStartOf kept c.args.scene.now.frame.now c.args.scene.now.name.now (text_said c.args.text) (view_of c.begin_at.new.self)) (sym c.in-None.is)
    (view_of c.in_ok-pager-in-None.pager, c.in_ok-pager-in-None.ensures, c.begin_at.ensures)
