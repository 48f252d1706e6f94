use Rattle.mad_pager.specs.Pagers.{view_of}
use Rattle.termimad_page_run.proofs.BlockLemmas.{pause_goes}
use Rattle.termimad_page_run.proofs.blocks.apply_pause.Goals as goal

pub returns : goal.returns
returns c = (
  c.pause-heard.result,
  c.pause-heard.ensures,
  (c.in_ok-apply_told.ensures.step, pause_goes _ c.args.terminal.now _ _ (view_of c.args.pager.now) c.pause-heard.ensures),
)
