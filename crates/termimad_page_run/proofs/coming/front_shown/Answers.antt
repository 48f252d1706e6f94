use Rattle.termimad_page_run.proofs.ComingLemmas.{whole_shown}
use Rattle.termimad_page_run.proofs.coming.front_shown.Goals as goal

pub returns-then-is_whole : goal.returns-then-is_whole
returns-then-is_whole c = whole_shown _ _ c.if-is_whole.true
