use Rattle.mad_pager.specs.Pagers.{view_of}
use Rattle.termimad_page_run.proofs.blocks.apply_block.Goals as goal

pub returns-clause-goes : goal.returns-clause-goes
returns-clause-goes c = λ goes. (view_of c.apply_bytes.new.pager, c.in_ok-turn.ensures.goes goes, c.in_ok-settle.ensures)
