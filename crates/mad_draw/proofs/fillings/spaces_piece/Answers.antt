use Rattle.mad_draw.proofs.FillingLemmas.{spaces_repeat}
use Rattle.mad_draw.proofs.fillings.spaces_piece.Goals as goal

pub returns : goal.returns
returns c = rw (← spaces_repeat c.args.style c.args.count) c.to_string.ensures.ok
