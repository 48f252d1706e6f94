use Rattle.std.proofs.Common.{sym, subst}
use Rattle.markdown_blocks.specs.Laws.{IsPlaced}
use Rattle.markdown_blocks.specs.Steps.{Step, state_of}
use Rattle.markdown_blocks.proofs.PlaceLemmas.{placed}
use Rattle.markdown_blocks.proofs.reader.BlockReader.read_line.Goals as goal

pub returns-in-Ok-clause-placed : goal.returns-in-Ok-clause-placed
returns-in-Ok-clause-placed c = subst (λ (s : Step). IsPlaced (state_of c.args.self.now) s) (sym c.in-Ok.ensures.ok) (placed (state_of c.args.self.now) c.args.line.now)
