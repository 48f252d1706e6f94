use Rattle.std.proofs.Common.{refl}
use Rattle.markdown_stream.proofs.ComeLemmas.{takes}
use Rattle.markdown_stream.proofs.section_stream.SectionStream.take.Goals as goal

pub returns-clause-rest : goal.returns-clause-rest
returns-clause-rest c = takes c.args.self.now (record c.args.self.now { showing = c.take.new.self }) refl refl c.in_ok-read.ensures.rest
