use Rattle.markdown_events.proofs.NestLemmas.{events_nest}
use Rattle.markdown_events.proofs.laws.events_nest.Goals as goal

pub returns : goal.returns
returns c = events_nest
