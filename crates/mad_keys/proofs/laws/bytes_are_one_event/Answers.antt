use Rattle.std.proofs.Common.{sym, ◌∙◌}
use Rattle.std.proofs.lemmas.Option.{same_Some}
use Rattle.mad_keys.proofs.EventLemmas.{event_at-complete}
use Rattle.mad_keys.proofs.laws.bytes_are_one_event.Goals as goal

pub returns : goal.returns
returns c = λ bytes e f p q. same_Some e f (sym (event_at-complete bytes e p) ∙ event_at-complete bytes f q)
