use Rattle.std.proofs.Common.{[], ◌∷◌, ◌++◌, ap, ◌∙◌, arith}
use Rattle.std.proofs.lemmas.List.{take_more_set}
use Rattle.mad_keys.specs.Meanings.{event_at}
use Rattle.mad_keys.proofs.EventLemmas.{told}
use Rattle.mad_keys.proofs.decoder.Keys.end.Goals as goal

pub returns-clause-told : goal.returns-clause-told
returns-clause-told c = told (c.args.self.now ++ c.args.b ∷ []) c.event_of-event.result (c.event_of-event.ensures ∙ ap event_at (take_more_set c.self.inside.bytes c.self.inside.count c.args.b (omega (arith, c.self.told, c.self.invariant)) ∙ ap (λ w. w ++ c.args.b ∷ []) c.self.view_is))
