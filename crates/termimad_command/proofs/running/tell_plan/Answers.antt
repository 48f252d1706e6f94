use Rattle.std.proofs.Common.{option_map, refl}
use Rattle.std.specs.Borrow.{Bor}
use Rattle.clap.specs.Words.{Text}
use Rattle.termimad_command.proofs.RunLemmas.{plan_told}
use Rattle.termimad_command.proofs.running.tell_plan.Goals as goal

pub returns : goal.returns
returns g c =
    plan_told c.args.call.now c.args.plan.now (option_map (λ (word : Bor Text). word.now) c.args.place) _ _ _ _ _ _ _ _ refl c.names_of-names.ensures c.place_text-place.ensures c.in-Ok.ensures c.deref.ensures c.write_out.ensures
