use Rattle.std.proofs.Common.{ap, map, option_map, string_bytes}
use Rattle.std.specs.Borrow.{Bor}
use Rattle.clap.specs.Words.{Text}
use Rattle.termimad_command.proofs.RunLemmas.{call_run}
use Rattle.termimad_command.proofs.running.run.Goals as goal

pub returns : goal.returns
returns g c =
    let text = (λ (word : Bor Text). word.now) in
    call_run (g.T.Texts.holds c.args.texts.now) (map string_bytes c.args.args.now) (map text c.as_slice-words.result.now) (map text c.in-Ok.parted.words.items)
    (option_map text c.in-Ok.parted.place) c.in-Ok.plans c.lent-around.result c.args.around.now _ _ _ _ _ c.perform-ran.result c.answer.result
    (ap (map text) c.as_slice-words.ensures.value) c.lent-around.ensures c.in-Ok.ensures.1 c.in-Ok.ensures.0 c.perform-ran.ensures c.answer.ensures
