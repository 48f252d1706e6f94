use Rattle.std.proofs.Common.{map}
use Rattle.termimad_command.proofs.AskLemmas.{call_lacks, told_of_words}
use Rattle.termimad_command.proofs.asking.asked.Goals as goal

pub returns-in-Err : goal.returns-in-Err
returns-in-Err c = told_of_words (map (λ word. word.now) c.args.words.now) c.in-Err.e c.told.result c.in-Err.ensures.kinds c.told.ensures

pub returns-then-asks_more : goal.returns-then-asks_more
returns-then-asks_more c =
    call_lacks (map (λ word. word.now) c.args.words.now) c.in-Ok.call c.asks_more.result c.in-Ok.ensures.call c.asks_more.ensures c.if-asks_more.true
