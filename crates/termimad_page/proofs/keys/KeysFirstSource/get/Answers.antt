use Rattle.std.proofs.Common.{arith}
use Rattle.termimad_page.proofs.KeysLemmas.{first_ahead, gets_behind}
use Rattle.termimad_page.proofs.keys.KeysFirstSource.get.Goals as goal

pub returns-in-len1-up : goal.returns-in-len1-up
returns-in-len1-up g c = first_ahead c.args.self.now.first.now _ (omega (arith, c.in-len1-up.len_at_least))

pub returns : goal.returns
returns g c = gets_behind c.args.self.now.first.now _ _ _ (omega (arith, c.in_default.len_below)) c.get.ensures
