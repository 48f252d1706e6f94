use Rattle.std.proofs.Common.{map, take}
use Rattle.mad_wrap.specs.WordLines.{PutsPieces}
use Rattle.mad_wrap.specs.Words.{alone}
use Rattle.mad_wrap.proofs.placing_words.WordLines.put_each.Given as goal

abbrev pub invariant-loop-token : goal.invariant-loop-token
invariant-loop-token l = PutsPieces l.fn.self (map alone (take l.token-index l.tokens)) l.self
