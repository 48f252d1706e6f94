use Rattle.std.proofs.Common.{take}
use Rattle.mad_wrap.specs.WordLines.{TakesTokens}
use Rattle.mad_wrap.proofs.placing_words.add_tokens.Given as goal

abbrev pub invariant-loop-token : goal.invariant-loop-token
invariant-loop-token l = TakesTokens l.fn.line (take l.token-index l.tokens) l.line
