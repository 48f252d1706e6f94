use Rattle.std.proofs.Common.{◌≡◌, drop}
use Rattle.mad_parse.specs.TokenStyles.{first_or, chars_of}
use Rattle.mad_parse.proofs.reading.first_char.Given as goal

abbrev pub invariant-loop-token : goal.invariant-loop-token
invariant-loop-token l = first_or l.default (chars_of (drop l.token-index l.tokens)) ≡ first_or l.default (chars_of l.tokens)
