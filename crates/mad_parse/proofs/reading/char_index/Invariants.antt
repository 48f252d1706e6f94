use Rattle.std.proofs.Common.{◌≡◌, ◌+◌, drop}
use Rattle.mad_parse.specs.TokenStyles.{char_index}
use Rattle.mad_parse.proofs.reading.char_index.Given as goal

abbrev pub invariant-loop-token : goal.invariant-loop-token
invariant-loop-token l = record {
  count : l.index ≡ l.token-index;
  rest : l.token-index + char_index (drop l.token-index l.tokens) ≡ char_index l.tokens;
}
