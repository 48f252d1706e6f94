use Rattle.std.proofs.Common.{refl}
use Rattle.mad_parse.proofs.ReadingBack.{char_reads_back}
use Rattle.mad_parse.proofs.written.StyledCharPushStyleTokens.push_style_tokens.Goals as goal

pub returns-clause-reads_back : goal.returns-clause-reads_back
returns-clause-reads_back c = char_reads_back c.args.self.now _ c.push_styled_char.ensures.char c.push_styled_char.ensures.bytes refl
