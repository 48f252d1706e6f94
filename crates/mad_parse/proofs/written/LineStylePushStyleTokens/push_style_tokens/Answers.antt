use Rattle.std.proofs.Common.{refl}
use Rattle.mad_parse.proofs.ReadingBack.{line_reads_back}
use Rattle.mad_parse.proofs.written.LineStylePushStyleTokens.push_style_tokens.Goals as goal

pub returns-clause-reads_back : goal.returns-clause-reads_back
returns-clause-reads_back c = line_reads_back c.args.self.now _ c.push_line_tokens.ensures.bytes refl
