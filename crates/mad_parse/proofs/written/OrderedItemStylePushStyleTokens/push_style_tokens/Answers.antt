use Rattle.std.proofs.Common.{refl}
use Rattle.mad_parse.proofs.ReadingBack.{item_reads_back}
use Rattle.mad_parse.proofs.written.OrderedItemStylePushStyleTokens.push_style_tokens.Goals as goal

pub returns-clause-reads_back : goal.returns-clause-reads_back
returns-clause-reads_back c = item_reads_back c.args.self.now _ c.push_item.ensures.bytes c.push_item.ensures.char c.push_item.ensures.suffix_bytes refl
