use Rattle.std.proofs.Common.{sym, ◌∙◌}
use Rattle.markdown_pieces.proofs.PlainLemmas.{word_none}
use Rattle.markdown_pieces.proofs.pieces.is_bare.Goals as goal

pub returns-then-is_word : goal.returns-then-is_word
returns-then-is_word c = sym (word_none c.args.free c.args.last c.args.rest.now (sym c.is_word.ensures ∙ c.if-is_word.true))
