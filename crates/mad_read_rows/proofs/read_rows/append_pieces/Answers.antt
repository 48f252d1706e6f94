use Rattle.std.proofs.Common.{string_bytes}
use Rattle.mad_format.proofs.WrapLemmas.{then_ok}
use Rattle.mad_read_rows.specs.ReadRows.{token_bytes}
use Rattle.mad_read_rows.proofs.WordRowLemmas.{single_words}
use Rattle.mad_read_rows.proofs.read_rows.append_pieces.Goals as goal

pub returns-then-compounds-eq1 : goal.returns-then-compounds-eq1
returns-then-compounds-eq1 c =
    then_ok _ _ c.append_tokens.result (λ w. single_words (token_bytes c.args.skin.now c.args.style.now) c.args.later.now c.args.limit c.args.compounds.now c.args.fit w.0 (string_bytes c.args.rows.now) (string_bytes c.append_tokens.new.rows) c.if-compounds-eq1.true w.1) c.append_tokens.ensures
