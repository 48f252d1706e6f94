use Rattle.std.proofs.Common.{string_bytes}
use Rattle.mad_read_rows.specs.ReadRows.{token_bytes}
use Rattle.mad_read_rows.proofs.WordRowLemmas.{each_more}
use Rattle.mad_read_rows.proofs.read_rows.append_each.Goals as goal

pub loop-token-preserved : goal.loop-token-preserved
loop-token-preserved c =
    each_more (token_bytes c.args.skin.now c.args.style.now) c.args.later.now c.args.tokens.now c.loop-token.token-index _ _ _ _ (string_bytes c.args.rows.now) (string_bytes c.loop-token.rows) (string_bytes c.append_word.new.rows) c.loop-token-test.true c.loop-token.invariant c.in_ok-fit.ensures
