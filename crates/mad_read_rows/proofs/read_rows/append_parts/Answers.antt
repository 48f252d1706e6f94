use Rattle.std.proofs.Common.{string_bytes}
use Rattle.mad_read_rows.proofs.WordRowLemmas.{parts_more}
use Rattle.mad_read_rows.proofs.read_rows.append_parts.Goals as goal

pub loop-token-preserved : goal.loop-token-preserved
loop-token-preserved c =
    parts_more c.args.skin.now c.args.style.now c.args.tokens.now c.loop-token.token-index _ (string_bytes c.args.rows.now) (string_bytes c.loop-token.rows) (string_bytes c.append_compounds.new.rows) c.to_compound.result c.loop-token-test.true c.loop-token.invariant c.to_compound.ensures.text
    c.to_compound.ensures.flags c.in_ok-append_compounds.ensures
