use Rattle.std.proofs.lemmas.Result.{IfOk-weaker}
use Rattle.mad_read_rows.specs.ReadRows.{token_bytes}
use Rattle.mad_read_rows.proofs.ReadLemmas.{written_bare}
use Rattle.mad_read_rows.proofs.read_rows.append_compound.Goals as goal

pub returns-then-is_plain : goal.returns-then-is_plain
returns-then-is_plain c =
    let skin = c.args.skin.now in
    let style = c.args.style.now in
    IfOk-weaker c.append_spans.result _ _ (λ after h. h (token_bytes skin style) (written_bare skin style c.args.compound (c.is_plain.ensures c.if-is_plain.true))) c.append_spans.ensures
