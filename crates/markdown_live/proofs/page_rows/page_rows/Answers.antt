use Rattle.std.proofs.Common.{string_bytes, length, arith}
use Rattle.markdown_live.proofs.PageRowLemmas.{rest_parts, rows_all, rows_more, rows_start}
use Rattle.markdown_live.proofs.page_rows.page_rows.Goals as goal

pub loop-rest-init : goal.loop-rest-init
loop-rest-init c = rows_start c.args.skin.now c.args.width c.args.reads.now _ c.new-rows.ensures.bytes

pub loop-rest-preserved : goal.loop-rest-preserved
loop-rest-preserved c =
    let some = c.in-len1-up.len_at_least in
    rows_more c.args.skin.now c.args.width c.args.reads.now c.loop-rest.rest.now _ c.read-item.result (string_bytes c.loop-rest.rows) (string_bytes c.append_sections.new.rows) _ c.loop-rest.invariant
    (rest_parts c.loop-rest.rest.now c.read-item.result (omega (arith, some)) c.read-item.is) c.sections.ensures c.in_ok-append_sections.ensures

pub returns : goal.returns
returns c = let below = c.in_default.len_below in rows_all c.args.skin.now c.args.width c.args.reads.now c.loop-rest.rest.now (string_bytes c.loop-rest.rows) c.loop-rest.invariant (omega (arith, below))
