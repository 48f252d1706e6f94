use Rattle.std.proofs.Common.{◌∙◌, sym, ap, arith, length}
use Rattle.markdown_lines.specs.Said.{said}
use Rattle.markdown_lines.specs.Shown.{shown}
use Rattle.markdown_lines.proofs.LineLemmas.{rows_next, rows_done}
use Rattle.markdown_lines.proofs.lines.Lines.push_rows.Goals as goal

pub loop-index-preserved : goal.loop-index-preserved
loop-index-preserved c =
    rows_next (shown c.loop-index.self) (shown c.push_row.new.self) c.loop-index.style c.args.others (said c.args.rows.now.runs) c.args.rows.now.lines.items c.loop-index.index c.index.result.now c.range_of-range.result
    (omega (arith, c.loop-index-test.true, ap length c.as_slice.ensures.value)) c.index.ensures c.range_of-range.ensures c.in_ok-push_row.ensures
    ∙ c.loop-index.invariant

pub returns : goal.returns
returns c =
    sym (rows_done (shown c.loop-index.self) c.loop-index.style c.args.others (said c.args.rows.now.runs) c.args.rows.now.lines.items c.loop-index.index (omega (arith, c.loop-index-test.false, ap length c.as_slice.ensures.value)))
    ∙ c.loop-index.invariant
