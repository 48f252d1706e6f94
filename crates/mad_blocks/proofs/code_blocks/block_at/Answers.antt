use Rattle.std.proofs.Common.{◌+◌, sym, ◌∙◌, refl}
use Rattle.mad_blocks.proofs.CodeBlockLemmas.{code_start, code_more, code_ends, code_some, ends_past}
use Rattle.mad_blocks.proofs.code_blocks.block_at.Goals as goal

pub loop-height-init : goal.loop-height-init
loop-height-init c = code_start c.args.lines.now c.args.start c.requires

pub loop-height-preserved : goal.loop-height-preserved
loop-height-preserved c =
    code_more c.args.lines.now c.args.start c.loop-height.height c.loop-height.width c.in-Some.columns c.max-width.result c.index-lines-start.result c.loop-height.invariant c.loop-height-test.true c.index-lines-start.is (code_some c.index-lines-start.result c.in-Some.columns (sym c.code_columns.ensures ∙ c.in-Some.is)) c.max-width.ensures

pub returns : goal.returns
returns c = code_ends c.args.lines.now c.args.start c.loop-height.height c.loop-height.width (record { start = c.args.start; height = c.loop-height.height; width = c.loop-height.width }) c.loop-height.invariant (ends_past c.args.lines.now (c.args.start + c.loop-height.height) c.loop-height-test.false) refl
