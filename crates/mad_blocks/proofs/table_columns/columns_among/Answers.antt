use Rattle.std.proofs.Common.{◌∙◌, max, ap, map, arith}
use Rattle.std.proofs.lemmas.List.{drop_all}
use Rattle.mad_md.specs.Lines.{content_of}
use Rattle.mad_format.proofs.WrapLemmas.{next_of}
use Rattle.mad_blocks.specs.TextParts.{columns_among}
use Rattle.mad_blocks.proofs.ReadTables.{count_more}
use Rattle.mad_blocks.proofs.table_columns.columns_among.Goals as goal

pub loop-line-preserved : goal.loop-line-preserved
loop-line-preserved c =
    let next = next_of c.args.table.now c.loop-line.line-index c.line-item.result c.loop-line-test.true c.line-item.is in
    count_more c.args.table.now c.loop-line.line-index c.line-item.result c.loop-line.count c.max-count.result _ next c.loop-line.invariant (c.max-count.ensures ∙ ap (λ n. max n c.loop-line.count) c.count_in.ensures)

pub returns : goal.returns
returns c =
    let none = drop_all c.loop-line.line-index c.args.table.now c.loop-line-test.false in
    let all = ap (λ ls. columns_among (map content_of ls)) none in
    omega (arith, all, c.loop-line.invariant)
