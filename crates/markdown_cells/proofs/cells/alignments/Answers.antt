use Rattle.std.proofs.Common.{◌∙◌, sym, arith}
use Rattle.markdown_cells.proofs.CellLemmas.{alignments_next, alignments_done}
use Rattle.markdown_cells.proofs.cells.alignments.Goals as goal

pub loop-more-preserved : goal.loop-more-preserved
loop-more-preserved c =
    alignments_next c.loop-more.rule.items c.push.new.self.items c.alignment_of.result c.cell_of.result.now c.loop-more.rest.now c.after_cell-rest.result.now c.loop-more.more (omega arith)
    c.in_ok-push.ensures.items c.alignment_of.ensures c.cell_of.ensures c.after_cell-rest.ensures ∙ c.loop-more.invariant

pub returns : goal.returns
returns c = sym (alignments_done c.loop-more.rule.items c.loop-more.rest.now c.loop-more.more (omega arith)) ∙ c.loop-more.invariant
