use Rattle.std.proofs.Common.{sym, ◌∙◌}
use Rattle.mad_screen.specs.Glyph.{look_of}
use Rattle.mad_frames.proofs.WholeLemmas.{tail_step, tail_refused, first_refused}
use Rattle.mad_frames.proofs.whole.are_whole.Goals as goal

pub loop-cell-preserved-then-tails-gt0 : goal.loop-cell-preserved-then-tails-gt0
loop-cell-preserved-then-tails-gt0 c =
    sym (tail_step c.args.cells.now c.loop-cell.cell-index c.loop-cell.tails (look_of c.loop-cell.pen) c.cell-item.result c.loop-cell-test.true c.cell-item.is c.if-tails-gt0.true
    (sym c.is_tail_in.ensures ∙ c.if-not-is_tail_in.false))
    ∙ c.loop-cell.invariant

pub returns-then-not-is_tail_in : goal.returns-then-not-is_tail_in
returns-then-not-is_tail_in c =
    sym (tail_refused c.args.cells.now c.loop-cell.cell-index c.loop-cell.tails (look_of c.loop-cell.pen) c.cell-item.result c.loop-cell-test.true c.cell-item.is c.if-tails-gt0.true
    (sym c.is_tail_in.ensures ∙ c.if-not-is_tail_in.true))
    ∙ c.loop-cell.invariant

pub returns-then-not-begins_character : goal.returns-then-not-begins_character
returns-then-not-begins_character c =
    sym (first_refused c.args.cells.now c.loop-cell.cell-index c.loop-cell.tails (look_of c.loop-cell.pen) c.cell-item.result c.loop-cell-test.true c.cell-item.is c.if-tails-gt0.false
    (sym c.begins_character.ensures ∙ c.if-not-begins_character.true))
    ∙ c.loop-cell.invariant
