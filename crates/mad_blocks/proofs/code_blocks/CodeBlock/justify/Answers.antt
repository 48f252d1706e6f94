use Rattle.std.proofs.Common.{arith, ap, sym, ◌∙◌}
use Rattle.mad_blocks.specs.CodeBlocks.{placed_line}
use Rattle.mad_blocks.proofs.CodeBlockLemmas.{placed_step}
use Rattle.mad_blocks.proofs.code_blocks.CodeBlock.justify.Goals as goal

pub loop-index-preserved : goal.loop-index-preserved
loop-index-preserved c =
    let held = c.loop-index.invariant in
    let own = c.args.self.now in
    record {
      from = omega (arith, held.from);
      to = omega (arith, c.loop-index-test.true);
      so_far = placed_step own.width own.start c.loop-index.index c.args.lines.now c.loop-index.lines c.index-lines-index.result c.justify_line.new.line held.from (omega (arith, c.loop-index-test.true, c.requires (omega (arith, c.if-self-eq0.false)))) held.so_far c.index-lines-index.is (c.justify_line.ensures ∙ ap (placed_line own.width) (sym c.index-lines-index.is));
    }
