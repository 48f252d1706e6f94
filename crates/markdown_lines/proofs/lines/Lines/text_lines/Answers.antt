use Rattle.std.proofs.Common.{◌∙◌, sym, ap, arith, length}
use Rattle.markdown_lines.specs.Said.{said}
use Rattle.markdown_lines.proofs.TextLemmas.{made_next, made_done}
use Rattle.markdown_lines.proofs.lines.Lines.text_lines.Goals as goal

pub loop-index-preserved : goal.loop-index-preserved
loop-index-preserved c =
    made_next (said c.args.self.now.runs) c.loop-index.made.items c.push.new.self.items c.args.self.now.lines.items c.loop-index.index c.index.result.now c.in_ok-line.line
    (omega (arith, c.loop-index-test.true, ap length c.as_slice.ensures.value)) c.index.ensures c.in_ok-line.ensures c.in_ok-push.ensures.items
    ∙ c.loop-index.invariant

pub returns : goal.returns
returns c =
    sym (made_done (said c.args.self.now.runs) c.loop-index.made.items c.args.self.now.lines.items c.loop-index.index (omega (arith, c.loop-index-test.false, ap length c.as_slice.ensures.value)))
    ∙ c.loop-index.invariant
