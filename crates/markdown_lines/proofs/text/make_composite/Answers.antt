use Rattle.std.proofs.Common.{◌∙◌, sym, arith, map}
use Rattle.mad_md.specs.Flagged.{run_of}
use Rattle.markdown_lines.specs.Said.{said}
use Rattle.markdown_lines.proofs.RangeLemmas.{moved}
use Rattle.markdown_lines.proofs.TextLemmas.{run_pushed}
use Rattle.markdown_lines.proofs.text.make_composite.Goals as goal

pub loop-more-preserved : goal.loop-more-preserved
loop-more-preserved c =
    moved (map run_of c.loop-more.compounds.items) (map run_of c.push.new.self.items) (said c.args.runs.now) (run_of c.in-Some.run') c.loop-more.index c.loop-more.more (sym c.in-Some.ensures) (omega arith)
    (run_pushed c.loop-more.compounds.items c.push.new.self.items c.in-Some.run' c.in_ok-push-in-Some.ensures.items)
    ∙ c.loop-more.invariant
