use Rattle.std.proofs.Common.{◌∙◌, ◌++◌, ◌∷◌, [], sym, ap, arith}
use Rattle.markdown_lines.specs.Said.{said}
use Rattle.mad_md.specs.Flagged.{run_of, Flags}
use Rattle.markdown_lines.proofs.RangeLemmas.{moved, ended, ended_none}
use Rattle.markdown_lines.proofs.runs.Runs.add.Goals as goal

pub returns-in-None-clause-value : goal.returns-in-None-clause-value
returns-in-None-clause-value c = sym (ended_none (said c.loop-more.self) (said c.args.from.now) c.loop-more.index c.loop-more.more (sym c.in-None.ensures)) ∙ c.loop-more.invariant.same

pub returns-then-index-total-clause-value : goal.returns-then-index-total-clause-value
returns-then-index-total-clause-value c = sym (ended (said c.loop-more.self) (said c.args.from.now) c.loop-more.index c.loop-more.more (omega (arith, c.if-index-total.true, c.count-total.ensures))) ∙ c.loop-more.invariant.same

pub loop-more-preserved : goal.loop-more-preserved
loop-more-preserved c = record {
  same = moved (said c.loop-more.self) (said c.push.new.self) (said c.args.from.now) (run_of c.in-Some.run') c.loop-more.index c.loop-more.more (sym c.in-Some.ensures) (omega arith) (c.in_ok-push-in-Some.ensures.value ∙ ap (λ (f : Flags). said c.loop-more.self ++ record { flags = f; text = c.in-Some.run'.src.now } ∷ []) c.flags_of.ensures)
      ∙ c.loop-more.invariant.same;
  grows = omega (arith, c.in_ok-push-in-Some.ensures.grows, c.loop-more.invariant.grows);
}
