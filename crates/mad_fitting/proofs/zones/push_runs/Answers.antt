use Rattle.std.proofs.Common.{rules}
use Rattle.std.proofs.lemmas.Str.{IsCharBoundary-start}
use Rattle.mad_fitting.proofs.ZoneLemmas.{found_start, found_more, found_end}
use Rattle.mad_fitting.proofs.zones.push_runs.Goals as goal

pub loop-run-init : goal.loop-run-init
loop-run-init c = record { border = IsCharBoundary-start c.args.compound.src.now (search rules); found = found_start c.args.number c.args.compound.src.now c.args.runs.now.items }

pub loop-run-preserved : goal.loop-run-preserved
loop-run-preserved c = record {
  border = c.in-Some.ensures.part.last;
  found = found_more _ _ _ _ _ _ c.in-Some.run' c.loop-run.invariant.found c.in-Some.ensures.next c.in_ok-push_run.ensures;
}

pub returns : goal.returns
returns c = found_end c.args.number c.args.compound.src.now c.loop-run.at c.args.runs.now.items c.loop-run.runs.items c.loop-run.invariant.found c.in_default.ensures.last
