use Rattle.std.proofs.Common.{◌++◌, sym, ◌∙◌, ap}
use Rattle.std.proofs.lemmas.List.{append-nil, drop_all}
use Rattle.mad_fitting.specs.Zones.{behind_of}
use Rattle.mad_fitting.proofs.ZoneLemmas.{behind_more}
use Rattle.mad_fitting.proofs.zones.push_behind.Goals as goal

pub loop-run-preserved : goal.loop-run-preserved
loop-run-preserved c = behind_more c.args.number _ c.args.all.now _ _ _ _ c.loop-run-test.true c.loop-run.invariant c.in_ok-push_if.ensures

pub returns : goal.returns
returns c =
    sym (append-nil c.loop-run.runs.items) ∙ sym (ap (λ l. c.loop-run.runs.items ++ behind_of c.args.number l) (drop_all _ _ c.loop-run-test.false)) ∙ c.loop-run.invariant
