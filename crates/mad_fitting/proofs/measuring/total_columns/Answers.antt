use Rattle.std.proofs.Common.{ap, arith}
use Rattle.std.proofs.lemmas.List.{drop_all}
use Rattle.mad_md.specs.Flagged.{flagged_text}
use Rattle.mad_measure.specs.TextColumns.{width_of}
use Rattle.mad_fitting.proofs.ShorteningLemmas.{total_more}
use Rattle.mad_fitting.proofs.measuring.total_columns.Goals as goal

pub loop-compound-preserved : goal.loop-compound-preserved
loop-compound-preserved c =
    let held = c.loop-compound.invariant in
    record {
      so_far = total_more _ _ _ _ _ _ c.loop-compound-test.true c.columns.ensures.value held.so_far;
      bound = omega (arith, held.bound, c.columns.type_inv);
    }

pub returns-clause-value : goal.returns-clause-value
returns-clause-value c =
    let none = ap (λ l. width_of (flagged_text l)) (drop_all _ _ c.loop-compound-test.false) in
    omega (arith, none, c.loop-compound.invariant.so_far)
