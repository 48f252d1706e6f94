use Rattle.std.proofs.Common.{ap, refl, arith}
use Rattle.std.proofs.lemmas.List.{drop_all}
use Rattle.mad_md.specs.Flagged.{flagged_text}
use Rattle.mad_measure.specs.TextColumns.{width_of}
use Rattle.mad_format.proofs.MeasureLemmas.{length_more}
use Rattle.mad_format.proofs.indents.composite_columns.Goals as goal

pub loop-compound-init : goal.loop-compound-init
loop-compound-init c = record { small = c.indent_of-length.type_inv; so_far = rw c.indent_of-length.ensures refl }

pub loop-compound-preserved : goal.loop-compound-preserved
loop-compound-preserved c = record {
  small = omega (arith, c.saturating_add-length.ensures);
  so_far = length_more _ _ _ _ _ _ _ c.loop-compound-test.true c.columns.ensures.value c.saturating_add-length.ensures c.loop-compound.invariant.so_far;
}

pub returns : goal.returns
returns c =
    let none = ap (λ l. width_of (flagged_text l)) (drop_all _ _ c.loop-compound-test.false) in
    let held = c.loop-compound.invariant in
    omega (arith, none, held.so_far, held.small)
