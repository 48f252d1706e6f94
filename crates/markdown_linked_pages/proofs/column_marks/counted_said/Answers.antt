use Rattle.std.proofs.Common.{List, ap, arith, length}
use Rattle.mad_md.specs.declared.compound.Compound.{Compound}
use Rattle.markdown_linked_pages.proofs.ColumnLemmas.{all_counted, said_counts}
use Rattle.markdown_linked_pages.proofs.column_marks.counted_said.Goals as goal

pub returns : goal.returns
returns c =
    let last = c.loop-compound in
    said_counts c.args.said.now c.from-kind.result last.count c.from-kind.ensures
    (all_counted c.from-kind.result c.args.said.now.compounds.items last.compound-index last.count _ (omega (arith, ap (λ (l : List Compound). length l) c.deref-compound-items.ensures.value, c.loop-compound-test.false)) last.invariant)
