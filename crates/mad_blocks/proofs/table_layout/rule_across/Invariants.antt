use Rattle.std.proofs.Common.{◌≡◌, ◌++◌, drop, map}
use Rattle.mad_measure.specs.declared.spacing.Spacing.{Spacing}
use Rattle.mad_blocks.specs.Tables.{rule_width}
use Rattle.mad_blocks.proofs.table_layout.rule_across.Given as goal

abbrev pub invariant-loop-column : goal.invariant-loop-column
invariant-loop-column l = record {
  widths_are : l.widths.items ++ map (λ (c : Spacing). rule_width l.cell_blanks c.width) (drop l.column-index l.columns) ≡ map (λ (c : Spacing). rule_width l.cell_blanks c.width) l.columns;
  aligns_are : l.aligns.items ++ map (λ (c : Spacing). c.align) (drop l.column-index l.columns) ≡ map (λ (c : Spacing). c.align) l.columns;
}
