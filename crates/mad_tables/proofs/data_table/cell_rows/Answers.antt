use Rattle.std.proofs.Common.{rules, inl}
use Rattle.mad_tables.proofs.CellLemmas.{no_cells, full_rows}
use Rattle.mad_tables.proofs.data_table.cell_rows.Goals.{then-columns-eq0-via-then-columns-eq0, then-columns-eq0-via-else-columns-eq0+then-not-is_multiple_of}
use Rattle.mad_tables.proofs.data_table.cell_rows.Goals as goal

pub returns-then-columns-eq0 : goal.returns-then-columns-eq0
returns-then-columns-eq0 c =
    elim c.then-columns-eq0.branch [
      | then-columns-eq0-via-then-columns-eq0 w ↦ inl w.if-columns-eq0.true
      | then-columns-eq0-via-else-columns-eq0+then-not-is_multiple_of w ↦ no_cells c.args.text.now c.args.lengths.now c.args.columns (λ p. search rules)
    ]

pub returns-in_ok-rows_of-in-Some : goal.returns-in_ok-rows_of-in-Some
returns-in_ok-rows_of-in-Some c =
    full_rows c.args.text.now c.args.lengths.now c.args.columns _ _ (c.is_multiple_of.ensures.0 c.if-not-is_multiple_of.false) (search rules) (search rules) c.in_ok-rows_of-in-Some.ensures
