use Rattle.std.proofs.Common.{refl, sym, subst, rules, replicate, [], List, ℕ}
use Rattle.std.specs.List.{AllZip}
use Rattle.mad_widths.specs.SeenCells.{ColumnHasSeen}
use Rattle.mad_widths.proofs.CellLemmas.{zip_replicate}
use Rattle.mad_widths.proofs.tbl_fit.TblFit.with_room.Goals as goal

pub returns : goal.returns
returns c = record {
  width_is = refl;
  columns = subst (λ l. AllZip ColumnHasSeen l (replicate {A = List ℕ} c.args.column_count [])) (sym (c.in_ok-columns.ensures.items_if_clones_equal (search rules)))
      (zip_replicate ColumnHasSeen c.args.column_count c.empty.result [] c.empty.ensures);
}
