use Rattle.std.proofs.Common.{[], ◌<◌, ◌≤◌, length, get_or, arith, sym, subst}
use Rattle.std.specs.List.{AllZip}
use Rattle.std.proofs.lemmas.List.{set_past}
use Rattle.mad_widths.specs.SeenCells.{ColumnHasSeen}
use Rattle.mad_widths.proofs.CellLemmas.{zip_set, zip_at, zip_length}
use Rattle.mad_widths.proofs.tbl_fit.TblFit.see_cell.Goals as goal

pub returns-then-column-len : goal.returns-then-column-len
returns-then-column-len c = λ width cells h.
    let old = c.args.self.now.columns.items in
    let within : c.args.column < length old = omega (arith, c.if-column-len.true, c.len.ensures, c.args.self.now.columns.ok.0) in
    record {
      width_is = h.width_is;
      columns = zip_set ColumnHasSeen old cells c.args.column c.with_cell.result _ h.columns
          (c.with_cell.ensures _ (subst (λ x. ColumnHasSeen x (get_or cells c.args.column [])) (sym c.index.ensures) (zip_at ColumnHasSeen old cells c.args.column c.index.result.now [] h.columns within)));
    }

pub returns-else-column-len : goal.returns-else-column-len
returns-else-column-len c = λ width cells h.
    let old = c.args.self.now.columns.items in
    let past : length cells ≤ c.args.column = omega (arith, c.if-column-len.false, c.len.ensures, c.args.self.now.columns.ok.0, zip_length ColumnHasSeen old cells h.columns) in
    record {
      width_is = h.width_is;
      columns = subst (AllZip ColumnHasSeen old) (sym (set_past cells c.args.column _ past)) h.columns;
    }
