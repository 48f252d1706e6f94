use Rattle.std.proofs.Common.{◌++◌, string_bytes, refl, ap, ◌∙◌, arith}
use Rattle.mad_rows.specs.Rows.{text_bytes}
use Rattle.mad_layout.proofs.TakenParts.{table_rows_more, table_rows_end}
use Rattle.mad_layout.proofs.parts_writing.append_table.Goals as goal

pub loop-table-init : goal.loop-table-init
loop-table-init c = record { so_far = λ more left. (more, left, refl); none = c.requires }

pub loop-table-preserved : goal.loop-table-preserved
loop-table-preserved c =
    let step = rw c.if-branch.true at c.in_ok-lay_next.ensures in
    record {
      so_far = table_rows_more c.args.skin.now c.args.width c.args.table c.loop-table.table c.lay_next.new.self (string_bytes c.args.rows.now) (string_bytes c.loop-table.rows) (string_bytes c.append_lines.new.rows) c.loop-table.lines.items c.lay_next.new.lines.items step.1.0 c.loop-table.invariant.so_far c.loop-table.invariant.none
          step.1.1 step.1.2 (c.in_ok-append_lines.ensures ∙ ap (λ ls. string_bytes c.loop-table.rows ++ text_bytes c.args.skin.now c.args.width ls) c.as_slice.ensures.value);
      none = c.clear.ensures.items;
    }

pub loop-table-smaller : goal.loop-table-smaller
loop-table-smaller c = let step = rw c.if-branch.true at c.in_ok-lay_next.ensures in omega (arith, step.0)

pub returns-clause-rows : goal.returns-clause-rows
returns-clause-rows c =
    let end = rw c.if-branch.false at c.in_ok-lay_next.ensures in
    table_rows_end c.args.skin.now c.args.width c.args.table c.loop-table.table (string_bytes c.args.rows.now) (string_bytes c.loop-table.rows) _ c.loop-table.invariant.so_far end.1 refl

pub returns-clause-none : goal.returns-clause-none
returns-clause-none c =
    let end = rw c.if-branch.false at c.in_ok-lay_next.ensures in
    end.0 ∙ c.loop-table.invariant.none
