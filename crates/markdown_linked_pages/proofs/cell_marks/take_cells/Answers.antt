use Rattle.std.proofs.Common.{ℕ, ◌+◌, ◌<◌, ◌++◌, ◌∙◌, List, ap, arith, length, map, sym, take}
use Rattle.std.proofs.lemmas.List.{map-set}
use Rattle.mad_mark_runs.specs.declared.mark_runs.MarkRun.{MarkRun}
use Rattle.markdown_linked_pages.specs.CellMarks.{single_runs}
use Rattle.markdown_linked_pages.specs.ColumnsKept.{values_left}
use Rattle.markdown_linked_pages.proofs.TakenLemmas.{below_long, cell_left, cell_taken, left_at, lefts_long, none_below, nothing_taken, row_left, row_taken}
use Rattle.markdown_linked_pages.proofs.cell_marks.take_cells.Goals as goal

pub loop-i-init : goal.loop-i-init
loop-i-init c = record { within = omega arith; marks = nothing_taken c.args.marks.now.items (map values_left c.args.left.now); left = sym (none_below (map values_left c.args.left.now)) }

pub loop-i-preserved : goal.loop-i-preserved
loop-i-preserved c =
    let before = c.loop-i in
    let held = before.invariant in
    let done = c.in_ok-left.ensures in
    let columns = map values_left c.args.left.now in
    let within : before.i < length columns = omega (arith, c.if-i-left.true, lefts_long before.left, ap (λ (l : List (List ℕ)). length l) held.left, below_long columns (take before.i c.args.cells.now)) in
    let values = left_at before.left before.i _ c.if-i-left.true in
    record {
      within = omega (arith, c.loop-i-test.true);
      marks = cell_taken c.args.marks.now.items before.marks.items c.take_values.new.marks.items columns (map values_left before.left) c.args.cells.now before.i c.index-cells-i.result c.in_ok-count_in.field-0 _ c.loop-i-test.true within c.index-cells-i.is c.in_ok-count_in.ensures values held.left
          held.marks done.marks;
      left = cell_left columns (map values_left before.left) _ c.args.cells.now before.i c.index-cells-i.result c.in_ok-count_in.field-0 _ c.in_ok-left.field-0.now c.loop-i-test.true within c.index-cells-i.is c.in_ok-count_in.ensures values done.left held.left
          (map-set values_left before.left before.i c.in_ok-left.field-0);
    }

pub returns-else-i-left-clause-marks : goal.returns-else-i-left-clause-marks
returns-else-i-left-clause-marks c =
    let last = c.loop-i in
    let columns = map values_left c.args.left.now in
    last.invariant.marks
    ∙ ap (λ (l : List ℕ). c.args.marks.now.items ++ single_runs (length c.args.marks.now.items) l)
    (row_taken columns c.args.cells.now last.i
    (λ few within. omega (arith, within, c.if-i-left.false, lefts_long last.left, ap (λ (l : List (List ℕ)). length l) last.invariant.left, below_long columns (take last.i c.args.cells.now))))

pub returns-else-i-left-clause-left : goal.returns-else-i-left-clause-left
returns-else-i-left-clause-left c =
    let last = c.loop-i in
    let columns = map values_left c.args.left.now in
    last.invariant.left
    ∙ row_left columns c.args.cells.now last.i
    (λ few within. omega (arith, within, c.if-i-left.false, lefts_long last.left, ap (λ (l : List (List ℕ)). length l) last.invariant.left, below_long columns (take last.i c.args.cells.now)))
