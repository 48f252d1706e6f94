use Rattle.std.proofs.Common.{ℕ, ◌++◌, ◌∷◌, [], ◌∙◌, sym, ap, arith, append-nil}
use Rattle.mad_marks.specs.LineMarks.{has_mark}
use Rattle.mad_marks.proofs.NumberLemmas.{passed_none, cell_numbers, cell_passed}
use Rattle.mad_marks.proofs.numbers.RowNumbers.push_cells.Goals as goal

pub loop-i-init : goal.loop-i-init
loop-i-init c = record {
  within = omega arith;
  numbers = sym (append-nil c.args.self.now.numbers.items);
  starts = c.in_ok-push.ensures.items ∙ ap (λ (k : ℕ). c.args.self.now.starts.items ++ k ∷ []) (c.len.ensures ∙ c.args.self.now.numbers.ok.0);
  passed = sym (passed_none has_mark c.args.firsts.now);
}

pub loop-i-preserved : goal.loop-i-preserved
loop-i-preserved c =
    let held = c.loop-i.invariant in
    record {
      within = omega (arith, c.loop-i-test.true);
      numbers = cell_numbers has_mark c.args.self.now.numbers.items c.loop-i.self.numbers.items _ c.args.firsts.now c.loop-i.firsts c.args.cells.now c.loop-i.i c.first_at-number.result c.loop-i-test.true held.passed c.first_at-number.ensures held.numbers c.in_ok-push-2.ensures.items;
      starts = held.starts;
      passed = cell_passed has_mark c.args.firsts.now c.loop-i.firsts _ c.args.cells.now c.loop-i.i c.in_ok-count_in.field-0 c.index-cells-i.result c.loop-i-test.true held.passed c.index-cells-i.is c.in_ok-count_in.ensures c.in_ok-pass.ensures;
    }
