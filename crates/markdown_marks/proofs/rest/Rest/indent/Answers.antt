use Rattle.std.proofs.Common.{◌≡◌, ◌+◌, ◌-◌, suc, sym, ◌∙◌, arith}
use Rattle.markdown_marks.specs.Remaining.{remaining, take_columns, columns_in_front}
use Rattle.markdown_marks.proofs.ColumnLemmas.{take_next, columns_next, take_none, columns_none, take_zero, columns_zero}
use Rattle.markdown_marks.proofs.rest.Rest.indent.Goals as goal

pub loop-columns-preserved : goal.loop-columns-preserved
loop-columns-preserved c =
    let n = c.args.most - (c.loop-columns.columns + 1) in
    let m = c.args.most - c.loop-columns.columns in
    let more : m ≡ suc n = omega arith in
    let counted : columns_in_front m (remaining c.loop-columns.rest) ≡ 1 + columns_in_front n (remaining c.in-Some.next) = columns_next n m _ _ more (sym c.in-Some.ensures) in
    let left : take_columns m (remaining c.loop-columns.rest) ≡ take_columns n (remaining c.in-Some.next) = take_next n m _ _ more (sym c.in-Some.ensures) in
    record {
      counted = omega (arith, counted, c.loop-columns.invariant.counted);
      left = sym left ∙ c.loop-columns.invariant.left;
      few = omega arith;
    }

pub returns-in-None-clause-columns : goal.returns-in-None-clause-columns
returns-in-None-clause-columns c =
    let m = c.args.most - c.loop-columns.columns in
    let more : m ≡ suc (m - 1) = omega arith in
    let none : columns_in_front m (remaining c.loop-columns.rest) ≡ 0 = columns_none (m - 1) m _ more (sym c.in-None.ensures) in
    omega (arith, none, c.loop-columns.invariant.counted)

pub returns-in-None-clause-rest : goal.returns-in-None-clause-rest
returns-in-None-clause-rest c =
    let m = c.args.most - c.loop-columns.columns in
    let more : m ≡ suc (m - 1) = omega arith in
    sym (take_none (m - 1) m _ more (sym c.in-None.ensures)) ∙ c.loop-columns.invariant.left

pub returns-clause-columns : goal.returns-clause-columns
returns-clause-columns c =
    let m = c.args.most - c.loop-columns.columns in
    let none : m ≡ 0 = omega arith in
    let zero : columns_in_front m (remaining c.loop-columns.rest) ≡ 0 = columns_zero m _ none in
    omega (arith, zero, c.loop-columns.invariant.counted)

pub returns-clause-rest : goal.returns-clause-rest
returns-clause-rest c =
    let m = c.args.most - c.loop-columns.columns in
    let none : m ≡ 0 = omega arith in
    sym (take_zero m _ none) ∙ c.loop-columns.invariant.left
