use Rattle.std.proofs.Common.{arith}
use Rattle.std.proofs.lemmas.Str.{IsUtf8-past_char, chars_past_char}
use Rattle.std.proofs.StrCases.{chars_of_empty}
use Rattle.mad_measure.proofs.measure.columns_within.Goals as goal

pub loop-c-preserved : goal.loop-c-preserved
loop-c-preserved c =
    let held = c.loop-c.invariant in
    let parts = c.in-Some.ensures.steps.0 in
    let step = chars_past_char _ _ c.in-Some.c held.utf8 parts in
    let took = c.in_ok-left.ensures in
    record {
      utf8 = IsUtf8-past_char _ _ c.in-Some.c held.utf8 parts;
      so_far = omega (arith, took.0, took.1, c.char_columns.ensures.value, rw step at held.so_far);
      within = omega (arith, took.0, took.1, held.within);
    }

pub returns : goal.returns
returns c =
    let held = c.loop-c.invariant in
    let all = rw (chars_of_empty _ c.in-None.ensures.steps.0.0) at held.so_far in
    (omega (arith, all, held.within), omega (arith, held.within))

pub returns-in_err-left : goal.returns-in_err-left
returns-in_err-left c =
    let held = c.loop-c.invariant in
    let parts = c.in-Some.ensures.steps.0 in
    let step = chars_past_char _ _ c.in-Some.c held.utf8 parts in
    rw c.from_residual.ensures (omega (arith, c.in_err-left.ensures, c.char_columns.ensures.value, rw step at held.so_far))
