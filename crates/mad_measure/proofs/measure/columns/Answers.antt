use Rattle.std.proofs.Common.{arith, ap, length}
use Rattle.std.proofs.lemmas.Str.{IsUtf8-past_char, chars_past_char, length-encode}
use Rattle.std.proofs.lemmas.List.{length-append}
use Rattle.std.proofs.StrCases.{chars_of_empty}
use Rattle.mad_measure.proofs.measure.columns.Goals as goal

pub loop-c-preserved : goal.loop-c-preserved
loop-c-preserved c =
    let held = c.loop-c.invariant in
    let parts = c.in-Some.ensures.steps.0 in
    let step = chars_past_char _ _ c.in-Some.c held.utf8 parts in
    record {
      utf8 = IsUtf8-past_char _ _ c.in-Some.c held.utf8 parts;
      so_far = omega (arith, c.char_columns-width.ensures.value, rw step at held.so_far);
      bound = omega (arith, c.char_columns-width.ensures.bytes, held.bound, length-encode c.in-Some.c, (simp length-append at (ap length parts)));
    }

pub returns-clause-value : goal.returns-clause-value
returns-clause-value c = omega (arith, rw (chars_of_empty _ c.in-None.ensures.steps.0.0) at c.loop-c.invariant.so_far)
