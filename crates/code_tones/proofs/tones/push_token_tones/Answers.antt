use Rattle.std.proofs.Common.{◌≡◌, ◌<◌, Bool, true, false, ◌+◌, ◌-◌, ◌++◌, sym, ap, subst, ◌∙◌, arith, length, length-drop, drop}
use Rattle.std.proofs.lemmas.Bool.Decides.{nat_tests}
use Rattle.mad_mark_runs.specs.Values.{AreRising, end_from, joined_from, values_of}
use Rattle.code_tones.specs.Cursor.{tones_left}
use Rattle.code_tones.specs.Tones.{byte_tones}
use Rattle.code_tones.proofs.WalkLemmas.{next_char, other_tone, same_tone, no_tone, moved, left_tones, ends_with}
use Rattle.code_tones.proofs.JoinLemmas.{are_other, are_same, joined_with, none_joined, other_joined, runs_moved, same_joined}
use Rattle.code_tones.proofs.tones.push_token_tones.Goals as goal
use Rattle.code_tones.proofs.tones.push_token_tones.Goals.{then-is_counted, then-tone-value+in_ok-push_run, else-tone-value, else-is_counted}

pub loop-tones-preserved : goal.loop-tones-preserved
loop-tones-preserved c =
    let before = c.loop-tones in
    let tone = c.next-tone.result in
    let some : 0 < length before.rest.now = grind (arith, nat_tests, c.is_empty.ensures, c.loop-tones-test.true) in
    let after = left_tones (tones_left c.pass.new.self) c.tail-rest.result.now in
    let left = left_tones (tones_left before.tones) before.rest.now in
    let all = values_of c.args.runs.now.items ++ left_tones (byte_tones c.args.tokens.now) c.args.text.now in
    let whole = c.args.runs.now.items ++ joined_from (end_from 0 c.args.runs.now.items) 0 0 (left_tones (byte_tones c.args.tokens.now) c.args.text.now) in
    let after_is = c.pass.ensures ∙ ap (drop (c.first_char-c.result.1 - 1)) c.next-tone.ensures.rest in
    let left_is = λ (t : Bool) (e : c.is_counted.result ≡ t).
    next_char (tones_left before.tones) (tones_left c.pass.new.self) before.rest.now c.tail-rest.result.now tone c.first_char-c.result.0 c.first_char-c.result.1 t
    some c.next-tone.ensures.first c.first_char-c.ensures.char c.first_char-c.ensures.size (sym c.is_counted.ensures ∙ e) after_is c.tail-rest.ensures in
    let passed : length c.tail-rest.result.now ≡ length before.rest.now - c.first_char-c.result.1 = ap length c.tail-rest.ensures ∙ length-drop c.first_char-c.result.1 before.rest.now in
    record {
      rising = elim c.if-is_counted.branch [
        | then-is_counted w ↦ elim w.if-tone-value.branch [
          | then-tone-value+in_ok-push_run v ↦ subst (λ r. AreRising 0 r.items) (sym (w.runs-is ∙ v.runs-is)) v.in_ok-push_run.ensures.rising
          | else-tone-value v ↦ subst (λ r. AreRising 0 r.items) (sym (w.runs-is ∙ v.runs-is)) before.invariant.rising
        ]
        | else-is_counted w ↦ subst (λ r. AreRising 0 r.items) (sym w.runs-is) before.invariant.rising
      ];
      few = elim c.if-is_counted.branch [
        | then-is_counted w ↦ elim w.if-tone-value.branch [
          | then-tone-value+in_ok-push_run v ↦ omega (arith, passed, before.invariant.few, c.first_char-c.ensures.some, c.first_char-c.ensures.within)
          | else-tone-value v ↦ omega (arith, passed, before.invariant.few, c.first_char-c.ensures.some, c.first_char-c.ensures.within)
        ]
        | else-is_counted w ↦ omega (arith, passed, before.invariant.few, c.first_char-c.ensures.some, c.first_char-c.ensures.within)
      ];
      runs = elim c.if-is_counted.branch [
        | then-is_counted w ↦ elim w.if-tone-value.branch [
          | then-tone-value+in_ok-push_run v ↦
              runs_moved v.push_run.new.runs.items c.if-is_counted.runs.items after whole 1 c.if-is_counted.count tone c.if-is_counted.value
              (ap (λ r. r.items) (w.runs-is ∙ v.runs-is)) (omega arith) (w.value-is ∙ v.value-is)
              (other_joined before.runs.items v.push_run.new.runs.items after left whole tone before.value before.count (are_other tone before.value v.if-tone-value.true) v.in_ok-push_run.ensures.runs (left_is true w.if-is_counted.true) before.invariant.runs)
          | else-tone-value v ↦
              runs_moved before.runs.items c.if-is_counted.runs.items after whole (before.count + 1) c.if-is_counted.count before.value c.if-is_counted.value
              (ap (λ r. r.items) (w.runs-is ∙ v.runs-is)) (omega arith) (w.value-is ∙ v.value-is)
              (same_joined before.runs.items after left whole tone before.value before.count (are_same tone before.value v.if-tone-value.false) (left_is true w.if-is_counted.true) before.invariant.runs)
        ]
        | else-is_counted w ↦
            runs_moved before.runs.items c.if-is_counted.runs.items after whole before.count c.if-is_counted.count before.value c.if-is_counted.value
            (ap (λ r. r.items) w.runs-is) w.count-is w.value-is
            (none_joined before.runs.items after left whole before.value before.count (left_is false w.if-is_counted.false) before.invariant.runs)
      ];
      so_far = elim c.if-is_counted.branch [
        | then-is_counted w ↦ elim w.if-tone-value.branch [
          | then-tone-value+in_ok-push_run v ↦
              moved (values_of v.push_run.new.runs.items) (values_of c.if-is_counted.runs.items) after all 1 c.if-is_counted.count tone c.if-is_counted.value
              (ap (λ r. values_of r.items) (w.runs-is ∙ v.runs-is)) (omega arith) (w.value-is ∙ v.value-is)
              (other_tone (values_of before.runs.items) (values_of v.push_run.new.runs.items) after left all tone before.value before.count v.in_ok-push_run.ensures.values (left_is true w.if-is_counted.true) before.invariant.so_far)
          | else-tone-value v ↦
              moved (values_of before.runs.items) (values_of c.if-is_counted.runs.items) after all (before.count + 1) c.if-is_counted.count before.value c.if-is_counted.value
              (ap (λ r. values_of r.items) (w.runs-is ∙ v.runs-is)) (omega arith) (w.value-is ∙ v.value-is)
              (same_tone (values_of before.runs.items) after left all tone before.value before.count v.if-tone-value.false (left_is true w.if-is_counted.true) before.invariant.so_far)
        ]
        | else-is_counted w ↦
            moved (values_of before.runs.items) (values_of c.if-is_counted.runs.items) after all before.count c.if-is_counted.count before.value c.if-is_counted.value
            (ap (λ r. values_of r.items) w.runs-is) w.count-is w.value-is
            (no_tone (values_of before.runs.items) after left all before.value before.count (left_is false w.if-is_counted.false) before.invariant.so_far)
      ];
    }

pub returns-clause-values : goal.returns-clause-values
returns-clause-values c =
    let before = c.loop-tones in
    let none : length before.rest.now ≡ 0 = grind (arith, nat_tests, c.is_empty.ensures, c.loop-tones-test.false) in
    ends_with c.push_run-2.result (values_of before.runs.items) (values_of c.push_run-2.new.runs.items) _ (tones_left before.tones) before.rest.now before.value before.count none c.push_run-2.ensures.values before.invariant.so_far

pub returns-clause-runs : goal.returns-clause-runs
returns-clause-runs c =
    let before = c.loop-tones in
    let none : length before.rest.now ≡ 0 = grind (arith, nat_tests, c.is_empty.ensures, c.loop-tones-test.false) in
    joined_with c.push_run-2.result before.runs.items c.push_run-2.new.runs.items _ (tones_left before.tones) before.rest.now before.value before.count none c.push_run-2.ensures.runs before.invariant.runs
