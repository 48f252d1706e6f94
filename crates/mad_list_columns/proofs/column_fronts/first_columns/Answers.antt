use Rattle.std.proofs.Common.{◌≡◌, ◌-◌, ◌∙◌, rules, take, ap, arith}
use Rattle.std.specs.Str.Iter.{chars_rest}
use Rattle.mad_list_columns.proofs.FrontLemmas.{front_all, front_before, room_border, room_more, room_none}
use Rattle.mad_list_columns.proofs.column_fronts.first_columns.Goals as goal

pub loop-c-init : goal.loop-c-init
loop-c-init c =
    let all : chars_rest c.into_iter-c-iterator.result ≡ c.args.text.now = search rules in
    room_none c.args.text.now (chars_rest c.into_iter-c-iterator.result) c.args.most c.utf8.text all

pub range-requires-clause-end_boundary : goal.range-requires-clause-end_boundary
range-requires-clause-end_boundary c = room_border c.args.text.now _ c.args.most c.loop-c.room c.loop-c.bytes c.loop-c.invariant

pub returns-in_default-clause-front : goal.returns-in_default-clause-front
returns-in_default-clause-front c =
    let count : c.loop-c.bytes - 0 ≡ c.loop-c.bytes = omega arith in
    c.range.ensures.value ∙ ap (λ n. take n c.args.text.now) count ∙ (front_before c.args.text.now _ _ c.args.most c.loop-c.room c.loop-c.bytes c.in-Some.c c.loop-c.invariant c.in-Some.ensures.steps.0 (omega (arith, c.in_default.ensures))).front_is

pub returns-in_default-clause-count : goal.returns-in_default-clause-count
returns-in_default-clause-count c = (front_before c.args.text.now _ _ c.args.most c.loop-c.room c.loop-c.bytes c.in-Some.c c.loop-c.invariant c.in-Some.ensures.steps.0 (omega (arith, c.in_default.ensures))).count_is

pub loop-c-preserved : goal.loop-c-preserved
loop-c-preserved c =
    room_more c.args.text.now _ _ c.args.most c.loop-c.room _ c.loop-c.bytes _ c.in-Some.c c.loop-c.invariant c.in-Some.ensures.steps.0 (omega (arith, c.in-Some-checked_sub.ensures)) (omega (arith, c.len_utf8-bytes.ensures.value))

pub returns-clause-front : goal.returns-clause-front
returns-clause-front c =
    let count : c.loop-c.bytes - 0 ≡ c.loop-c.bytes = omega arith in
    c.range-2.ensures.value ∙ ap (λ n. take n c.args.text.now) count ∙ (front_all c.args.text.now _ c.args.most c.loop-c.room c.loop-c.bytes c.loop-c.invariant c.in-None.ensures.steps.0.0).front_is

pub returns-clause-count : goal.returns-clause-count
returns-clause-count c = (front_all c.args.text.now _ c.args.most c.loop-c.room c.loop-c.bytes c.loop-c.invariant c.in-None.ensures.steps.0.0).count_is
