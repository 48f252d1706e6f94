use Rattle.std.proofs.Common.{◌≡◌, ◌-◌, rules, refl, take, ap, ◌∙◌, arith}
use Rattle.std.specs.Str.Iter.{chars_rest}
use Rattle.mad_measure.proofs.StrFitLemmas.{no_chars, one_char_more, first_border, first_are, all_are_first}
use Rattle.mad_measure.proofs.char_fronts.first_chars.Goals as goal

pub loop-c-init : goal.loop-c-init
loop-c-init c =
    let all : chars_rest c.into_iter-c-iterator.result ≡ c.args.text.now = search rules in
    record { counted = no_chars c.args.text.now (chars_rest c.into_iter-c-iterator.result) c.utf8.text all; within = omega arith }

pub range-requires-clause-end_boundary : goal.range-requires-clause-end_boundary
range-requires-clause-end_boundary c = first_border c.args.text.now _ c.loop-c.bytes c.loop-c.count c.loop-c.invariant.counted

pub returns-then-count-most-clause-front : goal.returns-then-count-most-clause-front
returns-then-count-most-clause-front c =
    let count : c.loop-c.bytes - 0 ≡ c.loop-c.bytes = omega arith in
    c.range.ensures.value ∙ ap (λ n. take n c.args.text.now) count ∙ (first_are c.args.text.now _ c.loop-c.bytes c.loop-c.count c.args.most c.utf8.text c.loop-c.invariant.counted (omega arith)).0

pub returns-then-count-most-clause-count : goal.returns-then-count-most-clause-count
returns-then-count-most-clause-count c = (first_are c.args.text.now _ c.loop-c.bytes c.loop-c.count c.args.most c.utf8.text c.loop-c.invariant.counted (omega arith)).1

pub loop-c-preserved : goal.loop-c-preserved
loop-c-preserved c =
    let held = c.loop-c.invariant in
    record {
      counted = one_char_more c.args.text.now _ _ c.loop-c.bytes _ c.loop-c.count _ c.in-Some.c c.utf8.text held.counted c.in-Some.ensures.steps.0 (omega (arith, c.len_utf8-bytes.ensures.value)) refl;
      within = omega (arith, held.within);
    }

pub returns-clause-front : goal.returns-clause-front
returns-clause-front c =
    let count : c.loop-c.bytes - 0 ≡ c.loop-c.bytes = omega arith in
    c.range-2.ensures.value ∙ ap (λ n. take n c.args.text.now) count ∙ (all_are_first c.args.text.now _ c.loop-c.bytes c.loop-c.count c.args.most c.utf8.text c.loop-c.invariant.counted c.loop-c.invariant.within c.in-None.ensures.steps.0.0).0

pub returns-clause-count : goal.returns-clause-count
returns-clause-count c = (all_are_first c.args.text.now _ c.loop-c.bytes c.loop-c.count c.args.most c.utf8.text c.loop-c.invariant.counted c.loop-c.invariant.within c.in-None.ensures.steps.0.0).1
