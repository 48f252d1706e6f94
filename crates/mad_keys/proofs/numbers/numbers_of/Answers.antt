use Rattle.std.proofs.Common.{◌≡◌, ℕ, ◌≤◌, List, [], ◌∷◌, length, Some, None, refl, ap, sym, ◌∙◌, arith}
use Rattle.mad_keys.specs.Digits.{with_number, numbers_at}
use Rattle.mad_keys.proofs.NumberLemmas.{scan-semicolon, scan-stray, scan-end}
use Rattle.mad_keys.proofs.numbers.numbers_of.Goals as goal

empty : (bs : List ℕ) → length bs ≡ 0 → numbers_at bs ≡ Some []
empty [] h = refl
empty (b ∷ bs) h = absurd (omega arith)

pub returns-then-is_empty : goal.returns-then-is_empty
returns-then-is_empty c =
    let none : length c.args.bytes.now ≡ 0 = grind arith in
    sym (empty c.args.bytes.now none ∙ ap Some (sym c.new-numbers.ensures))

pub returns-then-not-push : goal.returns-then-not-push
returns-then-not-push c =
    let full : with_number c.loop-b.numbers c.loop-b.number ≡ None = grind arith in
    sym (c.loop-b.invariant ∙ scan-semicolon c.args.bytes.now c.loop-b.b-index c.loop-b.numbers c.loop-b.number c.loop-b-test.true c.if-b-eq59.true full)

pub returns-in_err-with_byte : goal.returns-in_err-with_byte
returns-in_err-with_byte c =
    sym (c.loop-b.invariant
    ∙ scan-stray c.args.bytes.now c.loop-b.b-index c.loop-b.numbers c.loop-b.number c.loop-b-test.true c.if-b-eq59.false (sym c.in_err-with_byte.ensures) ∙ sym c.from_residual.ensures)

pub returns-then-not-push-2 : goal.returns-then-not-push-2
returns-then-not-push-2 c =
    let full : with_number c.loop-b.numbers c.loop-b.number ≡ None = grind arith in
    let over : length c.args.bytes.now ≤ c.loop-b.b-index = omega arith in
    sym (c.loop-b.invariant ∙ scan-end c.args.bytes.now c.loop-b.numbers c.loop-b.b-index c.loop-b.number over ∙ full)

pub returns : goal.returns
returns c =
    let done : with_number c.loop-b.numbers c.loop-b.number ≡ Some c.push-2.new.self = grind arith in
    let over : length c.args.bytes.now ≤ c.loop-b.b-index = omega arith in
    sym (c.loop-b.invariant ∙ scan-end c.args.bytes.now c.loop-b.numbers c.loop-b.b-index c.loop-b.number over ∙ done)
