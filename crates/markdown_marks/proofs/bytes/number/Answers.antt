use Rattle.std.proofs.Common.{◌≤◌, ◌^◌, lit<, arith}
use Rattle.std.proofs.Math.Nat.{pow-le-pow_right}
use Rattle.markdown_marks.proofs.bytes.number.Goals as goal

pub overflow_mul-number : goal.overflow_mul-number
overflow_mul-number c =
    let index : c.loop-digit.digit-index ≤ 8 = omega (arith, c.requires.few, c.loop-digit-test.true) in
    let small : 10 ^ c.loop-digit.digit-index ≤ 10 ^ 8 = pow-le-pow_right (lit< tt) index in
    omega (arith, small, c.loop-digit.invariant.small)

pub overflow_add-number : goal.overflow_add-number
overflow_add-number c =
    let index : c.loop-digit.digit-index ≤ 8 = omega (arith, c.requires.few, c.loop-digit-test.true) in
    let small : 10 ^ c.loop-digit.digit-index ≤ 10 ^ 8 = pow-le-pow_right (lit< tt) index in
    omega (arith, small, c.loop-digit.invariant.small, c.from.ensures, c.from.auto)
