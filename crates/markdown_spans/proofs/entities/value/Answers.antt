use Rattle.std.proofs.Common.{◌≤◌, ◌^◌, lit<, arith}
use Rattle.std.proofs.Math.Nat.{pow-le-pow_right}
use Rattle.markdown_spans.proofs.entities.value.Goals as goal

pub overflow_mul-value : goal.overflow_mul-value
overflow_mul-value c =
    let index : c.loop-b.b-index ≤ 5 = omega (arith, c.requires.few, c.loop-b-test.true) in
    let small : 16 ^ c.loop-b.b-index ≤ 16 ^ 5 = pow-le-pow_right (lit< tt) index in
    omega (arith, small, c.loop-b.invariant.small)

pub overflow_add-value : goal.overflow_add-value
overflow_add-value c =
    let index : c.loop-b.b-index ≤ 5 = omega (arith, c.requires.few, c.loop-b-test.true) in
    let small : 16 ^ c.loop-b.b-index ≤ 16 ^ 5 = pow-le-pow_right (lit< tt) index in
    omega (arith, small, c.loop-b.invariant.small, c.digit.ensures.few)
