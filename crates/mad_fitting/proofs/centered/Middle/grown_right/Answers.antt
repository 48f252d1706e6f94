use Rattle.std.proofs.Common.{◌≤◌, ◌+◌, chars, length, arith, inl, inr}
use Rattle.mad_fitting.proofs.CenteredLemmas.{more_right, last_right, one_or_none, few_after, zero_of, some_of_false}
use Rattle.mad_fitting.proofs.centered.Middle.grown_right.Goals as goal
use Rattle.mad_fitting.proofs.centered.Middle.grown_right.Goals.{then-is_empty-via-then-is_empty, then-is_empty-via-else-is_empty+then-is_empty-2}

pub returns-in_err-c-clause-last : goal.returns-in_err-c-clause-last
returns-in_err-c-clause-last c =
    let none = one_or_none c.args.self.after.now c.in_err-c.ensures in
    rw c.from_residual.ensures (last_right c.args.self c.requires.middle c.requires.turn (inr (omega (arith, none))))

pub returns-then-is_empty-clause-last : goal.returns-then-is_empty-clause-last
returns-then-is_empty-clause-last c = elim c.then-is_empty.branch as (λ _. length (chars c.args.self.text.now) ≤ c.args.self.count + 2) [
  | then-is_empty-via-then-is_empty w ↦ last_right c.args.self c.requires.middle c.requires.turn (inl (one_or_none c.args.self.before.now (zero_of (length c.args.self.before.now) w.if-is_empty.ensures)))
  | then-is_empty-via-else-is_empty+then-is_empty-2 w ↦
      last_right c.args.self c.requires.middle c.requires.turn (inr (few_after c.args.self.after.now c.in_ok-c.after.now c.in_ok-c.c c.requires.middle.after c.in_ok-c.ensures.1 (zero_of (length c.in_ok-c.after.now) w.if-is_empty-2.ensures)))
]

pub returns-clause-middle : goal.returns-clause-middle
returns-clause-middle c =
    more_right c.args.self c.requires.middle c.in_ok-c.c c.char_columns.result c.in_ok-c.after c.requires.turn c.in_ok-c.ensures.1 c.in_ok-c.ensures.0 c.char_columns.ensures.value c.char_columns.ensures.bytes
    (some_of_false (length c.args.self.before.now) c.if-is_empty.ensures) (some_of_false (length c.in_ok-c.after.now) c.if-is_empty-2.ensures)
