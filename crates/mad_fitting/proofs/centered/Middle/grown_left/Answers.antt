use Rattle.std.proofs.Common.{◌≤◌, ◌+◌, chars, length, inl, inr}
use Rattle.mad_fitting.proofs.CenteredLemmas.{more_left, last_left, one_or_none, few_before, zero_of, some_of_false}
use Rattle.mad_fitting.proofs.centered.Middle.grown_left.Goals as goal
use Rattle.mad_fitting.proofs.centered.Middle.grown_left.Goals.{then-is_empty-via-then-is_empty, then-is_empty-via-else-is_empty+then-is_empty-2}

pub returns-then-is_empty-clause-last : goal.returns-then-is_empty-clause-last
returns-then-is_empty-clause-last c = elim c.then-is_empty.branch as (λ _. length (chars c.args.self.text.now) ≤ c.args.self.count + 2) [
  | then-is_empty-via-then-is_empty w ↦
      last_left c.args.self c.requires.middle c.requires.turn (inl (few_before c.args.self.before.now c.in_ok-before.before.now c.in_ok-before.c c.requires.middle.before c.in_ok-before.ensures.0 c.in_ok-before.ensures.1 (zero_of (length c.in_ok-before.before.now) w.if-is_empty.ensures)))
  | then-is_empty-via-else-is_empty+then-is_empty-2 w ↦ last_left c.args.self c.requires.middle c.requires.turn (inr (one_or_none c.args.self.after.now (zero_of (length c.args.self.after.now) w.if-is_empty-2.ensures)))
]

pub returns-clause-middle : goal.returns-clause-middle
returns-clause-middle c =
    more_left c.args.self c.requires.middle c.in_ok-before.c c.char_columns.result c.in_ok-before.before c.requires.turn c.in_ok-before.ensures.1 c.in_ok-before.ensures.0 c.char_columns.ensures.value c.char_columns.ensures.bytes
    (some_of_false (length c.in_ok-before.before.now) c.if-is_empty.ensures) (some_of_false (length c.args.self.after.now) c.if-is_empty-2.ensures)
