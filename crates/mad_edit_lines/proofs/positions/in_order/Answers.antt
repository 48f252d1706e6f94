use Rattle.std.proofs.Common.{ℕ, List, ◌≡◌, ◌<◌, ◌≤◌, true, false, inl, inr, arith, rules}
use Rattle.std.proofs.lemmas.Bool.{cases_lt}
use Rattle.mad_edit_lines.specs.TextLines.{IsPosition, offset_of}
use Rattle.mad_edit_lines.proofs.PositionLemmas.{IsEarlier, earlier_position, lesser_offset}
use Rattle.mad_edit_lines.proofs.positions.in_order.Goals as goal

sooner : (c : goal.Then-lt) (ls : List (List ℕ)) → IsPosition ls c.args.one → IsPosition ls c.args.other → offset_of ls c.args.other < offset_of ls c.args.one
sooner c ls ha hb =
    let earlier : IsEarlier c.args.other c.args.one = search rules in
    earlier_position ls c.args.other c.args.one hb ha earlier

later : (c : goal.Else-lt) (ls : List (List ℕ)) → IsPosition ls c.args.one → IsPosition ls c.args.other → offset_of ls c.args.one ≤ offset_of ls c.args.other
later c ls ha hb = elim (cases_lt (offset_of ls c.args.other) (offset_of ls c.args.one)) [
  | inl less ↦
      let earlier = lesser_offset ls c.args.other c.args.one hb ha less in
      let is : c.lt.result ≡ true = search rules in
      let not : c.lt.result ≡ false = search rules in
      cc
  | inr le ↦ le
]

pub returns-then-lt-clause-min : goal.returns-then-lt-clause-min
returns-then-lt-clause-min c ls ha hb = let e = sooner c ls ha hb in omega arith

pub returns-then-lt-clause-max : goal.returns-then-lt-clause-max
returns-then-lt-clause-max c ls ha hb = let e = sooner c ls ha hb in omega arith

pub returns-else-lt-clause-min : goal.returns-else-lt-clause-min
returns-else-lt-clause-min c ls ha hb = let e = later c ls ha hb in omega arith

pub returns-else-lt-clause-max : goal.returns-else-lt-clause-max
returns-else-lt-clause-max c ls ha hb = let e = later c ls ha hb in omega arith
