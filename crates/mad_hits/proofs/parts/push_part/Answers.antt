use Rattle.std.proofs.Common.{◌≡◌, nat_lt, true, false, arith, map}
use Rattle.std.proofs.lemmas.Bool.Decides.{nat_tests}
use Rattle.mad_hits.specs.Hits.{marked_of}
use Rattle.mad_hits.proofs.LineLemmas.{part_left, part_put}
use Rattle.mad_hits.proofs.parts.push_part.Goals as goal

pub returns-then-part : goal.returns-then-part
returns-then-part c = λ n at.
    let some : nat_lt c.args.part.0 c.args.part.1 ≡ true = grind (arith, nat_tests, c.if-part.true) in
    part_put _ _ c.in_ok-hit.hit n _ _ c.args.text.now c.args.bytes.now c.args.part some c.in_ok-push.ensures.items (c.in_ok-hit.ensures n at) c.char_count-start.ensures (rw c.char_count.ensures at c.saturating_sub-count.ensures)

pub returns : goal.returns
returns c = λ n at.
    let none : nat_lt c.args.part.0 c.args.part.1 ≡ false = grind (arith, nat_tests, c.if-part.false) in
    part_left (map marked_of c.args.hits.now.items) n c.args.text.now c.args.bytes.now c.args.part none
