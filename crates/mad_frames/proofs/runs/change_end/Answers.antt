use Rattle.std.proofs.Common.{arith}
use Rattle.mad_frames.proofs.BoundLemmas.{first_paid, more_paid}
use Rattle.mad_frames.proofs.runs.change_end.Goals as goal

pub loop-next-init : goal.loop-next-init
loop-next-init c =
    let e = c.character_end-end in
    record {
      after = e.ensures.after;
      within = e.ensures.within;
      head = e.ensures.head;
      paid = λ old new. first_paid c.args.old.now c.args.new.now c.args.start e.result old new c.requires.same_length e.ensures.after e.ensures.within c.requires.head e.ensures.tails c.requires.changed;
    }

pub loop-next-preserved : goal.loop-next-preserved
loop-next-preserved c =
    let e = c.character_end-end-in-Some in
    record {
      after = omega (arith, c.loop-next.invariant.after, c.in-Some.ensures.after, e.ensures.after);
      within = e.ensures.within;
      head = e.ensures.head;
      paid = λ old new. more_paid c.args.old.now c.args.new.now c.args.start c.loop-next.end c.in-Some.next e.result old new c.requires.same_length c.in-Some.ensures e.ensures.after e.ensures.within e.ensures.tails (c.loop-next.invariant.paid old new);
    }
