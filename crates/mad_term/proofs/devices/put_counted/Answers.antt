use Rattle.std.proofs.Common.{length-drop, sym, arith}
use Rattle.std.proofs.lemmas.List.{take_rest}
use Rattle.mad_term.proofs.Traces.{after-nil, took_more}
use Rattle.mad_term.proofs.devices.put_counted.Goals as goal

pub loop-done-init : goal.loop-done-init
loop-done-init g c = record { within = omega arith; went = sym (after-nil _) }

pub loop-done-preserved : goal.loop-done-preserved
loop-done-preserved g c =
    let took = rw take_rest at c.in-Ok.ensures in
    record {
      within = omega (arith, took.within, length-drop c.loop-done.done c.args.bytes.now);
      went = took_more _ _ _ _ _ _ c.loop-done.invariant.went took.front;
    }
