use Rattle.std.proofs.Common.{rules, length, ap, arith}
use Rattle.mad_blocks.specs.PartCursors.{lines_left, IsUnmarkedRead}
use Rattle.mad_term.proofs.Traces.{stopped_before}
use Rattle.mad_term.specs.declared.errors.Error.TheVariants.{Memory}
use Rattle.mad_layout.proofs.UnmarkedLineLemmas.{unmarked_start, unmarked_put, unmarked_sent, unmarked_done, unmarked_refused, unmarked_none}
use Rattle.mad_layout.proofs.parts_writing.hand_on_unmarked.Goals as goal

pub returns-in_err-hand_on-clause-handed : goal.returns-in_err-hand_on-clause-handed
returns-in_err-hand_on-clause-handed g c = unmarked_none _ _ _ _ _ _ _ _ _ _ c.from_residual.ensures.1 c.in_err-hand_on.ensures.handed

pub returns-in_default-clause-handed : goal.returns-in_default-clause-handed
returns-in_default-clause-handed g c = unmarked_done _ _ _ _ _ _ _ _ (unmarked_start _ _ _ _ _ _ _ c.in_ok-hand_on.ensures.handed)

pub loop-text-init : goal.loop-text-init
loop-text-init g c = record {
  so_far = unmarked_start _ _ _ _ _ _ _ c.in_ok-hand_on.ensures.handed;
  none = c.in_ok-hand_on.ensures.dropped;
  shorter = omega arith;
}

pub returns-in_err-push_str-clause-handed : goal.returns-in_err-push_str-clause-handed
returns-in_err-push_str-clause-handed g c = unmarked_refused _ _ _ _ _ _ _ _ _ Memory _ _ _ c.loop-text.invariant.so_far c.from_residual-in_err-push_str.ensures.1 (stopped_before _ _)

pub returns-in_err-push_str-2-clause-handed : goal.returns-in_err-push_str-2-clause-handed
returns-in_err-push_str-2-clause-handed g c = unmarked_refused _ _ _ _ _ _ _ _ _ Memory _ _ _ c.loop-text.invariant.so_far c.from_residual-in_err-push_str-2.ensures.1 (stopped_before _ _)

pub loop-text-preserved : goal.loop-text-preserved
loop-text-preserved g c =
    let held = c.loop-text.invariant in
    let text = c.in-Some-next_unmarked.text in
    let step : IsUnmarkedRead c.in-Some.most (lines_left c.loop-text.parts) text.now (lines_left c.next_unmarked.new.self) = c.in-Some-next_unmarked.ensures.read in
    let put = unmarked_put c.args.skin.now c.args.width c.in-Some.most c.args.lines.now text _ _ _ _ _ _ _ _ _ c.in-Some.ensures step.short (search rules) step.unmarked (search rules) step.line c.in_ok-push_str.ensures.bytes c.in_ok-push_str-2.ensures.bytes held.so_far in
    record {
      so_far = unmarked_sent _ _ _ _ _ _ _ _ _ _ put c.in_ok-send.ensures;
      none = held.none;
      shorter = omega (arith, ap length step.line, held.shorter);
    }

pub returns-in_err-send-clause-handed : goal.returns-in_err-send-clause-handed
returns-in_err-send-clause-handed g c =
    let held = c.loop-text.invariant in
    let text = c.in-Some-next_unmarked.text in
    let step : IsUnmarkedRead c.in-Some.most (lines_left c.loop-text.parts) text.now (lines_left c.next_unmarked.new.self) = c.in-Some-next_unmarked.ensures.read in
    let put = unmarked_put c.args.skin.now c.args.width c.in-Some.most c.args.lines.now text _ _ _ _ _ _ _ _ _ c.in-Some.ensures step.short (search rules) step.unmarked (search rules) step.line c.in_ok-push_str.ensures.bytes c.in_ok-push_str-2.ensures.bytes held.so_far in
    unmarked_refused _ _ _ _ _ _ _ _ _ _ _ _ _ put c.from_residual-in_err-send.ensures.1 c.in_err-send.ensures
