use Rattle.std.proofs.Common.{arith, refl, ap, ◌∙◌, take_all}
use Rattle.mad_widths.specs.Turns.{turns_from}
use Rattle.mad_widths.proofs.LoopLemmas.{turns_more, sorted_turns}
use Rattle.mad_widths.proofs.sharing.turns_of.Goals as goal

pub loop-column-preserved : goal.loop-column-preserved
loop-column-preserved c = turns_more c.args.widths.now c.loop-column.column c.loop-column.turns.items c.push.new.self.items _ (omega arith) c.loop-column.invariant c.in_ok-push.ensures.items refl

pub returns : goal.returns
returns c =
    sorted_turns c.args.widths.now c.loop-column.turns.items c.sort_unstable.new.self.items (c.loop-column.invariant ∙ ap (turns_from 0) (take_all c.loop-column.column c.args.widths.now (omega arith)))
    c.sort_unstable.ensures.permutation c.sort_unstable.ensures.sorted
