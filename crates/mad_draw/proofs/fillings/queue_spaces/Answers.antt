use Rattle.std.proofs.Common.{ℕ, List, subst, ◌∙◌}
use Rattle.mad_term.specs.Draws.{Draws}
use Rattle.mad_term.proofs.QueueExits.{memory_first}
use Rattle.mad_style.specs.StyledChars.{styled_char}
use Rattle.mad_draw.proofs.FillingLemmas.{filling_written}
use Rattle.mad_draw.proofs.fillings.queue_spaces.Goals as goal

pub returns-in_err-whole-clause-writes : goal.returns-in_err-whole-clause-writes
returns-in_err-whole-clause-writes g c = memory_first _ _ _ c.from_residual.ensures.1

pub returns-in_err-last-clause-writes : goal.returns-in_err-last-clause-writes
returns-in_err-last-clause-writes g c = memory_first _ _ _ c.from_residual-in_err-last.ensures.1

pub returns-clause-writes : goal.returns-clause-writes
returns-clause-writes g c =
    subst (λ (t : List ℕ). Draws (g.O.Out.seen c.args.out.now) t c.put_filling.result (g.O.Out.seen c.put_filling.new.out))
    (filling_written (styled_char c.args.cs.now 32) c.args.len c.whole_chars.result c.deref.result.now c.deref-2.result.now (c.deref.ensures ∙ c.in_ok-whole.ensures) (c.deref-2.ensures ∙ c.in_ok-last.ensures) c.whole_chars.ensures.within c.whole_chars.ensures.whole)
    c.put_filling.ensures.writes
