use Rattle.std.proofs.Common.{rules, sym}
use Rattle.std.proofs.Output.{has_written_of_eq, has_written_append}
use Rattle.mad_style.specs.Repeats.{styled_char_bytes}
use Rattle.mad_draw.proofs.CharLemmas.{single_chars_more}
use Rattle.mad_draw.proofs.char_repeats.SingleCharsDisplay.fmt.Goals as goal

pub loop-done-preserved : goal.loop-done-preserved
loop-done-preserved g c = λ p.
    has_written_of_eq _ _ _ _ _ (sym (single_chars_more c.args.self.now.c c.loop-done._done))
    (has_written_append _ _ _ _ (styled_char_bytes c.args.self.now.c) _ (c.loop-done.invariant p) (search rules))
