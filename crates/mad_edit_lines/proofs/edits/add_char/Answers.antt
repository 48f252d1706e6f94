use Rattle.std.proofs.Common.{◌∙◌}
use Rattle.mad_edit_lines.proofs.TextLemmas.{led_next}
use Rattle.mad_edit_lines.proofs.edits.add_char.Goals as goal

pub returns-in_ok-push-clause-text : goal.returns-in_ok-push-clause-text
returns-in_ok-push-clause-text c =
    rw (c.if-c-eq10.true, c.in_ok-push.ensures.items, c.replace-chars.ensures.after, c.new.ensures.items) (
    led_next c.args.lines.now.items (record { chars = c.replace-chars.result }) ∙ rw c.replace-chars.ensures.value)
