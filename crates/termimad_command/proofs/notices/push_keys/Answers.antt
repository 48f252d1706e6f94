use Rattle.std.proofs.Common.{◌∙◌, rules, string_bytes}
use Rattle.termimad_command.specs.Notices.{key_line}
use Rattle.termimad_command.proofs.NoticeLemmas.{line_more}
use Rattle.termimad_command.proofs.notices.push_keys.Goals as goal

pub loop-key-preserved : goal.loop-key-preserved
loop-key-preserved c =
    line_more string_bytes key_line c.args.keys.now c.loop-key.key-index c.key-item.result (string_bytes c.loop-key.lines) (string_bytes c.push_key.new.lines)
    (string_bytes c.key-item.result) c.loop-key-test.true (search rules) c.in_ok-push_key.ensures
    ∙ c.loop-key.invariant
