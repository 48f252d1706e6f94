use Rattle.std.proofs.Common.{◌≡◌, ◌++◌, ℕ, List, codes, string_bytes, subst}
use Rattle.std.specs.Prelude.{OnOk}
use Rattle.termimad_command.specs.Notices.{notice_line}
use Rattle.termimad_command.proofs.notices.push_key.Goals as goal

pub returns : goal.returns
returns c =
    subst (λ (word : List ℕ). OnOk c.push_line.result (string_bytes c.push_line.new.lines ≡ string_bytes c.args.lines.now ++ notice_line (codes "termimad: SKIN: unknown key: ") word))
    c.as_str.ensures.value c.push_line.ensures
