use Rattle.std.proofs.Common.{◌≡◌, ◌++◌, ◌∷◌, [], subst, OnOk}
use Rattle.mad_md.specs.Flagged.{Run}
use Rattle.markdown_lines.specs.Runs.{flags_said}
use Rattle.markdown_lines.specs.Said.{said}
use Rattle.markdown_lines.proofs.AsciiLemmas.{ascii_run}
use Rattle.markdown_lines.proofs.runs.Runs.push_steady.Goals as goal

pub returns-then-is_ascii : goal.returns-then-is_ascii
returns-then-is_ascii c =
    subst (λ (r : Run). OnOk c.push.result (said c.push.new.self ≡ said c.args.self.now ++ r ∷ [])) (ascii_run (flags_said c.args.flags) c.args.text.now c.utf8.text c.if-is_ascii.ensures.cases) c.push.ensures.value
