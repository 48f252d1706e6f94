use Rattle.std.proofs.Common.{◌∙◌}
use Rattle.std.specs.Prelude.{string_bytes}
use Rattle.markdown_marks.specs.Remaining.{remaining}
use Rattle.markdown_lines.proofs.CodeLemmas.{code_is}
use Rattle.markdown_lines.proofs.code.code_text.Goals as goal

pub returns : goal.returns
returns c =
    code_is (string_bytes c.in_ok-shown.shown) (string_bytes c.push_spaces.new.text) (string_bytes c.push_spaces-2.new.text) (string_bytes c.push_text.new.shown) c.as_str.result.now c.args.column (remaining c.args.line)
    c.in_ok-shown.ensures.bytes c.in_ok-push_spaces.ensures c.in_ok-push_spaces-2.ensures (c.as_str.ensures.value ∙ c.in_ok-text.ensures.lossy) c.in_ok-push_text.ensures
