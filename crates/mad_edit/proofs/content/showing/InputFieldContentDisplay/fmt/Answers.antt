use Rattle.std.proofs.Common.{sym, rules}
use Rattle.std.specs.Prelude.{encode_utf8}
use Rattle.std.proofs.Output.{has_written_of_eq, has_written_append}
use Rattle.mad_edit_lines.proofs.ColumnLemmas.{encoded_more}
use Rattle.mad_edit.proofs.content.showing.InputFieldContentDisplay.fmt.Goals as goal

pub loop-c-preserved : goal.loop-c-preserved
loop-c-preserved g c = λ p.
    has_written_of_eq _ _ _ _ _ (sym (encoded_more c.loop-c.yielded c.in-Some.c))
    (has_written_append _ _ _ _ (encode_utf8 c.in-Some.c) _ (c.loop-c.invariant p) (search rules))
