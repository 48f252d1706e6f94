use Rattle.std.proofs.Common.{◌++◌, ap, sym, ◌∙◌}
use Rattle.std.specs.Prelude.{encode_utf8}
use Rattle.mad_edit_lines.proofs.ColumnLemmas.{encoded_more}
use Rattle.mad_edit_lines.proofs.positions.text_between.Goals as goal

pub loop-c-preserved : goal.loop-c-preserved
loop-c-preserved c =
    c.in_ok-push.ensures.bytes ∙ ap (λ t. t ++ encode_utf8 c.in-Some.c) c.loop-c.invariant ∙ sym (encoded_more c.loop-c.yielded c.in-Some.c)
