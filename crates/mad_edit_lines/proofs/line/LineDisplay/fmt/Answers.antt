use Rattle.std.proofs.Common.{◌≡◌, ◌<◌, length, ap, ◌∙◌, rules, arith, ◌++◌, take, get_or, ◌+◌}
use Rattle.std.specs.Prelude.{encode_utf8_all, encode_utf8}
use Rattle.std.proofs.Output.{has_written_of_eq, has_written_append}
use Rattle.std.proofs.lemmas.List.{get_or_default}
use Rattle.mad_edit_lines.proofs.ColumnLemmas.{encoded_taken}
use Rattle.mad_edit_lines.proofs.line.LineDisplay.fmt.Goals as goal

pub loop-c-preserved : goal.loop-c-preserved
loop-c-preserved g c = λ p.
    let xs = c.deref-c-items.result.now in
    let i = c.loop-c.c-index in
    let within : i < length xs = omega arith in
    let read : c.c-item.result ≡ get_or xs i 0 = c.c-item.is ∙ get_or_default xs i c.c-item.result 0 within in
    let more : encode_utf8_all (take i xs) ++ encode_utf8 c.c-item.result ≡ encode_utf8_all (take (i + 1) xs) = ap (λ x. encode_utf8_all (take i xs) ++ encode_utf8 x) read ∙ encoded_taken xs i 0 within in
    has_written_of_eq _ _ _ _ _ more
    (has_written_append _ _ _ _ (encode_utf8 c.c-item.result) _ (c.loop-c.invariant p) (search rules))
