use Rattle.std.proofs.Common.{◌≡◌, ◌<◌, ◌++◌, ◌∷◌, [], ap, sym, ◌∙◌, arith, length, take}
use Rattle.std.proofs.lemmas.List.{map-append, take_more, length-map}
use Rattle.mad_edit_lines.specs.TextLines.{lines_of, chars_of, line_at}
use Rattle.mad_edit_lines.proofs.RowLemmas.{line_read}
use Rattle.mad_edit_lines.proofs.positions.clone_lines.Goals as goal

pub loop-line-preserved : goal.loop-line-preserved
loop-line-preserved c =
    let xs = c.args.lines.now in
    let i = c.loop-line.line-index in
    let line = c.in_ok-try_clone.field-0 in
    let within : i < length xs = omega arith in
    let copied : chars_of line ≡ line_at (lines_of xs) i = c.in_ok-try_clone.ensures ∙ line_read xs i c.line-item.result within c.line-item.is in
    let rows : i < length (lines_of xs) = omega (arith, length-map xs chars_of) in
    ap lines_of c.in_ok-push.ensures.items
    ∙ map-append chars_of c.loop-line.copy.items (line ∷ [])
    ∙ ap (λ t. t ++ (chars_of line ∷ [])) c.loop-line.invariant
    ∙ ap (λ x. take i (lines_of xs) ++ (x ∷ [])) copied
    ∙ sym (take_more (lines_of xs) i [] rows)
