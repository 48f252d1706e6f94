use Rattle.std.proofs.Common.{List, arith, ap, length, map, ◌∙◌}
use Rattle.std.proofs.lemmas.List.{length-drop, take_rest}
use Rattle.mad_style.specs.StyledChars.{char_alone}
use Rattle.mad_style.specs.declared.styled_chars.StyledChar.{StyledChar}
use Rattle.mad_hits.specs.Hits.{widthless}
use Rattle.mad_hits.proofs.HitLemmas.{span_is}
use Rattle.mad_hits.proofs.hits.span.Goals as goal

pub overflow_add-result : goal.overflow_add-result
overflow_add-result c =
    let text = c.args.text.now in
    let end = c.min-end.result in
    omega (arith, c.widthless.ensures.few, c.min-end.ensures, ap length (take_rest text end), length-drop end text)

pub returns : goal.returns
returns c =
    let text = c.args.text.now in
    let end = c.min-end.result in
    span_is text c.args.count end _ c.min-end.ensures (c.widthless.ensures.count ∙ ap (λ (l : List StyledChar). widthless (map char_alone l)) (take_rest text end))
