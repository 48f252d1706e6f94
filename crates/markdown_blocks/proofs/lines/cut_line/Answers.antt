use Rattle.std.proofs.Common.{◌≡◌, ℕ, List, ◌∷◌, ◌∙◌, take, drop, sym, ap, subst}
use Rattle.markdown_blocks.specs.Lines.{text_lines, end_len}
use Rattle.markdown_blocks.proofs.TextLemmas.{HasFront, line_front}
use Rattle.markdown_blocks.proofs.lines.cut_line.Goals as goal

pub returns-clause-lines : goal.returns-clause-lines
returns-clause-lines c =
    let t = c.args.text.now in
    let k = c.line_len-len.result in
    let front : HasFront t k = subst (λ (n : ℕ). HasFront t n) (sym c.line_len-len.ensures.value) (line_front t c.requires) in
    let after : c.tail.result.now ≡ drop (end_len (drop k t)) (drop k t) =
    c.tail.ensures ∙ ap (λ (n : ℕ). drop n c.tail-end.result.now) c.end_len.ensures.value ∙ ap (λ (s : List ℕ). drop (end_len s) s) c.tail-end.ensures in
    front ∙ ap (λ (s : List ℕ). take k t ∷ text_lines s) (sym after)
