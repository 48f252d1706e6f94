use Rattle.std.proofs.Common.{◌≡◌, ℕ, ◌+◌, eqb, ap, ◌∙◌}
use Rattle.std.specs.List.{prefix_len}
use Rattle.std.proofs.lemmas.List.{take_rest}
use Rattle.markdown_emphasis.specs.declared.runs.Run.{Run}
use Rattle.markdown_runs.specs.declared.flanking.Neighbor.{Neighbor}
use Rattle.markdown_runs.specs.declared.text.Marks.{Marks}
use Rattle.markdown_runs.specs.Flanking.{beside, run_of}
use Rattle.markdown_runs.specs.Texts.{char_at, char_before, count_from}
use Rattle.markdown_runs.proofs.text.marks_with.Goals as goal

pub returns : goal.returns
returns c =
    let chars = c.args.chars.now in
    let n : ℕ = c.count_front-count.result in
    let before : Neighbor = beside (char_before chars c.args.start) in
    let with_count : ℕ → Run = λ k. run_of c.args.sign k before (beside (char_at chars (c.args.start + k))) in
    let count : n ≡ count_from chars c.args.start c.args.c = c.count_front-count.ensures.is ∙ ap (prefix_len (λ d. eqb d c.args.c)) (take_rest chars c.args.start) in
    let run : c.run_of.result ≡ with_count n =
    c.run_of.ensures
    ∙ ap (λ b. run_of c.args.sign n b c.beside-2.result) (c.beside.ensures ∙ ap beside c.char_before.ensures)
    ∙ ap (λ b. run_of c.args.sign n before b) (c.beside-2.ensures ∙ ap beside c.char_at-after.ensures) in
    let F : Run → Marks = λ r. record { start = c.args.start; run = r } in
    ap F (run ∙ ap with_count count)
