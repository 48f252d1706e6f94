use Rattle.std.proofs.Common.{◌∙◌, ap, ◌≡◌, drop, List, ℕ}
use Rattle.markdown_marks.specs.Bytes.{first, count_in_front}
use Rattle.markdown_pieces.proofs.EndLemmas.{run_end}
use Rattle.markdown_pieces.proofs.pieces.run_piece.Goals as goal

pub after_at-requires : goal.after_at-requires
after_at-requires c =
    let text : List ℕ = c.args.text.now in
    let rest : c.tail-rest.result.now ≡ drop c.args.at text = c.tail-rest.ensures ∙ ap (λ (l : List ℕ). drop c.args.at l) c.as_bytes.ensures.value in
    let count : c.count_in_front-count.result ≡ count_in_front (first (drop c.args.at text)) (drop c.args.at text) =
    c.count_in_front-count.ensures.value ∙ ap (λ (b : ℕ). count_in_front b c.tail-rest.result.now) c.first.ensures ∙ ap (λ (l : List ℕ). count_in_front (first l) l) rest in
    run_end text c.args.at c.count_in_front-count.result c.utf8.text c.requires.within c.requires.mark count
