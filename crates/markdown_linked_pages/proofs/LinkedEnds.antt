-- Rows with links, as they are ended.
use Rattle.std.proofs.Common.{◌≡◌, ℕ, List, [], ◌∷◌, ◌++◌, length, take, drop, ap, sym, ◌∙◌, append_assoc}
use Rattle.std.proofs.Math.Seq.{drop-append_seam, take-append_seam}
use Rattle.markdown_layout.specs.RowEnds.{without_end}

-- a row that was put behind others, then loses its end, and then its last link is closed
pub closed_ended : (start : ℕ) (old row mid taken change closed now : List ℕ) → start ≡ length old → mid ≡ old ++ row → taken ≡ take start mid ++ without_end (drop start mid) → closed ≡ taken ++ change → now ≡ closed ++ 10 ∷ []
    → now ≡ old ++ (without_end row ++ (change ++ 10 ∷ []))
closed_ended start old row mid taken change closed now place put took close end =
    let front : take start mid ≡ old = ap (λ (n : ℕ). take n mid) place ∙ ap (take (length old)) put ∙ take-append_seam old row in
    let back : drop start mid ≡ row = ap (λ (n : ℕ). drop n mid) place ∙ ap (drop (length old)) put ∙ drop-append_seam old row in
    end ∙ ap (λ (l : List ℕ). l ++ 10 ∷ []) (close ∙ ap (λ (l : List ℕ). l ++ change) (took ∙ ap (λ (f : List ℕ). f ++ without_end (drop start mid)) front ∙ ap (λ (b : List ℕ). old ++ without_end b) back))
    ∙ append_assoc (old ++ without_end row) change (10 ∷ []) ∙ append_assoc old (without_end row) (change ++ 10 ∷ [])
