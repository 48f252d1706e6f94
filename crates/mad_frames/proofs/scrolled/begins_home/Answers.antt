use Rattle.std.proofs.Common.{◌≡◌, ◌∙◌, List, ℕ, [], ◌∷◌, ◌++◌, drop, length, ap, sym, lit<}
use Rattle.std.proofs.lemmas.Bool.Decides.{Decides-eqb}
use Rattle.std.proofs.lemmas.Fmt.{decimal_digit}
use Rattle.std.proofs.lemmas.Slice.Eq.{starts_is}
use Rattle.mad_term.specs.Commands.{move_to_bytes}
use Rattle.mad_frames.proofs.scrolled.begins_home.Goals as goal

pub returns : goal.returns
returns c = λ h.
    let text = c.args.text.now in
    let home : List ℕ = 27 ∷ 91 ∷ 49 ∷ 59 ∷ 49 ∷ 72 ∷ [] in
    let rest : List ℕ = drop (length home) text in
    let split : text ≡ home ++ rest = (starts_is Decides-eqb text home c.starts_with.result c.starts_with.ensures.value).0 h in
    let bytes : home ≡ move_to_bytes 0 0 = sym (ap (λ (d : List ℕ). 27 ∷ 91 ∷ ((d ++ ((59 ∷ d) ++ [])) ++ 72 ∷ [])) (decimal_digit 1 (lit< tt))) in
    (rest, split ∙ ap (λ (l : List ℕ). l ++ rest) bytes)
