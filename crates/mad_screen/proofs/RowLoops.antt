-- The bytes of rows that are drawn in two parts.
use Rattle.std.proofs.Common.{◌≡◌, ℕ, suc, ◌+◌, List, [], ◌∷◌, ◌++◌, length, ap, sym, ◌∙◌, arith, append_assoc}
use Rattle.mad_term.specs.Commands.{move_to_bytes}
use Rattle.mad_screen.specs.Drawing.{drawing}

-- rows, and then rows below them
pub drawing-append : (left top : ℕ) (a b : List (List ℕ)) → drawing left top (a ++ b) ≡ drawing left top a ++ drawing left (top + length a) b
drawing-append left top [] b = ap (λ y. drawing left y b) (omega arith)
drawing-append left top (t ∷ a) b =
    ap (λ l. move_to_bytes left top ++ (t ++ l)) (drawing-append left (suc top) a b ∙ ap (λ y. drawing left (suc top) a ++ drawing left y b) (omega arith))
    ∙ sym (append_assoc (move_to_bytes left top) (t ++ drawing left (suc top) a) (drawing left (top + length (t ∷ a)) b)
    ∙ ap (λ l. move_to_bytes left top ++ l) (append_assoc t (drawing left (suc top) a) (drawing left (top + length (t ∷ a)) b)))
