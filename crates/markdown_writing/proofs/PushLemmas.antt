-- What is put behind a text, and what is to be put still, are the whole.
use Rattle.std.proofs.Common.{◌≡◌, ℕ, zero, suc, ◌-◌, ◌<◌, List, [], ◌∷◌, ◌++◌, replicate, sym, ap, ◌∙◌, append_assoc, arith}

-- some more is put
pub put_more : (old now next part left : List ℕ) → next ≡ now ++ part → now ++ (part ++ left) ≡ old → next ++ left ≡ old
put_more old now next part left put whole = ap (λ (bs : List ℕ). bs ++ left) put ∙ append_assoc now part left ∙ whole

one_less : (n b : ℕ) → 0 < n → replicate n b ≡ b ∷ replicate (n - 1) b
one_less zero b some = absurd (omega (arith, some))
one_less (suc n) b some = ap (λ (k : ℕ). b ∷ replicate k b) (omega arith)

-- one more of so many is put
pub put_one : (old now next : List ℕ) (b n : ℕ) → 0 < n → next ≡ now ++ b ∷ [] → now ++ replicate n b ≡ old → next ++ replicate (n - 1) b ≡ old
put_one old now next b n some put whole = put_more old now next (b ∷ []) (replicate (n - 1) b) put (ap (λ (bs : List ℕ). now ++ bs) (sym (one_less n b some)) ∙ whole)
