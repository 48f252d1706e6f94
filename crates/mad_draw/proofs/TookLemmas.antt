-- What a device took, in turn.
use Rattle.std.proofs.Common.{◌≡◌, ℕ, List, ◌++◌, Option, Some, None, IfSome, ap, ◌∙◌, subst, append_assoc}
use Rattle.mad_term.specs.Trace.{Trace, TookWith}

more_at : (o n : Option (List ℕ)) (P Q : List ℕ → Type 0) → ((text : List ℕ) → P text → Q text) → IfSome o (λ before. (text : List ℕ) × (n ≡ Some (before ++ text)) × P text)
    → IfSome o (λ before. (text : List ℕ) × (n ≡ Some (before ++ text)) × Q text)
more_at None n P Q more h = tt
more_at (Some before) n P Q more h = (h.0, h.1, more h.0 h.2)

-- what was taken has more
pub took_so : (old new : Trace) (P Q : List ℕ → Type 0) → ((text : List ℕ) → P text → Q text) → TookWith old new P → TookWith old new Q
took_so old new P Q more h = more_at old.bytes new.bytes P Q more h

turn_at : (o m n : Option (List ℕ)) (P Q R : List ℕ → Type 0) → ((a b : List ℕ) → P a → Q b → R (a ++ b)) → IfSome o (λ before. (text : List ℕ) × (m ≡ Some (before ++ text)) × P text)
    → IfSome m (λ before. (text : List ℕ) × (n ≡ Some (before ++ text)) × Q text)
    → IfSome o (λ before. (text : List ℕ) × (n ≡ Some (before ++ text)) × R text)
turn_at None m n P Q R joins h k = tt
turn_at (Some before) m n P Q R joins (first, is, p) k =
    let rest = subst (λ (o : Option (List ℕ)). IfSome o (λ b. (text : List ℕ) × (n ≡ Some (b ++ text)) × Q text)) is k in
    (first ++ rest.0, rest.1 ∙ ap Some (append_assoc before first rest.0), joins first rest.0 p rest.2)

-- what was taken in turn
pub took_in_turn : (old mid new : Trace) (P Q R : List ℕ → Type 0) → ((a b : List ℕ) → P a → Q b → R (a ++ b)) → TookWith old mid P → TookWith mid new Q → TookWith old new R
took_in_turn old mid new P Q R joins h k = turn_at old.bytes mid.bytes new.bytes P Q R joins h k
