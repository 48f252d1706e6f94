-- What a device took, in turn.
use Rattle.std.proofs.Common.{◌≡◌, List, [], ◌++◌, Option, Some, None, IfSome, option_map, refl, ap, sym, ◌∙◌, subst, append_assoc, ℕ}
use Rattle.std.proofs.lemmas.List.{append-nil, append_cancel_left}
use Rattle.std.proofs.lemmas.Option.{same_Some}
use Rattle.mad_term.specs.Trace.{Trace, after, TookWith}

-- what is known to have been taken has what it has under a premise
known_at : (o n : Option (List ℕ)) (bytes : List ℕ) (A : Type 0) (P : List ℕ → Type 0) → n ≡ option_map (λ b. b ++ bytes) o
    → (A → IfSome o (λ before. (text : List ℕ) × (n ≡ Some (before ++ text)) × P text))
    → IfSome o (λ before. (text : List ℕ) × (n ≡ Some (before ++ text)) × (A → P text))
known_at None n bytes A P e h = tt
known_at (Some before) n bytes A P e h =
    (bytes, e, λ a. let it = h a in subst P (append_cancel_left before it.0 bytes (same_Some _ _ (sym it.1 ∙ e))) it.2)

-- what holds of a text that went out under a premise is known with that premise
pub known : (old new : Trace) (bytes : List ℕ) (A : Type 0) (P : List ℕ → Type 0) → new ≡ after old bytes → (A → TookWith old new P) → TookWith old new (λ text. A → P text)
unfolding after
known old new bytes A P e h = known_at old.bytes new.bytes bytes A P (ap (λ (t : Trace). t.bytes) e) h

exact_at : (o n : Option (List ℕ)) (bytes : List ℕ) (P : List ℕ → Type 0) → n ≡ option_map (λ b. b ++ bytes) o → IfSome o (λ before. (text : List ℕ) × (n ≡ Some (before ++ text)) × P text)
    → IfSome o (λ before. (text : List ℕ) × (n ≡ Some (before ++ text)) × ((text ≡ bytes) × P text))
exact_at None n bytes P e h = tt
exact_at (Some before) n bytes P e h = (bytes, e, (refl, subst P (append_cancel_left before h.0 bytes (same_Some _ _ (sym h.1 ∙ e))) h.2))

-- what was taken is this text
pub took_exact : (old new : Trace) (bytes : List ℕ) (P : List ℕ → Type 0) → new ≡ after old bytes → TookWith old new P → TookWith old new (λ text. (text ≡ bytes) × P text)
unfolding after
took_exact old new bytes P e h = exact_at old.bytes new.bytes bytes P (ap (λ (t : Trace). t.bytes) e) h

more_at : (o n : Option (List ℕ)) (P Q : List ℕ → Type 0) → ((text : List ℕ) → P text → Q text) → IfSome o (λ before. (text : List ℕ) × (n ≡ Some (before ++ text)) × P text)
    → IfSome o (λ before. (text : List ℕ) × (n ≡ Some (before ++ text)) × Q text)
more_at None n P Q more h = tt
more_at (Some before) n P Q more h = (h.0, h.1, more h.0 h.2)

-- what was taken has more
pub took_so : (old new : Trace) (P Q : List ℕ → Type 0) → ((text : List ℕ) → P text → Q text) → TookWith old new P → TookWith old new Q
took_so old new P Q more h = more_at old.bytes new.bytes P Q more h

nothing_at : (o : Option (List ℕ)) (P : List ℕ → Type 0) → P [] → IfSome o (λ before. (text : List ℕ) × (o ≡ Some (before ++ text)) × P text)
nothing_at None P h = tt
nothing_at (Some before) P h = ([], ap Some (sym (append-nil before)), h)

-- nothing was taken
pub took_nothing : (old : Trace) (P : List ℕ → Type 0) → P [] → TookWith old old P
took_nothing old P h = nothing_at old.bytes P h

turn_at : (o m n : Option (List ℕ)) (P Q R : List ℕ → Type 0) → ((a b : List ℕ) → P a → Q b → R (a ++ b)) → IfSome o (λ before. (text : List ℕ) × (m ≡ Some (before ++ text)) × P text)
    → IfSome m (λ before. (text : List ℕ) × (n ≡ Some (before ++ text)) × Q text)
    → IfSome o (λ before. (text : List ℕ) × (n ≡ Some (before ++ text)) × R text)
turn_at None m n P Q R joins h k = tt
turn_at (Some before) m n P Q R joins (first, is, p) k =
    let rest = subst (λ (o : Option (List ℕ)). IfSome o (λ b. (text : List ℕ) × (n ≡ Some (b ++ text)) × Q text)) is k in
    (first ++ rest.0, rest.1 ∙ ap Some (append_assoc before first rest.0), joins first rest.0 p rest.2)

-- what was taken in turn
pub took_in_turn : (old mid new : Trace) (P Q R : List ℕ → Type 0) → ((a b : List ℕ) → P a → Q b → R (a ++ b)) → TookWith old mid P → TookWith mid new Q → TookWith old new R
took_in_turn old mid new P Q R joins h k = turn_at old.bytes mid.bytes new.bytes P Q R joins h k

from_empty_at : (o n : Option (List ℕ)) (P : List ℕ → Type 0) → o ≡ Some [] → IfSome o (λ before. (text : List ℕ) × (n ≡ Some (before ++ text)) × P text) → (text : List ℕ) × (n ≡ Some text) × P text
from_empty_at o n P e h = subst (λ (o : Option (List ℕ)). IfSome o (λ before. (text : List ℕ) × (n ≡ Some (before ++ text)) × P text)) e h

-- all that a device took that had taken nothing
pub from_empty : (old new : Trace) (P : List ℕ → Type 0) → old.bytes ≡ Some [] → TookWith old new P → (text : List ℕ) × (new.bytes ≡ Some text) × P text
from_empty old new P e h = from_empty_at old.bytes new.bytes P e h
