-- Steps of the checker of starts.
use Rattle.std.proofs.Common.{◌≡◌, ℕ, ◌<◌, ◌+◌, ◌-◌, ◌==◌, ◌||◌, not, Bool, true, false, Some, List, [], ◌∷◌, ◌++◌, length, take, drop, get_or, slice_range, slice_get, refl, sym, ap, ◌∙◌, arith, append_assoc, ◌⊎◌, inl, inr}
use Rattle.std.proofs.Math.Seq.{drop-append_seam, take-append-add}
use Rattle.std.proofs.lemmas.Bool.{and_from, lt-ltb}
use Rattle.std.proofs.lemmas.Bool.Decides.{nat_tests}
use Rattle.std.proofs.lemmas.List.{length-append, get_or-drop}
use Rattle.std.proofs.lemmas.Option.{slice_get-get_or}
use Rattle.mad_measure.specs.declared.tokens.Token.{Token}
use Rattle.mad_wrap.specs.Bounds.{is_blank_token, are_starts_from}
use Rattle.mad_wrap.specs.Breaks.{total_width}
use Rattle.mad_wrap.specs.declared.room.Room.{Room}
use Rattle.mad_wrap.proofs.BoundLemmas.{total_width-append}

-- the test of a start passes for the last one, whatever its token
pub none_left : (n : ℕ) (b : Bool) → n ≡ 0 → (n == 0) || b ≡ true
none_left n b h = grind (arith, nat_tests)

not_blank : (n : ℕ) (b : Bool) → b ≡ false → (n == 0) || not b ≡ true
not_blank n false h = elim (n == 0) as (λ v. v || true ≡ true) [ true ↦ refl | false ↦ refl ]
not_blank n true h = absurd (cc)

-- one start more
pub step_true : (i s n : ℕ) (r : Room) (ts : List Token) (ns : List ℕ) → s < n → n < length ts → r.width < i + total_width (slice_range ts s (n + 1)) → (length ns == 0) || not (is_blank_token (slice_get ts n)) ≡ true
    → are_starts_from r.other r ts n ns ≡ true → are_starts_from i r ts s (n ∷ ns) ≡ true
step_true i s n r ts ns rises inside wide solid rest =
    and_from _ _ (lt-ltb s n rises) (and_from _ _ (lt-ltb n (length ts) inside) (and_from _ _ (lt-ltb r.width (i + total_width (slice_range ts s (n + 1))) wide) (and_from _ _ solid rest)))

-- the tokens from a start up to and with the next
slice_at : (pre mid rest : List Token) (t : Token) → slice_range (pre ++ (mid ++ t ∷ rest)) (length pre) (length pre + length mid + 1) ≡ mid ++ t ∷ []
slice_at pre mid rest t =
    let count : length pre + length mid + 1 - length pre ≡ length mid + 1 = omega arith in
    ap (λ n. take n (drop (length pre) (pre ++ (mid ++ t ∷ rest)))) count ∙ ap (take (length mid + 1)) (drop-append_seam pre (mid ++ t ∷ rest)) ∙ take-append-add mid (t ∷ rest) 1

-- the token after two lists has their length as its number
pub token_at : (pre mid rest : List Token) (t : Token) → slice_get (pre ++ (mid ++ t ∷ rest)) (length pre + length mid) ≡ Some t
token_at pre mid rest t =
    let ts = pre ++ (mid ++ t ∷ rest) in
    let n = length pre + length mid in
    let inside : n < length ts = omega (arith, length-append pre (mid ++ t ∷ rest), length-append mid (t ∷ rest)) in
    let joins : ts ≡ (pre ++ mid) ++ t ∷ rest = sym (append_assoc pre mid (t ∷ rest)) in
    let place : n ≡ length (pre ++ mid) = sym (length-append pre mid) in
    let after : drop n ts ≡ t ∷ rest = ap (λ l. drop n l) joins ∙ ap (λ m. drop m ((pre ++ mid) ++ t ∷ rest)) place ∙ drop-append_seam (pre ++ mid) (t ∷ rest) in
    let read : get_or ts n t ≡ t = ap (λ m. get_or ts m t) (omega arith) ∙ sym (get_or-drop n ts 0 t) ∙ ap (λ l. get_or l 0 t) after in
    slice_get-get_or ts n t inside ∙ ap Some read

-- a start after a line and a gap
pub start_after : (i : ℕ) (r : Room) (ts pre mid rest : List Token) (t : Token) (ns : List ℕ) (s n : ℕ) → ts ≡ pre ++ (mid ++ t ∷ rest) → s ≡ length pre → n ≡ s + length mid → 0 < length mid → r.width < i + total_width mid + t.width
    → (length ns ≡ 0) ⊎ (t.blank ≡ false) → are_starts_from r.other r ts n ns ≡ true → are_starts_from i r ts s (n ∷ ns) ≡ true
start_after i r ts pre mid rest t ns s n joins from to some wide solid more =
    let at : slice_range ts s (n + 1) ≡ mid ++ t ∷ [] =
    ap (λ l. slice_range l s (n + 1)) joins ∙ ap (λ m. slice_range (pre ++ (mid ++ t ∷ rest)) m (n + 1)) from ∙ ap (λ m. slice_range (pre ++ (mid ++ t ∷ rest)) (length pre) (m + 1)) (omega (arith, from, to)) ∙ slice_at pre mid rest t in
    let read : slice_get ts n ≡ Some t = ap (λ l. slice_get l n) joins ∙ ap (slice_get (pre ++ (mid ++ t ∷ rest))) (omega (arith, from, to)) ∙ token_at pre mid rest t in
    let test : (length ns == 0) || not (is_blank_token (slice_get ts n)) ≡ true =
    elim solid as (λ _. (length ns == 0) || not (is_blank_token (slice_get ts n)) ≡ true) [
      | inl last ↦ none_left (length ns) (not (is_blank_token (slice_get ts n))) last
      | inr full ↦ not_blank (length ns) (is_blank_token (slice_get ts n)) (ap is_blank_token read ∙ full)
    ] in
    step_true i s n r ts ns (omega arith) (omega (arith, ap length joins, length-append pre (mid ++ t ∷ rest), length-append mid (t ∷ rest)))
    (omega (arith, wide, ap total_width at, total_width-append mid (t ∷ []))) test more
