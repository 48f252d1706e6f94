-- Bytes that come before those of a source.
use Rattle.std.proofs.Common.{◌≡◌, ℕ, ◌+◌, ◌-◌, ◌<◌, ◌≤◌, min, List, [], ◌∷◌, ◌++◌, length, take, drop, slice_index_or, Option, Some, None, option_map, Result, refl, ap, sym, ◌∙◌, subst, arith, length-append, length-drop, append_assoc}
use Rattle.std.proofs.Math.Seq.{take-append_seam, take-length}
use Rattle.mad_term.specs.Trace.{Trace, ahead, ahead_all, Filled, Fills, Gets}

none_ahead : (o : Option (List ℕ)) → option_map (λ left. [] ++ left) o ≡ o
none_ahead None = refl
none_ahead (Some left) = refl

ahead_none : (t : Trace) → t ≡ ahead_all [] t
unfolding ahead_all
ahead_none t = ap (λ (o : Option (List ℕ)). let r : Trace = record { bytes = o; faults = t.faults; flushes = t.flushes } in r) (sym (none_ahead t.bytes))

both_ahead : (front back : List ℕ) (o : Option (List ℕ)) → option_map (λ left. (front ++ back) ++ left) o ≡ option_map (λ left. front ++ left) (option_map (λ left. back ++ left) o)
both_ahead front back None = refl
both_ahead front back (Some left) = ap Some (append_assoc front back left)

ahead_both : (front back : List ℕ) (t : Trace) → ahead_all (front ++ back) t ≡ ahead_all front (ahead_all back t)
unfolding ahead_all
ahead_both front back t = ap (λ (o : Option (List ℕ)). let r : Trace = record { bytes = o; faults = t.faults; flushes = t.flushes } in r) (both_ahead front back t.bytes)

byte_before : (byte : ℕ) (rest : List ℕ) (o : Option (List ℕ)) → option_map (λ left. (byte ∷ rest) ++ left) o ≡ option_map (λ left. byte ∷ left) (option_map (λ left. rest ++ left) o)
byte_before byte rest None = refl
byte_before byte rest (Some left) = refl

byte_ahead : (byte : ℕ) (rest : List ℕ) (t : Trace) → ahead_all (byte ∷ rest) t ≡ ahead byte (ahead_all rest t)
unfolding ahead_all ahead
byte_ahead byte rest t = ap (λ (o : Option (List ℕ)). let r : Trace = record { bytes = o; faults = t.faults; flushes = t.flushes } in r) (byte_before byte rest t.bytes)

length-cons : (byte : ℕ) (rest : List ℕ) → length (byte ∷ rest) ≡ 1 + length rest
length-cons byte rest = omega arith

-- the first byte is handed out
pub first_ahead : (first : List ℕ) (t : Trace) → 0 < length first
    → ahead_all first t ≡ ahead (slice_index_or first 0 0) (ahead_all (take (length first - 1) (drop 1 first)) t)
first_ahead [] t some = absurd (omega (arith, some))
first_ahead (byte ∷ rest) t some = byte_ahead byte rest t ∙ ap (λ (bs : List ℕ). ahead byte (ahead_all bs t)) (sym (ap (λ n. take n rest) (omega (arith, length-cons byte rest)) ∙ take-length rest))

none_of : (first : List ℕ) → length first ≡ 0 → first ≡ []
none_of [] none = refl
none_of (byte ∷ rest) none = absurd (omega (arith, none))

nothing_ahead : (first : List ℕ) (t : Trace) → length first ≡ 0 → t ≡ ahead_all first t
nothing_ahead first t none = ahead_none t ∙ ap (λ (bs : List ℕ). ahead_all bs t) (sym (none_of first none))

-- where none is left, the source hands out its own
pub gets_behind : {E : Type 0} (first : List ℕ) (old new : Trace) (r : Result (Option ℕ) E) → length first ≡ 0 → Gets old r new → Gets (ahead_all first old) r (ahead_all first new)
gets_behind first old new r none gets =
    subst (λ t. Gets t r (ahead_all first new)) (nothing_ahead first old none) (subst (λ t. Gets old r t) (nothing_ahead first new none) gets)

pub fills_behind : {E : Type 0} (first : List ℕ) (old new : Trace) (buffer : List ℕ) (r : Result ℕ E) → length first ≡ 0 → Fills old buffer r new → Fills (ahead_all first old) buffer r (ahead_all first new)
fills_behind first old new buffer r none fills =
    subst (λ t. Fills t buffer r (ahead_all first new)) (nothing_ahead first old none) (subst (λ t. Fills old buffer r t) (nothing_ahead first new none) fills)

-- as many of them as there is room for are handed out
pub first_filled : (first front back buffer : List ℕ) (count : ℕ) (t : Trace) → 0 < length first → count ≡ min (length buffer) (length first) → first ≡ front ++ back → length front ≡ count
    → Filled (ahead_all first t) (front ++ drop count buffer) count (ahead_all back t)
first_filled first front back buffer count t some is parts size = record {
  within = omega (arith, size, length-append front (drop count buffer));
  handed_out = ap (λ (bs : List ℕ). ahead_all bs t) parts ∙ ahead_both front back t ∙ ap (λ (bs : List ℕ). ahead_all bs (ahead_all back t)) (sym (take-append_seam front (drop count buffer)) ∙ ap (λ n. take n (front ++ drop count buffer)) size);
  ended = λ none room. absurd (omega (arith, none, room, is, some, size, length-append front (drop count buffer), length-drop count buffer));
}

-- a source that begins with some keys has them ahead of the other one
pub keys_seen : {I : Type 0} (seen : I → Trace) (first bytes keys : List ℕ) (input old : I) → first ≡ bytes → bytes ≡ keys → input ≡ old → ahead_all first (seen input) ≡ ahead_all keys (seen old)
keys_seen {I = I} seen first bytes keys input old p q r = ap (λ (bs : List ℕ). ahead_all bs (seen input)) (p ∙ q) ∙ ap (λ (i : I). ahead_all keys (seen i)) r
