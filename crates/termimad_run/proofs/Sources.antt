-- Reading block by block.
use Rattle.std.proofs.Common.{◌≡◌, ℕ, List, [], ◌++◌, take, Option, Some, None, option_map, Result, Err, MatchResult, refl, ap, sym, ◌∙◌, subst, append_assoc}
use Rattle.std.specs.Result.{IsErrAnd}
use Rattle.std.proofs.lemmas.Result.{err_from_is_err_and}
use Rattle.mad_term.specs.Trace.{Trace, ahead_all}
use Rattle.termimad_run.specs.Reading.{ReadingFails}
use Rattle.termimad_words.specs.declared.failure.Failure.{Failure}
use Rattle.termimad_words.specs.declared.failure.Failure.TheVariants.{Memory}

none_ahead : (o : Option (List ℕ)) → option_map (λ rest. [] ++ rest) o ≡ o
none_ahead None = refl
none_ahead (Some rest) = refl

both_ahead : (front back : List ℕ) (o : Option (List ℕ)) → option_map (λ rest. front ++ rest) (option_map (λ rest. back ++ rest) o) ≡ option_map (λ rest. (front ++ back) ++ rest) o
both_ahead front back None = refl
both_ahead front back (Some rest) = ap Some (sym (append_assoc front back rest))

-- nothing was read
pub ahead_none : (t : Trace) → t ≡ ahead_all [] t
unfolding ahead_all
ahead_none t = ap (λ (o : Option (List ℕ)). let r : Trace = record { bytes = o; faults = t.faults; flushes = t.flushes } in r) (sym (none_ahead t.bytes))

-- a block more was read
pub ahead_more : (old mid new : Trace) (front back : List ℕ) → old ≡ ahead_all front mid → mid ≡ ahead_all back new → old ≡ ahead_all (front ++ back) new
unfolding ahead_all
ahead_more old mid new front back p q =
    p ∙ ap (ahead_all front) q ∙ ap (λ (o : Option (List ℕ)). let r : Trace = record { bytes = o; faults = new.faults; flushes = new.flushes } in r) (both_ahead front back new.bytes)

-- a block without bytes
pub ahead_same : (old mid new : Trace) (bytes block : List ℕ) (count : ℕ) → old ≡ ahead_all bytes mid → mid ≡ ahead_all (take count block) new → count ≡ 0 → old ≡ ahead_all bytes new
ahead_same old mid new bytes block count p q none =
    p ∙ ap (ahead_all bytes) (q ∙ ap (λ n. ahead_all (take n block) new) none ∙ sym (ahead_none new))

-- there was no memory for what was read
pub memory_exit : {T : Type 0} (r : Result T Failure) (old new : Trace) (bytes : List ℕ) (P : T → Type 0) → IsErrAnd r (λ e. e ≡ Memory) → old ≡ ahead_all bytes new → MatchResult r P (λ failure. ReadingFails old failure new)
memory_exit r old new bytes P is read =
    let p = err_from_is_err_and r is in
    subst (λ s. MatchResult s P (λ failure. ReadingFails old failure new)) (sym (p.1 ∙ ap Err p.2)) (record { bytes = bytes; handed_out = read })
