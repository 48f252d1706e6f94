-- How calls join.
use Rattle.std.proofs.Common.{◌≡◌, ℕ, ◌+◌, Result, Ok, Err, List, [], ◌++◌, take, take-add, drop, Option, Some, None, option_map, IfSome, refl, ap, sym, ◌∙◌, subst, append_assoc}
use Rattle.std.proofs.lemmas.List.{append-nil, take-append-drop}
use Rattle.mad_term.specs.Trace.{Trace, after, failed, flushed, CutShort, Stopped, TakesFront, Writes, TookWith}

grown : (o : Option (List ℕ)) (a b : List ℕ) → option_map (λ s. s ++ b) (option_map (λ s. s ++ a) o) ≡ option_map (λ s. s ++ (a ++ b)) o
grown None a b = refl
grown (Some s) a b = ap Some (append_assoc s a b)

grown_none : (o : Option (List ℕ)) → option_map (λ s. s ++ []) o ≡ o
grown_none None = refl
grown_none (Some s) = ap Some (append-nil s)

-- one text after another went out as both joined
pub after-append : (t : Trace) (a b : List ℕ) → after (after t a) b ≡ after t (a ++ b)
unfolding after
after-append t a b = ap (λ (o : Option (List ℕ)). let r : Trace = record { bytes = o; faults = t.faults; flushes = t.flushes } in r) (grown t.bytes a b)

-- after no bytes all is as it was
pub after-nil : (t : Trace) → after t [] ≡ t
unfolding after
after-nil t = ap (λ (o : Option (List ℕ)). let r : Trace = record { bytes = o; faults = t.faults; flushes = t.flushes } in r) (grown_none t.bytes)

-- one text, then another
pub took_both : (old mid new : Trace) (a b : List ℕ) → mid ≡ after old a → new ≡ after mid b → new ≡ after old (a ++ b)
took_both old mid new a b p q = q ∙ ap (λ t. after t b) p ∙ after-append old a b

-- nothing went out
pub stopped_before : (old : Trace) (text : List ℕ) → Stopped old text old
stopped_before old text = record { front = []; rest = text; whole = refl; went = sym (after-nil old) }

-- a text stopped in the first part
pub stopped_in_first : (old new : Trace) (a b : List ℕ) → Stopped old a new → Stopped old (a ++ b) new
stopped_in_first old new a b h = record {
  front = h.front;
  rest = h.rest ++ b;
  whole = sym (append_assoc h.front h.rest b) ∙ ap (λ s. s ++ b) h.whole;
  went = h.went;
}

-- or in the second
pub stopped_in_second : (old mid new : Trace) (a b : List ℕ) → mid ≡ after old a → Stopped mid b new → Stopped old (a ++ b) new
stopped_in_second old mid new a b p h = record {
  front = a ++ h.front;
  rest = h.rest;
  whole = append_assoc a h.front h.rest ∙ ap (λ s. a ++ s) h.whole;
  went = h.went ∙ ap (λ t. after t h.front) p ∙ after-append old a h.front;
}

-- a text that a fault cut short stopped where the fault came
stopped : (old new : Trace) (text : List ℕ) (h : CutShort old text new) → Stopped old text (after old h.front)
stopped old new text h = record { front = h.front; rest = h.rest; whole = h.whole; went = refl }

cut_there : (old mid new : Trace) (text : List ℕ) → Stopped old text mid → new ≡ failed mid → CutShort old text new
cut_there old mid new text h e = record { front = h.front; rest = h.rest; whole = h.whole; went = e ∙ ap failed h.went }

-- the fault came in the first part
pub cut_in_first : (old new : Trace) (a b : List ℕ) → CutShort old a new → CutShort old (a ++ b) new
cut_in_first old new a b h = cut_there old (after old h.front) new (a ++ b) (stopped_in_first old (after old h.front) a b (stopped old new a h)) h.went

-- or in the second
pub cut_in_second : (old mid new : Trace) (a b : List ℕ) → mid ≡ after old a → CutShort mid b new → CutShort old (a ++ b) new
cut_in_second old mid new a b p h =
    cut_there old (after mid h.front) new (a ++ b) (stopped_in_second old mid (after mid h.front) a b p (stopped mid new b h)) h.went

-- a fault at the next `put` of a loop
pub cut_at : (old mid new : Trace) (text : List ℕ) (n : ℕ) → mid ≡ after old (take n text) → new ≡ failed mid → CutShort old text new
cut_at old mid new text n p q = record {
  front = take n text;
  rest = drop n text;
  whole = take-append-drop n text;
  went = q ∙ ap failed p;
}

-- a `put` of a loop took some of the rest
pub took_more : (old mid new : Trace) (text : List ℕ) (n k : ℕ) → mid ≡ after old (take n text) → new ≡ after mid (take k (drop n text)) → new ≡ after old (take (n + k) text)
took_more old mid new text n k p q =
    took_both old mid new (take n text) (take k (drop n text)) p q ∙ ap (after old) (sym (take-add n k text))

-- where no bytes went out, all is as it was
pub took_none : (t : Trace) → t ≡ after t []
took_none t = sym (after-nil t)

-- what joins the calls of one function
pub ruleset joins = (took_both, took_none, cut_in_first, cut_in_second, stopped_before, stopped_in_first, stopped_in_second)

took_with_at : (o : Option (List ℕ)) (text : List ℕ) (P : List ℕ → Type 0) → P text → IfSome o (λ before. (t : List ℕ) × (option_map (λ b. b ++ text) o ≡ Some (before ++ t)) × P t)
took_with_at None text P h = tt
took_with_at (Some b) text P h = (text, refl, h)

-- a text that went out is what the device took, and has what is known of it
pub took_with : (old new : Trace) (text : List ℕ) (P : List ℕ → Type 0) → new ≡ after old text → P text → TookWith old new P
unfolding after
took_with old new text P e h =
    subst (λ (t : Trace). TookWith old t P) (sym e) (took_with_at old.bytes text P h)

-- a flush takes away nothing of what was shown
pub took_flushed : (old written new : Trace) (P : List ℕ → Type 0) → TookWith old written P → new ≡ flushed written → TookWith old new P
unfolding flushed
took_flushed old written new P h e = subst (λ (t : Trace). TookWith old t P) (sym e) h

-- the fault of a flush comes after the whole text
pub flush_failed : (old written new : Trace) (text : List ℕ) → written ≡ after old text → new ≡ failed written → CutShort old text new
flush_failed old written new text went fault = record { front = text; rest = []; whole = append-nil text; went = fault ∙ ap failed went }

-- what a counted put did, without its count
pub writes_of : {T E : Type 0} (old new : Trace) (text : List ℕ) (count : ℕ) (r : Result T E) → TakesFront old text count r new → Writes old text r new
writes_of old new text count (Ok t) h = h.1
writes_of old new text count (Err e) h = cut_at old (after old (take count text)) new text count refl h
