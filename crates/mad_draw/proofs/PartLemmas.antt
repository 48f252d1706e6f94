-- A text that goes out in parts.
use Rattle.std.proofs.Common.{◌≡◌, ℕ, zero, suc, ◌+◌, ◌<◌, ◌≤◌, ⊎_elim, List, [], ◌++◌, Result, Ok, Err, ap, sym, ◌∙◌, subst, arith, append_assoc, append-nil}
use Rattle.std.proofs.lemmas.Bool.{cases_lt}
use Rattle.std.specs.Prelude.{OnOk}
use Rattle.mad_term.specs.Draws.{Draws, Refused}
use Rattle.mad_term.specs.Trace.{Trace, after, TookWith}
use Rattle.mad_term.specs.declared.errors.Error.{Error}
use Rattle.mad_term.proofs.Exits.{refused_in_first, refused_in_second}
use Rattle.mad_term.proofs.Traces.{after-nil, took_both, took_with}
use Rattle.mad_draw.specs.Parts.{parts_bytes}

-- the parts before number `n` went out
abbrev pub PartsWent : (ℕ → List ℕ) → ℕ → Trace → Trace → Type 0
PartsWent part n old new = new ≡ after old (parts_bytes part n)

-- before the first part nothing went out
pub no_part : (part : ℕ → List ℕ) (t : Trace) → PartsWent part 0 t t
no_part part t = sym (after-nil t)

-- one part more went out
pub part_more : (part : ℕ → List ℕ) (n : ℕ) (old mid new : Trace) → PartsWent part n old mid → new ≡ after mid (part n) → PartsWent part (n + 1) old new
part_more part n old mid new went more =
    let next : suc n ≡ n + 1 = omega arith in
    took_both old mid new (parts_bytes part n) (part n) went more ∙ ap (λ k. after old (parts_bytes part k)) next

-- the first parts are a front of all
front_of_all : (part : ℕ → List ℕ) (n count : ℕ) → n ≤ count → (rest : List ℕ) × (parts_bytes part count ≡ parts_bytes part n ++ rest)
front_of_all part n zero within = let none : n ≡ 0 = omega (arith, within) in ([], ap (λ k. parts_bytes part k ++ []) (sym none))
front_of_all part n (suc count) within =
    ⊎_elim
    (λ (before : n < suc count).
    let found : (rest : List ℕ) × (parts_bytes part count ≡ parts_bytes part n ++ rest) = front_of_all part n count (omega (arith, before)) in
    let all : (rest : List ℕ) × (parts_bytes part (suc count) ≡ parts_bytes part n ++ rest) = (found.0 ++ part count, ap (λ bytes. bytes ++ part count) found.1 ∙ append_assoc (parts_bytes part n) found.0 (part count)) in all)
    (λ (same : suc count ≤ n).
    let is : n ≡ suc count = omega (arith, same, within) in
    let all : (rest : List ℕ) × (parts_bytes part (suc count) ≡ parts_bytes part n ++ rest) = ([], sym (append-nil (parts_bytes part (suc count))) ∙ ap (λ k. parts_bytes part k ++ []) (sym is)) in all)
    (cases_lt n (suc count))

-- a part was refused
pub refused_part : (part : ℕ → List ℕ) (n count : ℕ) (e : Error) (old mid new : Trace) → n < count → PartsWent part n old mid → Refused mid (part n) e new → Refused old (parts_bytes part count) e new
refused_part part n count e old mid new inside went refused =
    let found : (rest : List ℕ) × (parts_bytes part count ≡ parts_bytes part (suc n) ++ rest) = front_of_all part (suc n) count inside in
    subst (λ (t : List ℕ). Refused old t e new) (sym found.1)
    (refused_in_first e old new (parts_bytes part (suc n)) found.0 (refused_in_second e old mid new (parts_bytes part n) (part n) went refused))

-- all went out
pub all_parts : (part : ℕ → List ℕ) (n count : ℕ) (old new : Trace) → n ≡ count → PartsWent part n old new → new ≡ after old (parts_bytes part count)
all_parts part n count old new e went = went ∙ ap (λ k. after old (parts_bytes part k)) e

-- ---- a text after another

-- a call's text after one that went out
pub draws_after : {T : Type 0} (r : Result T Error) (old mid new : Trace) (a b : List ℕ) → mid ≡ after old a → Draws mid b r new → Draws old (a ++ b) r new
draws_after {T} (Ok x) old mid new a b went h = took_both old mid new a b went h
draws_after {T} (Err e) old mid new a b went h = refused_in_second e old mid new a b went h

-- what a text shows that went out
pub shown_where_drawn : {T : Type 0} (r : Result T Error) (old new : Trace) (text : List ℕ) (A : Type 0) (P : List ℕ → Type 0) → Draws old text r new → (A → P text) → OnOk r (A → TookWith old new P)
shown_where_drawn {T} (Ok x) old new text A P h shown = λ a. took_with old new text P h (shown a)
shown_where_drawn {T} (Err e) old new text A P h shown = tt
