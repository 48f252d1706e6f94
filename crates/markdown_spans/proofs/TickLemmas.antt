-- Where no run of a length is left.
use Rattle.std.proofs.Common.{◌≡◌, ℕ, ◌+◌, ◌<◌, ◌≤◌, Bool, true, false, cond, eqb, List, [], ◌∷◌, ◌++◌, Some, None, length, drop, take, refl, sym, ap, subst, ◌∙◌, arith, suc, zero, ⊎_elim, get_or, Option, is_some}
use Rattle.std.specs.List.{prefix_len}
use Rattle.std.proofs.lemmas.List.{take-append-drop, length-take-le, drop-drop}
use Rattle.std.proofs.lemmas.Bool.{cases_lt}
use Rattle.std.proofs.lemmas.Bool.Decides.{nat_tests}
use Rattle.memchr.specs.Find.{Nowhere, Passes, is_byte, IsFirstByte}
use Rattle.markdown_marks.specs.Bytes.{count_in_front}
use Rattle.markdown_spans.specs.Ticks.{run_at, last_run, AreLasts, IsTickless}

-- the place of the last run is no earlier than one that was seen
last_ends : (t : Bool) (at last : ℕ) → last ≤ at → last ≤ cond t (at + 1) last
last_ends true at last h = omega arith
last_ends false at last h = omega arith

late : (t : Bool) (at last : ℕ) → last ≤ at → cond t (at + 1) last ≤ at + 1
late true at last h = omega arith
late false at last h = omega arith

both : (t : Bool) (a x y : ℕ) → a ≤ x → a ≤ y → a ≤ cond t x y
both true a x y h k = h
both false a x y h k = k

last_mono : (n seen at last : ℕ) (bs : List ℕ) → last ≤ at → last ≤ last_run n seen at last bs
unfolding last_run
last_mono n seen at last [] h = last_ends (eqb seen n) at last h
last_mono n seen at last (b ∷ bs) h =
    let next : ℕ = cond (eqb seen n) (at + 1) last in
    let l1 : last ≤ next = last_ends (eqb seen n) at last h in
    let l2 : next ≤ at + 1 = late (eqb seen n) at last h in
    let l3 : next ≤ last_run n 0 (at + seen + 1) next bs = last_mono n 0 (at + seen + 1) next bs (omega (arith, l2)) in
    both (eqb b 96) last (last_run n (seen + 1) at last bs) (last_run n 0 (at + seen + 1) next bs) (last_mono n (seen + 1) at last bs h) (omega (arith, l1, l3))

-- ---- where the last run is earlier, none is left

none_end : (t : Bool) (at last at2 : ℕ) → cond t (at + 1) last ≤ at → cond t (Some at2) None ≡ None
none_end true at last at2 h = absurd (omega (arith, h))
none_end false at last at2 h = refl

none_step : (n seen at last at2 : ℕ) (bs : List ℕ) (t u : Bool) → ((seen at last at2 : ℕ) → last ≤ at → last_run n seen at last bs ≤ at → run_at n seen at2 bs ≡ None) → last ≤ at
    → cond t (last_run n (seen + 1) at last bs) (last_run n 0 (at + seen + 1) (cond u (at + 1) last) bs) ≤ at
    → cond t (run_at n (seen + 1) at2 bs) (cond u (Some at2) (run_at n 0 (at2 + seen + 1) bs)) ≡ None
none_step n seen at last at2 bs true u ih h k = ih (seen + 1) at last at2 h k
none_step n seen at last at2 bs false true ih h k = absurd (omega (arith, k, last_mono n 0 (at + seen + 1) (at + 1) bs (omega arith)))
none_step n seen at last at2 bs false false ih h k = ih 0 (at + seen + 1) last (at2 + seen + 1) (omega (arith, h)) (omega (arith, k))

none_left : (n seen at last at2 : ℕ) (bs : List ℕ) → last ≤ at → last_run n seen at last bs ≤ at → run_at n seen at2 bs ≡ None
unfolding last_run run_at
none_left n seen at last at2 [] h k = none_end (eqb seen n) at last at2 k
none_left n seen at last at2 (b ∷ bs) h k = none_step n seen at last at2 bs (eqb b 96) (eqb seen n) (λ s a l a2 h k. none_left n s a l a2 bs h k) h k

-- ---- after a part of the text that no run goes on from

not_zero : (n : ℕ) → 0 < n → eqb 0 n ≡ false
not_zero n h = grind (arith, nat_tests)

none_here : (n seen at last at2 : ℕ) (bs : List ℕ) → 0 < n → IsTickless bs → last ≤ at → last_run n seen at last bs ≤ at + seen → run_at n 0 at2 bs ≡ None
unfolding last_run run_at
none_here n seen at last at2 [] some h l k = ap (λ t. cond t (Some at2) None) (not_zero n some)
none_here n seen at last at2 (b ∷ bs) some h l k =
    let next : ℕ = cond (eqb seen n) (at + 1) last in
    let l2 : next ≤ at + 1 = late (eqb seen n) at last l in
    let same : cond (eqb b 96) (last_run n (seen + 1) at last bs) (last_run n 0 (at + seen + 1) next bs) ≡ last_run n 0 (at + seen + 1) next bs =
    ap (λ t. cond t (last_run n (seen + 1) at last bs) (last_run n 0 (at + seen + 1) next bs)) h in
    ap (λ t. cond t (run_at n (0 + 1) at2 bs) (cond (eqb 0 n) (Some at2) (run_at n 0 (at2 + 0 + 1) bs))) h
    ∙ ap (λ t. cond t (Some at2) (run_at n 0 (at2 + 0 + 1) bs)) (not_zero n some)
    ∙ none_left n 0 (at + seen + 1) next (at2 + 0 + 1) bs (omega (arith, l2)) (omega (arith, k, same))

after_step : (n seen at last k : ℕ) (bs : List ℕ) (t u : Bool) (P : Type 0) → ((seen at last : ℕ) → last ≤ at → last_run n seen at last bs ≤ at + seen + k → P) → last ≤ at
    → cond t (last_run n (seen + 1) at last bs) (last_run n 0 (at + seen + 1) (cond u (at + 1) last) bs) ≤ at + seen + suc k → P
after_step n seen at last k bs true u P ih l h = ih (seen + 1) at last l (omega (arith, h))
after_step n seen at last k bs false u P ih l h =
    let l2 : cond u (at + 1) last ≤ at + 1 = late u at last l in
    ih 0 (at + seen + 1) (cond u (at + 1) last) (omega (arith, l2)) (omega (arith, h))

none_after : (n seen at last at2 : ℕ) (front bs : List ℕ) → 0 < n → IsTickless bs → last ≤ at → last_run n seen at last (front ++ bs) ≤ at + seen + length front → run_at n 0 at2 bs ≡ None
unfolding last_run
none_after n seen at last at2 [] bs some h l k = none_here n seen at last at2 bs some h l (omega (arith, k))
none_after n seen at last at2 (c ∷ cs) bs some h l k =
    after_step n seen at last (length cs) (cs ++ bs) (eqb c 96) (eqb seen n) (run_at n 0 at2 bs ≡ None) (λ s a la l k. none_after n s a la at2 cs bs some h l k) l k

-- from a place on
pub none_from : (n from : ℕ) (text : List ℕ) → 0 < n → from ≤ length text → IsTickless (drop from text) → last_run n 0 0 0 text ≤ from → run_at n 0 0 (drop from text) ≡ None
none_from n from text some within h k =
    let whole : take from text ++ drop from text ≡ text = take-append-drop from text in
    let same : last_run n 0 0 0 (take from text ++ drop from text) ≡ last_run n 0 0 0 text = ap (last_run n 0 0 0) whole in
    none_after n 0 0 0 0 (take from text) (drop from text) some h (omega arith) (omega (arith, k, same, length-take-le from text within))

-- after a run of backquotes
tickless_with : (b : ℕ) (bs : List ℕ) (t : Bool) (n k : ℕ) → eqb b 96 ≡ t → k ≡ suc n → IsTickless (drop n bs) → IsTickless (drop (cond t k 0) (b ∷ bs))
tickless_with b bs true n k e s h = subst (λ j. IsTickless (drop j (b ∷ bs))) (sym s) h
tickless_with b bs false n k e s h = e

tickless_front : (bs : List ℕ) → IsTickless (drop (prefix_len (λ b. eqb b 96) bs) bs)
tickless_front [] = tt
tickless_front (b ∷ bs) = tickless_with b bs (eqb b 96) (prefix_len (λ b. eqb b 96) bs) (1 + prefix_len (λ b. eqb b 96) bs) refl (omega arith) (tickless_front bs)

-- behind all backquotes in front no further one follows
pub tickless : (at n : ℕ) (text : List ℕ) → n ≡ count_in_front 96 (drop at text) → IsTickless (drop (at + n) text)
unfolding count_in_front
tickless at n text e =
    subst (λ (xs : List ℕ). IsTickless xs) (drop-drop n at text) (subst (λ j. IsTickless (drop j (drop at text))) (sym e) (tickless_front (drop at text)))

-- ---- where there is no backquote

beyond : (xs : List ℕ) (i d : ℕ) → length xs ≤ i → get_or xs i d ≡ d
beyond [] i d h = refl
beyond (x ∷ xs) zero d h = absurd (omega (arith, h))
beyond (x ∷ xs) (suc i) d h = beyond xs i d (omega (arith, h))

off : (t : Bool) → (t ≡ true → ⊥) → t ≡ false
off true h = absurd (h refl)
off false h = refl

none_at : (bs : List ℕ) → Nowhere (Passes (is_byte 96) bs) 0 (length bs) → (k : ℕ) → eqb (get_or bs k 0) 96 ≡ false
none_at bs none k =
    ⊎_elim (λ (few : k < length bs). off (eqb (get_or bs k 0) 96) (none k (omega arith) few)) (λ (over : length bs ≤ k). ap (λ b. eqb b 96) (beyond bs k 0 over)) (cases_lt k (length bs))

no_run : (n at last : ℕ) (bs : List ℕ) → 0 < n → ((k : ℕ) → eqb (get_or bs k 0) 96 ≡ false) → last_run n 0 at last bs ≡ last
unfolding last_run
no_run n at last [] some none = ap (λ t. cond t (at + 1) last) (not_zero n some)
no_run n at last (b ∷ bs) some none =
    ap (λ t. cond t (last_run n (0 + 1) at last bs) (last_run n 0 (at + 0 + 1) (cond (eqb 0 n) (at + 1) last) bs)) (none 0)
    ∙ ap (λ t. last_run n 0 (at + 0 + 1) (cond t (at + 1) last) bs) (not_zero n some)
    ∙ no_run n (at + 0 + 1) last bs some (λ k. none (suc k))

-- where a search finds no backquote, no run of them is the last of its length
pub no_runs : (lasts text : List ℕ) → lasts ≡ [] → Nowhere (Passes (is_byte 96) text) 0 (length text) → AreLasts lasts text
no_runs lasts text e none n some = ap (λ (l : List ℕ). get_or l n 0) e ∙ sym (no_run n 0 0 text some (none_at text none))

-- so it is where the search's answer says that there is none
pub no_runs_by : (r : Option ℕ) (lasts text : List ℕ) → lasts ≡ [] → IsFirstByte (is_byte 96) text r → is_some r ≡ false → AreLasts lasts text
no_runs_by None lasts text e none h = no_runs lasts text e none
no_runs_by (Some k) lasts text e none h = absurd (no h)
  where
    no : true ≡ false → ⊥
    no e = cc
