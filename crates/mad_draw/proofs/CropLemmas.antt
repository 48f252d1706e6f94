-- What the calls of a crop writer write, and that they keep its limit.
use Rattle.std.proofs.Common.{◌≡◌, ◌≢◌, ◌⊎◌, ⊎_elim, ℕ, zero, suc, ◌+◌, ◌-◌, ◌<◌, ◌≤◌, ◌==◌, min, Bool, true, false, true≢false, cond, List, [], ◌∷◌, ◌++◌, length, take, drop, replicate, Result, Ok, Err, refl, ap, sym, ◌∙◌, subst, arith, append-nil}
use Rattle.std.specs.Prelude.{encode_utf8, encode_utf8_all, IsErrOf}
use Rattle.std.specs.List.{AllByRecursion}
use Rattle.std.specs.Result.{is_ok, IsErrAnd}
use Rattle.std.proofs.lemmas.Bool.{cases_lt}
use Rattle.std.proofs.lemmas.Bool.Decides.{nat_tests}
use Rattle.std.proofs.lemmas.List.{take-append-drop, take_all}
use Rattle.std.proofs.lemmas.Result.{err_from_is_err_and}
use Rattle.mad_characters.specs.Columns.{char_columns}
use Rattle.mad_characters.proofs.CharColumns.{char_columns-ascii}
use Rattle.mad_term.specs.declared.errors.Error.{Error}
use Rattle.mad_term.specs.declared.errors.Error.TheVariants.{Memory}
use Rattle.mad_term.specs.Draws.{Draws}
use Rattle.mad_term.specs.Trace.{Trace}
use Rattle.mad_term.proofs.QueueExits.{memory_first}
use Rattle.mad_term.proofs.Traces.{took_none}
use Rattle.mad_measure.specs.RunningWidths.{columns_on, columns_back, forward, backward, running_width, StaysWithin, IsLongestFront, tabs_replaced}
use Rattle.mad_measure.specs.TextColumns.{columns}
use Rattle.mad_measure.proofs.StrFitLemmas.{backward-append}
use Rattle.mad_draw.specs.Crops.{Given, Text, Char, Counted, Filled, Crop, nothing, some, filled, IsKept, unless_full, left_after, Crops, IsMeasured, written_chars, AreKept, KeepsTheLimit}

-- ---- the calls

-- nothing is written
pub crops_nothing : (bytes : List ℕ → List ℕ) (given : Given) (old : Trace) (allowed : ℕ) → IsKept allowed given nothing → (r : Result (Unit {0}) Error) → r ≡ Ok tt → Crops bytes given old allowed r old allowed
crops_nothing bytes given old allowed kept r is = record {
  crop = nothing;
  kept = kept;
  draws = subst (λ (s : Result (Unit {0}) Error). Draws old [] s old) (sym is) (took_none old);
  succeeds = λ _. ap is_ok is;
  leaves = subst (λ (s : Result (Unit {0}) Error). allowed ≡ left_after s allowed 0) (sym is) (omega arith);
  early = λ _. refl;
}

-- memory was wanted
pub crops_memory : (bytes : List ℕ → List ℕ) (given : Given) (cs : List ℕ) (taken : ℕ) (old : Trace) (allowed : ℕ) (r : Result (Unit {0}) Error) → IsKept allowed given (some cs taken) → IsErrAnd r (λ e. e ≡ Memory) → Crops bytes given old allowed r old allowed
crops_memory bytes given cs taken old allowed r kept h = record {
  crop = some cs taken;
  kept = kept;
  draws = memory_first r old (bytes cs) h;
  succeeds = λ none. absurd (true≢false none);
  leaves = let p = err_from_is_err_and r h in subst (λ (s : Result (Unit {0}) Error). allowed ≡ left_after s allowed taken) (sym (p.1 ∙ ap Err p.2)) refl;
  early = λ _. refl;
}

-- something was written, or was to be
pub crops_some : (bytes : List ℕ → List ℕ) (given : Given) (cs text : List ℕ) (taken : ℕ) (old mid new : Trace) (allowed left : ℕ) (r s : Result (Unit {0}) Error) → IsKept allowed given (some cs taken) → text ≡ bytes cs → Draws old text s mid → (IsErrOf s Memory → mid ≡ old)
    → new ≡ mid → left ≡ left_after s allowed taken → r ≡ s → Crops bytes given old allowed r new left
crops_some bytes given cs text taken old mid new allowed left r s kept is draws early moved leaves same = record {
  crop = some cs taken;
  kept = kept;
  draws =
      subst (λ (q : Result (Unit {0}) Error). Draws old (bytes cs) q new) (sym same)
      (subst (λ (t : Trace). Draws old (bytes cs) s t) (sym moved) (subst (λ (t : List ℕ). Draws old t s mid) is draws));
  succeeds = λ none. absurd (true≢false none);
  leaves = leaves ∙ ap (λ (q : Result (Unit {0}) Error). left_after q allowed taken) (sym same);
  early = λ h. moved ∙ early (subst (λ (q : Result (Unit {0}) Error). IsErrOf q Memory) same h);
}

-- a command, unless no column is left
pub command_left_out : (allowed : ℕ) (bytes : List ℕ) (old : Trace) (r : Result (Unit {0}) Error) → (allowed == 0) ≡ true → r ≡ Ok tt → Draws old (unless_full allowed bytes) r old
command_left_out allowed bytes old r full is =
    subst (λ (t : List ℕ). Draws old t r old) (sym (ap (λ b. cond b [] bytes) full)) (subst (λ (s : Result (Unit {0}) Error). Draws old [] s old) (sym is) (took_none old))

-- a command goes out as it is where a column is left
pub command_written : (allowed : ℕ) (bytes : List ℕ) (old new : Trace) (r : Result (Unit {0}) Error) → (allowed == 0) ≡ false → Draws old bytes r new → Draws old (unless_full allowed bytes) r new
command_written allowed bytes old new r some h = subst (λ (t : List ℕ). Draws old t r new) (sym (ap (λ b. cond b [] bytes) some)) h

-- a test for a column that is left, and for a tab
pub none_left : (n : ℕ) → (n == 0) ≡ true → n ≡ 0
none_left n h = grind (arith, nat_tests)

-- a column is left where the test for 0 fails
pub some_left : (n : ℕ) → (n == 0) ≡ false → 0 < n
some_left n h = grind (arith, nat_tests)

-- a character that isn't a tab is given as any other
pub crops_otherwise : (bytes : List ℕ → List ℕ) (c : ℕ) (x y : Given) (old new : Trace) (allowed left : ℕ) (r : Result (Unit {0}) Error) → c ≢ 9 → Crops bytes y old allowed r new left → Crops bytes (cond (c == 9) x y) old allowed r new left
crops_otherwise bytes c x y old new allowed left r other h =
    let test : (c == 9) ≡ false = grind (arith, nat_tests) in
    subst (λ (given : Given). Crops bytes given old allowed r new left) (sym (ap (λ t. cond t x y) test)) h

-- a character has the bytes of a text of it alone
pub one_encoded : (c : ℕ) → encode_utf8 c ≡ encode_utf8_all (c ∷ [])
one_encoded c = sym (append-nil (encode_utf8 c))

-- ---- what is kept

-- nothing is kept of a text where no column is left
pub text_full : (allowed : ℕ) (cs : List ℕ) → allowed ≡ 0 → IsKept allowed (Text cs) nothing
text_full allowed cs none = (λ _. refl, λ h. absurd (omega (arith, none, h)))

-- the longest front of a text is kept where a column is left, its tabs replaced
pub text_kept : (allowed : ℕ) (front cs : List ℕ) → 0 < allowed → IsLongestFront allowed front cs → IsKept allowed (Text cs) (some (tabs_replaced front) (running_width front))
text_kept allowed front cs room longest = (λ none. absurd (omega (arith, none, room)), λ _. (front, longest, refl))

-- a character that leaves no column over isn't kept
pub char_left_out : (allowed c : ℕ) → allowed ≤ char_columns c → IsKept allowed (Char c) nothing
char_left_out allowed c h = (λ k. absurd (omega (arith, h, k)), λ _. refl)

-- a character that leaves a column over is kept
pub char_kept : (allowed c : ℕ) → char_columns c < allowed → IsKept allowed (Char c) (some (c ∷ []) (char_columns c))
char_kept allowed c h = (λ _. refl, λ k. absurd (omega (arith, h, k)))

-- no counted character is kept where no column is left
pub counted_full : (allowed : ℕ) (cs : List ℕ) → allowed ≡ 0 → IsKept allowed (Counted cs) nothing
counted_full allowed cs none = (λ _. refl, λ h. absurd (omega (arith, none, h)))

-- the first of counted characters are kept where a column is left, each for a column
pub counted_kept : (allowed : ℕ) (cs : List ℕ) → 0 < allowed → IsKept allowed (Counted cs) (some (take allowed cs) (min allowed (length cs)))
counted_kept allowed cs room = (λ none. absurd (omega (arith, none, room)), λ _. refl)

-- nothing is kept of a filling of no characters, or where no column is left
pub filled_none : (allowed c n : ℕ) → min n allowed ≡ 0 → IsKept allowed (Filled c n) nothing
filled_none allowed c n none = sym (ap (filled c) none)

filled_is : (c n : ℕ) → 0 < n → filled c n ≡ some (replicate n c) n
filled_is c zero h = absurd (omega (arith, h))
filled_is c (suc n) h = refl

-- a filling is kept as far as columns are left
pub filled_kept : (allowed c n : ℕ) → 0 < min n allowed → IsKept allowed (Filled c n) (some (replicate (min n allowed) c) (min n allowed))
filled_kept allowed c n room = sym (filled_is c (min n allowed) room)

take_length : (xs : List ℕ) → take (length xs) xs ≡ xs
take_length xs = take_all (length xs) xs (omega arith)

-- the running width of a front stays within
pub width_within : (allowed : ℕ) (front : List ℕ) → StaysWithin allowed front → running_width front ≤ allowed
width_within allowed front h = let all : forward (take (length front) front) ≤ allowed + backward (take (length front) front) = h (length front) in omega (arith, subst (λ (xs : List ℕ). forward xs ≤ allowed + backward xs) (take_length front) all)

-- ---- the limit

columns-append : (cs ds : List ℕ) → columns (cs ++ ds) ≡ columns cs + columns ds
columns-append [] ds = omega arith
columns-append (c ∷ cs) ds = let rest : columns (cs ++ ds) ≡ columns cs + columns ds = columns-append cs ds in omega (arith, rest)

by_tests : (c : ℕ) (s t : Bool) → ◌≡◌ {A = ℕ} (cond t 1 0) 0 → ◌≡◌ {A = ℕ} (columns (cond s (32 ∷ 32 ∷ []) (c ∷ []))) (cond s 2 (cond t 0 (char_columns c)))
by_tests c true t back = let space : char_columns 32 ≡ 1 = char_columns-ascii 32 (omega arith) (omega arith) in omega (arith, space)
by_tests c false true back = absurd (omega (arith, back))
by_tests c false false back = omega arith

one_shown : (c : ℕ) → columns_back c ≡ 0 → columns (cond (c == 9) (32 ∷ 32 ∷ []) (c ∷ [])) ≡ columns_on c
one_shown c back = by_tests c (c == 9) (c == 8) back

-- with its tabs replaced, a text takes no more columns than it moves on
shown_columns : (cs : List ℕ) → backward cs ≡ 0 → columns (tabs_replaced cs) ≡ forward cs
shown_columns [] h = refl
shown_columns (c ∷ cs) h =
    let back : columns_back c ≡ 0 = omega (arith, h) in
    let others : backward cs ≡ 0 = omega (arith, h) in
    let rest : columns (tabs_replaced cs) ≡ forward cs = shown_columns cs others in
    let one : columns (cond (c == 9) (32 ∷ 32 ∷ []) (c ∷ [])) ≡ columns_on c = one_shown c back in
    columns-append (cond (c == 9) (32 ∷ 32 ∷ []) (c ∷ [])) (tabs_replaced cs) ∙ omega (arith, one, rest)

no_backspace : (n : ℕ) (cs : List ℕ) → backward cs ≡ 0 → backward (take n cs) ≡ 0
no_backspace n cs h = let all : backward (take n cs) + backward (drop n cs) ≡ backward cs = sym (backward-append (take n cs) (drop n cs)) ∙ ap backward (take-append-drop n cs) in omega (arith, all, h)

counted_columns : (n : ℕ) (cs : List ℕ) → AllByRecursion (λ c. char_columns c ≤ 1) cs → columns (take n cs) ≤ min n (length cs)
counted_columns zero cs h = omega arith
counted_columns (suc n) [] h = omega arith
counted_columns (suc n) (c ∷ cs) h = let rest : columns (take n cs) ≤ min n (length cs) = counted_columns n cs h.1 in omega (arith, rest, h.0)

counted_exactly : (n : ℕ) (cs : List ℕ) → AllByRecursion (λ c. char_columns c ≡ 1) cs → columns (take n cs) ≡ min n (length cs)
counted_exactly zero cs h = omega arith
counted_exactly (suc n) [] h = omega arith
counted_exactly (suc n) (c ∷ cs) h = let rest : columns (take n cs) ≡ min n (length cs) = counted_exactly n cs h.1 in omega (arith, rest, h.0)

filled_columns : (n c : ℕ) → char_columns c ≤ 1 → columns (replicate n c) ≤ n
filled_columns zero c h = omega arith
filled_columns (suc n) c h = let rest : columns (replicate n c) ≤ n = filled_columns n c h in omega (arith, rest, h)

filled_exactly : (n c : ℕ) → char_columns c ≡ 1 → columns (replicate n c) ≡ n
filled_exactly zero c h = omega arith
filled_exactly (suc n) c h = let rest : columns (replicate n c) ≡ n = filled_exactly n c h in omega (arith, rest, h)

-- A relation between the columns that are written and those that are taken off, which holds where nothing is written; and no more are
-- taken off than are left.
abbrev Keeps : (ℕ → ℕ → Type 0) → ℕ → Crop → Type 0
Keeps R allowed crop = R (columns (written_chars crop.written)) crop.taken × (crop.taken ≤ allowed)

text_keeps : (allowed : ℕ) (cs front : List ℕ) → backward cs ≡ 0 → IsLongestFront allowed front cs → (columns (tabs_replaced front) ≡ running_width front) × (running_width front ≤ allowed)
text_keeps allowed cs front none longest =
    let clean : backward front ≡ 0 = ap backward longest.is_front ∙ no_backspace (length front) cs none in
    let shown : columns (tabs_replaced front) ≡ forward front = shown_columns front clean in
    (omega (arith, shown, clean), width_within allowed front longest.within)

none_keeps : (R : ℕ → ℕ → Type 0) (allowed : ℕ) (crop : Crop) → R 0 0 → crop ≡ nothing → Keeps R allowed crop
none_keeps R allowed crop same e = subst (Keeps R allowed) (sym e) (same, omega arith)

some_keeps : (R : ℕ → ℕ → Type 0) (allowed : ℕ) (crop : Crop) (cs : List ℕ) (taken : ℕ) → crop ≡ some cs taken → R (columns cs) taken → taken ≤ allowed → Keeps R allowed crop
some_keeps R allowed crop cs taken e a b = subst (Keeps R allowed) (sym e) (a, b)

filled_keeps : (R : ℕ → ℕ → Type 0) (allowed c n : ℕ) → R 0 0 → R (columns (replicate n c)) n → n ≤ allowed → Keeps R allowed (filled c n)
filled_keeps R allowed c zero none all within = (none, omega arith)
filled_keeps R allowed c (suc n) none all within = (all, within)

one_keeps : (R : ℕ → ℕ → Type 0) (P : ℕ → Type 0) (allowed : ℕ) (given : Given) (crop : Crop) → ((n : ℕ) → R n n) → ((n : ℕ) (cs : List ℕ) → AllByRecursion P cs → R (columns (take n cs)) (min n (length cs))) → ((n c : ℕ) → P c → R (columns (replicate n c)) n)
    → IsMeasured P given → IsKept allowed given crop → Keeps R allowed crop
one_keeps R P allowed (Text cs) crop same counted of_filled measured kept =
    ⊎_elim
    (λ (none : allowed < 1). none_keeps R allowed crop (same 0) (kept.0 (omega (arith, none))))
    (λ (room : 1 ≤ allowed).
    let found = kept.1 (omega (arith, room)) in
    let both = text_keeps allowed cs found.0 measured found.1 in
    some_keeps R allowed crop (tabs_replaced found.0) (running_width found.0) found.2 (subst (λ (n : ℕ). R n (running_width found.0)) (sym both.0) (same (running_width found.0))) both.1)
    (cases_lt allowed 1)
one_keeps R P allowed (Char c) crop same counted of_filled measured kept =
    ⊎_elim
    (λ (fits : char_columns c < allowed).
    let one : columns (c ∷ []) ≡ char_columns c = omega arith in
    some_keeps R allowed crop (c ∷ []) (char_columns c) (kept.0 fits) (subst (λ (n : ℕ). R n (char_columns c)) (sym one) (same (char_columns c))) (omega (arith, fits)))
    (λ (full : allowed ≤ char_columns c). none_keeps R allowed crop (same 0) (kept.1 full))
    (cases_lt (char_columns c) allowed)
one_keeps R P allowed (Counted cs) crop same counted of_filled measured kept =
    ⊎_elim
    (λ (none : allowed < 1). none_keeps R allowed crop (same 0) (kept.0 (omega (arith, none))))
    (λ (room : 1 ≤ allowed). some_keeps R allowed crop (take allowed cs) (min allowed (length cs)) (kept.1 (omega (arith, room))) (counted allowed cs measured) (omega arith))
    (cases_lt allowed 1)
one_keeps R P allowed (Filled c n) crop same counted of_filled measured kept =
    subst (Keeps R allowed) (sym kept) (filled_keeps R allowed c (min n allowed) (same 0) (of_filled (min n allowed) c measured) (omega arith))

call_keeps : (R : ℕ → ℕ → Type 0) (P : ℕ → Type 0) (allowed : ℕ) (given : Given) (crop : Crop) → ((n : ℕ) → R n n) → ((n : ℕ) (cs : List ℕ) → AllByRecursion P cs → R (columns (take n cs)) (min n (length cs))) → ((n c : ℕ) → P c → R (columns (replicate n c)) n)
    → IsMeasured P given → IsKept allowed given crop ⊎ (crop ≡ nothing) → Keeps R allowed crop
call_keeps R P allowed given crop same counted of_filled measured kept =
    ⊎_elim (λ k. one_keeps R P allowed given crop same counted of_filled measured k) (λ e. none_keeps R allowed crop (same 0) e) kept

limit_kept : (limit : ℕ) (given : List Given) (cs : List ℕ) (left : ℕ) → AllByRecursion (IsMeasured (λ c. char_columns c ≤ 1)) given → AreKept limit given cs left → columns cs + left ≤ limit
limit_kept limit [] cs left measured kept = let none : columns cs ≡ 0 = ap columns kept.0 in omega (arith, none, kept.1)
limit_kept limit (g ∷ gs) cs left measured kept =
    let crop : Crop = kept.0 in
    let one : (columns (written_chars crop.written) ≤ crop.taken) × (crop.taken ≤ limit) = call_keeps (λ a b. a ≤ b) (λ c. char_columns c ≤ 1) limit g crop (λ n. omega arith) counted_columns filled_columns measured.0 kept.2 in
    let others : columns kept.1 + left ≤ limit - crop.taken = limit_kept (limit - crop.taken) gs kept.1 left measured.1 kept.4 in
    let all : columns cs ≡ columns (written_chars crop.written) + columns kept.1 = ap columns kept.3 ∙ columns-append (written_chars crop.written) kept.1 in
    omega (arith, one.0, one.1, others, all)

limit_reached : (limit : ℕ) (given : List Given) (cs : List ℕ) (left : ℕ) → AllByRecursion (IsMeasured (λ c. char_columns c ≡ 1)) given → AreKept limit given cs left → columns cs + left ≡ limit
limit_reached limit [] cs left measured kept = let none : columns cs ≡ 0 = ap columns kept.0 in omega (arith, none, kept.1)
limit_reached limit (g ∷ gs) cs left measured kept =
    let crop : Crop = kept.0 in
    let one : (columns (written_chars crop.written) ≡ crop.taken) × (crop.taken ≤ limit) = call_keeps (λ a b. a ≡ b) (λ c. char_columns c ≡ 1) limit g crop (λ n. refl) counted_exactly filled_exactly measured.0 kept.2 in
    let others : columns kept.1 + left ≡ limit - crop.taken = limit_reached (limit - crop.taken) gs kept.1 left measured.1 kept.4 in
    let all : columns cs ≡ columns (written_chars crop.written) + columns kept.1 = ap columns kept.3 ∙ columns-append (written_chars crop.written) kept.1 in
    omega (arith, one.0, one.1, others, all)

-- whatever a crop writer is given, it keeps its limit
pub limits : KeepsTheLimit
limits = record { at_most = limit_kept; exactly = limit_reached }
