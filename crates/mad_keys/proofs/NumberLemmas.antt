-- Numbers, byte by byte.
use Rattle.std.proofs.Common.{◌≡◌, ◌≢◌, ℕ, Bool, append-nil, ◌+◌, ◌-◌, ◌*◌, ◌/◌, ◌%◌, ◌^◌, ◌<◌, ◌≤◌, true, false, cond, ltb, leb, eqb, List, [], ◌∷◌, ◌++◌, length, get_or, drop, Option, Some, None, refl, ap, ◌∙◌, sym, subst, arith, append_assoc, length-append}
use Rattle.std.specs.Prelude.{option_and_then, ◌&&◌, decimal}
use Rattle.std.specs.List.{flat_map}
use Rattle.std.proofs.lemmas.Fmt.{decimal_by_steps, decimal_step, decimal_digit, decimal_nonempty}
use Rattle.std.proofs.lemmas.List.{at_drop_more, at_drop_all}
use Rattle.std.proofs.lemmas.Option.{none-some, same_Some, cond_some, option_and_then_some}
use Rattle.std.proofs.lemmas.Bool.{and_parts, leb-true, ltb-true, eqb-true, eqb-false, ne_eqb}
use Rattle.std.proofs.lemmas.Bool.Decides.{nat_tests}
use Rattle.mad_term.specs.Commands.{numbers_bytes}
use Rattle.mad_keys.specs.Digits.{with_digit, with_byte, with_number, AreSmall, scan, numbers_at}

-- these bytes are the numbers, of which there are at most three
pub record AreNumbers (numbers bytes : List ℕ) : Type 0 where
  pub written : bytes ≡ numbers_bytes numbers
  pub few : length numbers ≤ 3
  pub small : AreSmall numbers

-- ---- what is written is read

digit_read : (now : Option ℕ) (d n : ℕ) → d < 10 → with_digit now d ≡ Some n → with_byte now (48 + d) ≡ Some n
digit_read now d n small e =
    let test : (leb 48 (48 + d) && leb (48 + d) 57) ≡ true = grind (arith, nat_tests) in
    let value : (48 + d) - 48 ≡ d = omega arith in
    ap (λ b. cond b (with_digit now ((48 + d) - 48)) None) test ∙ ap (with_digit now) value ∙ e

one_more : (n : ℕ) → 10 ≤ n → n < 2 ^ 32 → with_digit (Some (n / 10)) (n % 10) ≡ Some n
one_more n some small =
    let leads : eqb (n / 10) 0 ≡ false = grind (arith, nat_tests) in
    let value : n / 10 * 10 + n % 10 ≡ n = omega arith in
    let below : ltb (n / 10 * 10 + n % 10) (2 ^ 32) ≡ true = grind (arith, nat_tests) in
    ap (λ b. cond b None (cond (ltb (n / 10 * 10 + n % 10) (2 ^ 32)) (Some (n / 10 * 10 + n % 10)) None)) leads
    ∙ ap (λ b. cond b (Some (n / 10 * 10 + n % 10)) None) below ∙ ap Some value

scan_digit : (bs ns : List ℕ) (now : Option ℕ) (d n : ℕ) → d < 10 → with_digit now d ≡ Some n → scan ((48 + d) ∷ bs) ns now ≡ scan bs ns (Some n)
scan_digit bs ns now d n small e =
    let test : eqb (48 + d) 59 ≡ false = grind (arith, nat_tests) in
    ap (λ b. cond b (option_and_then (λ ms. scan bs ms None) (with_number ns now)) (option_and_then (λ m. scan bs ns (Some m)) (with_byte now (48 + d)))) test
    ∙ ap (option_and_then (λ m. scan bs ns (Some m))) (digit_read now d n small e)

scan_decimal : (ns : List ℕ) (n : ℕ) → n < 2 ^ 32 → (bs : List ℕ) → scan (decimal n ++ bs) ns None ≡ scan bs ns (Some n)
scan_decimal ns n fits =
    decimal_by_steps (λ n ds. n < 2 ^ 32 → (bs : List ℕ) → scan (ds ++ bs) ns None ≡ scan bs ns (Some n))
    (λ n h small bs. scan_digit bs ns None n n h refl)
    (λ n ds some ih small bs. ap (λ l. scan l ns None) (append_assoc ds ((48 + n % 10) ∷ []) bs)
    ∙ ih (omega arith) ((48 + n % 10) ∷ bs) ∙ scan_digit bs ns (Some (n / 10)) (n % 10) n (omega arith) (one_more n some small))
    n (omega arith) fits

scan_end : (ns : List ℕ) (n : ℕ) → length ns < 3 → with_number ns (Some n) ≡ Some (ns ++ n ∷ [])
scan_end ns n few =
    let test : ltb (length ns) 3 ≡ true = grind (arith, nat_tests) in
    ap (λ b. cond b (Some (ns ++ n ∷ [])) None) test

scan_rest : (ms ns : List ℕ) (n : ℕ) → length ns + (1 + length ms) ≤ 3 → AreSmall ms → scan (flat_map (λ m. 59 ∷ decimal m) ms) ns (Some n) ≡ Some (ns ++ n ∷ ms)
scan_rest [] ns n few small = scan_end ns n (omega arith)
scan_rest (m ∷ ms) ns n few small =
    let others : List ℕ = flat_map (λ k. 59 ∷ decimal k) ms in
    let count : length (ns ++ n ∷ []) ≡ length ns + 1 = length-append ns (n ∷ []) in
    ap (option_and_then (λ l. scan (decimal m ++ others) l None)) (scan_end ns n (omega arith))
    ∙ scan_decimal (ns ++ n ∷ []) m small.0 others
    ∙ scan_rest ms (ns ++ n ∷ []) m (omega arith) small.1
    ∙ ap Some (append_assoc ns (n ∷ []) (m ∷ ms))

-- written numbers are read as these numbers
pub scan_numbers : (n : ℕ) (ns : List ℕ) → length ns ≤ 2 → AreSmall (n ∷ ns) → scan (numbers_bytes (n ∷ ns)) [] None ≡ Some (n ∷ ns)
scan_numbers n ns few small = scan_decimal [] n small.0 _ ∙ scan_rest ns [] n (omega arith) small.1

-- ---- what is read was written

-- whole numbers, each with its semicolon
abbrev ended : List ℕ → List ℕ
ended [] = []
ended (n ∷ ns) = decimal n ++ 59 ∷ ended ns

-- what there is of a number
abbrev begun : Option ℕ → List ℕ
begun None = []
begun (Some n) = decimal n

-- what there is of it is below 2 ^ 32
abbrev IsSmall : Option ℕ → Type 0
IsSmall None = Unit {0}
IsSmall (Some n) = n < 2 ^ 32

-- a test whose second way gives nothing went the first
pub cond_then : {A : Type 0} (t : Bool) (o : Option A) (y : A) → cond t o None ≡ Some y → (t ≡ true) × (o ≡ Some y)
cond_then true o y h = (refl, h)
cond_then false o y h = absurd (none-some y h)

cond_else : {A : Type 0} (t : Bool) (o : Option A) (y : A) → cond t None o ≡ Some y → (t ≡ false) × (o ≡ Some y)
cond_else false o y h = (refl, h)
cond_else true o y h = absurd (none-some y h)

begun_more : (now : Option ℕ) (b n : ℕ) → IsSmall now → with_byte now b ≡ Some n → (decimal n ≡ begun now ++ b ∷ []) × (n < 2 ^ 32)
begun_more None b n small h =
    let k = cond_then (leb 48 b && leb b 57) (Some (b - 48)) n h in
    let t = and_parts (leb 48 b) (leb b 57) k.0 in
    let low : 48 ≤ b = leb-true 48 b t.0 in
    let high : b ≤ 57 = leb-true b 57 t.1 in
    let is : b - 48 ≡ n = same_Some _ _ k.1 in
    (decimal_digit n (omega arith) ∙ ap (λ x. x ∷ []) (omega arith), omega arith)
begun_more (Some m) b n small h =
    let k = cond_then (leb 48 b && leb b 57) (with_digit (Some m) (b - 48)) n h in
    let t = and_parts (leb 48 b) (leb b 57) k.0 in
    let low : 48 ≤ b = leb-true 48 b t.0 in
    let high : b ≤ 57 = leb-true b 57 t.1 in
    let j = cond_else (eqb m 0) (cond (ltb (m * 10 + (b - 48)) (2 ^ 32)) (Some (m * 10 + (b - 48))) None) n k.1 in
    let no : m ≡ 0 → ⊥ = eqb-false m 0 j.0 in
    let i = cond_some (ltb (m * 10 + (b - 48)) (2 ^ 32)) (m * 10 + (b - 48)) n j.1 in
    let below : m * 10 + (b - 48) < 2 ^ 32 = ltb-true _ _ i.0 in
    let is : m * 10 + (b - 48) ≡ n = i.1 in
    let front : n / 10 ≡ m = omega arith in
    let last : 48 + n % 10 ≡ b = omega arith in
    (decimal_step n (omega arith) (omega arith) ∙ (λ i. decimal (front i) ++ (last i ∷ [])), omega arith)

ended_more : (ns : List ℕ) (n : ℕ) (bs : List ℕ) → ended (ns ++ n ∷ []) ++ bs ≡ ended ns ++ (decimal n ++ 59 ∷ bs)
ended_more [] n bs = append_assoc (decimal n) (59 ∷ []) bs
ended_more (m ∷ ns) n bs =
    append_assoc (decimal m) (59 ∷ ended (ns ++ n ∷ [])) bs ∙ ap (λ l. decimal m ++ 59 ∷ l) (ended_more ns n bs)
    ∙ sym (append_assoc (decimal m) (59 ∷ ended ns) (decimal n ++ 59 ∷ bs))

ended_last : (ns : List ℕ) (n : ℕ) → 59 ∷ (ended ns ++ decimal n) ≡ flat_map (λ m. 59 ∷ decimal m) (ns ++ n ∷ [])
ended_last [] n = ap (λ l. 59 ∷ l) (sym (append-nil (decimal n)))
ended_last (m ∷ ns) n =
    ap (λ l. 59 ∷ l) (append_assoc (decimal m) (59 ∷ ended ns) (decimal n)) ∙ ap (λ l. 59 ∷ (decimal m ++ l)) (ended_last ns n)

ended_all : (ns : List ℕ) (n : ℕ) → ended ns ++ decimal n ≡ numbers_bytes (ns ++ n ∷ [])
ended_all [] n = sym (append-nil (decimal n))
ended_all (m ∷ ns) n = append_assoc (decimal m) (59 ∷ ended ns) (decimal n) ∙ ap (λ l. decimal m ++ l) (ended_last ns n)

small_more : (ns : List ℕ) (n : ℕ) → AreSmall ns → n < 2 ^ 32 → AreSmall (ns ++ n ∷ [])
small_more [] n s h = (h, tt)
small_more (m ∷ ns) n s h = (s.0, small_more ns n s.1 h)

at_end : (ns : List ℕ) (now : Option ℕ) (ms : List ℕ) → AreSmall ns → IsSmall now → with_number ns now ≡ Some ms → AreNumbers ms (ended ns ++ (begun now ++ []))
at_end ns None ms small now_small h = absurd (none-some ms h)
at_end ns (Some n) ms small now_small h =
    let k = cond_some (ltb (length ns) 3) (ns ++ n ∷ []) ms h in
    let few : length ns < 3 = ltb-true _ _ k.0 in
    let count : length (ns ++ n ∷ []) ≡ length ns + 1 = length-append ns (n ∷ []) in
    subst (λ (l : List ℕ). AreNumbers l (ended ns ++ (decimal n ++ []))) k.1
    (record { written = ap (λ l. ended ns ++ l) (append-nil (decimal n)) ∙ ended_all ns n; few = omega arith; small = small_more ns n small now_small })

at_semicolon : (bs ns : List ℕ) (now : Option ℕ) (ms : List ℕ) → AreSmall ns → IsSmall now
    → ((ls : List ℕ) → AreSmall ls → scan bs ls None ≡ Some ms → AreNumbers ms (ended ls ++ bs))
    → option_and_then (λ ls. scan bs ls None) (with_number ns now) ≡ Some ms → AreNumbers ms (ended ns ++ (begun now ++ 59 ∷ bs))
at_semicolon bs ns None ms small now_small ih h = absurd (none-some ms h)
at_semicolon bs ns (Some n) ms small now_small ih h =
    option_and_then_some (λ ls. scan bs ls None) (with_number ns (Some n)) ms h
    (λ ls e f. let k = cond_some (ltb (length ns) 3) (ns ++ n ∷ []) ls e in
    subst (λ (l : List ℕ). AreNumbers ms l) (ap (λ l. ended l ++ bs) (sym k.1) ∙ ended_more ns n bs)
    (ih ls (subst (λ (l : List ℕ). AreSmall l) k.1 (small_more ns n small now_small)) f))

at_digit : (b : ℕ) (bs ns : List ℕ) (now : Option ℕ) (ms : List ℕ) → IsSmall now
    → ((n : ℕ) → n < 2 ^ 32 → scan bs ns (Some n) ≡ Some ms → AreNumbers ms (ended ns ++ (decimal n ++ bs)))
    → option_and_then (λ n. scan bs ns (Some n)) (with_byte now b) ≡ Some ms → AreNumbers ms (ended ns ++ (begun now ++ b ∷ bs))
at_digit b bs ns now ms now_small ih h =
    option_and_then_some (λ n. scan bs ns (Some n)) (with_byte now b) ms h
    (λ n e f. let k = begun_more now b n now_small e in
    subst (λ (l : List ℕ). AreNumbers ms l) (ap (λ l. ended ns ++ (l ++ bs)) k.0 ∙ ap (λ l. ended ns ++ l) (append_assoc (begun now) (b ∷ []) bs)) (ih n k.1 f))

at_byte : (t : Bool) (b : ℕ) (bs ns : List ℕ) (now : Option ℕ) (ms : List ℕ) → eqb b 59 ≡ t → AreSmall ns → IsSmall now
    → ((ls : List ℕ) → AreSmall ls → scan bs ls None ≡ Some ms → AreNumbers ms (ended ls ++ bs))
    → ((n : ℕ) → n < 2 ^ 32 → scan bs ns (Some n) ≡ Some ms → AreNumbers ms (ended ns ++ (decimal n ++ bs)))
    → cond t (option_and_then (λ ms. scan bs ms None) (with_number ns now)) (option_and_then (λ n. scan bs ns (Some n)) (with_byte now b)) ≡ Some ms
    → AreNumbers ms (ended ns ++ (begun now ++ b ∷ bs))
at_byte true b bs ns now ms is small now_small whole more h =
    subst (λ (x : ℕ). AreNumbers ms (ended ns ++ (begun now ++ x ∷ bs))) (sym (eqb-true b 59 is)) (at_semicolon bs ns now ms small now_small whole h)
at_byte false b bs ns now ms is small now_small whole more h = at_digit b bs ns now ms now_small more h

scan_sound : (bs ns : List ℕ) (now : Option ℕ) (ms : List ℕ) → AreSmall ns → IsSmall now → scan bs ns now ≡ Some ms → AreNumbers ms (ended ns ++ (begun now ++ bs))
scan_sound [] ns now ms small now_small h = at_end ns now ms small now_small h
scan_sound (b ∷ bs) ns now ms small now_small h =
    at_byte (eqb b 59) b bs ns now ms refl small now_small (λ ls l e. scan_sound bs ls None ms l tt e) (λ n l e. scan_sound bs ns (Some n) ms small l e) h

-- ---- both

-- bytes that are read as numbers are these numbers, written
pub numbers_at-sound : (bs ms : List ℕ) → numbers_at bs ≡ Some ms → AreNumbers ms bs
numbers_at-sound [] ms h = subst (λ (l : List ℕ). AreNumbers l []) (same_Some _ _ h) (record { written = refl; few = omega arith; small = tt })
numbers_at-sound (b ∷ bs) ms h = scan_sound (b ∷ bs) [] None ms tt tt h

-- the numbers of bytes, of which there is at least one, are what scanning them gives
pub numbers_at-some : (bs : List ℕ) → bs ≢ [] → numbers_at bs ≡ scan bs [] None
numbers_at-some [] h = absurd (h refl)
numbers_at-some (b ∷ bs) h = refl

-- written numbers are read as they are
pub numbers_at-complete : (bs ms : List ℕ) → AreNumbers ms bs → numbers_at bs ≡ Some ms
numbers_at-complete bs [] are = ap numbers_at are.written
numbers_at-complete bs (n ∷ ns) are =
    let some : 0 < length (decimal n) = decimal_nonempty n (omega (arith, are.small.0)) in
    let more : length (numbers_bytes (n ∷ ns)) ≡ length (decimal n) + length (flat_map (λ m. 59 ∷ decimal m) ns) = length-append (decimal n) _ in
    ap numbers_at are.written ∙ numbers_at-some (numbers_bytes (n ∷ ns)) (λ e. let z : length (numbers_bytes (n ∷ ns)) ≡ 0 = ap length e in omega arith)
    ∙ scan_numbers n ns (omega (arith, are.few)) are.small

-- ---- the loop over the bytes

-- no numbers: a semicolon (59) where one number more isn't taken
pub scan-semicolon : (bs : List ℕ) (i : ℕ) (ns : List ℕ) (now : Option ℕ) → i < length bs → get_or bs i 0 ≡ 59 → with_number ns now ≡ None → scan (drop i bs) ns now ≡ None
scan-semicolon bs i ns now h b full =
    at_drop_more (λ l. scan l ns now) bs i 0 h ∙ ap (λ c. scan (c ∷ drop (i + 1) bs) ns now) b ∙ ap (option_and_then (λ ms. scan (drop (i + 1) bs) ms None)) full

-- no numbers: a byte that isn't taken, and is no semicolon
pub scan-stray : (bs : List ℕ) (i : ℕ) (ns : List ℕ) (now : Option ℕ) → i < length bs → (get_or bs i 0 ≡ 59 → ⊥) → with_byte now (get_or bs i 0) ≡ None → scan (drop i bs) ns now ≡ None
scan-stray bs i ns now h b none =
    let test : eqb (get_or bs i 0) 59 ≡ false = ne_eqb (get_or bs i 0) 59 b in
    let rest : List ℕ = drop (i + 1) bs in
    at_drop_more (λ l. scan l ns now) bs i 0 h
    ∙ ap (λ t. cond t (option_and_then (λ ms. scan rest ms None) (with_number ns now)) (option_and_then (λ n. scan rest ns (Some n)) (with_byte now (get_or bs i 0)))) test
    ∙ ap (option_and_then (λ n. scan rest ns (Some n))) none

-- after the last byte the last number is taken
pub scan-end : (bs ns : List ℕ) (i : ℕ) (now : Option ℕ) → length bs ≤ i → scan (drop i bs) ns now ≡ with_number ns now
scan-end bs ns i now h = at_drop_all (λ l. scan l ns now) bs i h
