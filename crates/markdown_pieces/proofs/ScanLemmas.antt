-- How far bytes stand for themselves, from what a scan says.
use Rattle.std.proofs.Common.{◌≡◌, ℕ, zero, suc, ◌+◌, ◌-◌, ◌<◌, ◌≤◌, ⊎_elim, Bool, true, false, cond, eqb, not, ◌&&◌, List, [], ◌∷◌, length, drop, get_or, refl, sym, ap, ◌∙◌, arith, Option, Some}
use Rattle.std.specs.List.{prefix_len}
use Rattle.std.proofs.lemmas.Bool.{cases_lt}
use Rattle.std.proofs.lemmas.Bool.Decides.{nat_tests}
use Rattle.std.proofs.lemmas.List.{get_or-drop}
use Rattle.markdown_marks.specs.Bytes.{first, is_blank_byte}
use Rattle.markdown_pieces.specs.Pieces.{is_plain, ends_line, stays, plain_from}
use Rattle.markdown_pieces.specs.Scan.{stands, AreStanding}
use Rattle.markdown_pieces.proofs.PlainLemmas.{blank_stays, other_stays, ends_next}

stands_plain : (b : ℕ) → stands b ≡ true → is_blank_byte b ≡ false → is_plain b ≡ true
stands_plain b h n = grind (arith, nat_tests)

pub plain_no_end : (b : ℕ) → is_plain b ≡ true → eqb b 10 ≡ false
plain_no_end b h = grind (arith, nat_tests)

not_standing : (b : ℕ) → stands b ≡ false → is_blank_byte b ≡ false
not_standing b h = grind (arith, nat_tests)

not_standing_plain : (b : ℕ) → stands b ≡ false → is_plain b ≡ false
not_standing_plain b h = grind (arith, nat_tests)

pub first_is : (b : ℕ) (bs : List ℕ) → is_blank_byte b ≡ false → ends_line (b ∷ bs) ≡ eqb b 10
first_is b bs h = ap (λ n. eqb (first (drop n (b ∷ bs))) 10) (ap (λ t. cond t (1 + prefix_len is_blank_byte bs) 0) h)

no_end_by : (b : ℕ) (bs : List ℕ) → stands b ≡ true → ends_line bs ≡ false → ends_line (b ∷ bs) ≡ false
no_end_by b bs h none = by (is_blank_byte b) refl
  where
    by : (t : Bool) → is_blank_byte b ≡ t → ends_line (b ∷ bs) ≡ false
    by true blank = ends_next b bs blank ∙ none
    by false blank = first_is b bs blank ∙ plain_no_end b (stands_plain b h blank)

-- so many standing bytes, and then one that is no blank and no end of a line
pub no_end : (m : ℕ) (bs : List ℕ) → AreStanding bs 0 m → is_blank_byte (get_or bs m 0) ≡ false → eqb (get_or bs m 0) 10 ≡ false → ends_line bs ≡ false
no_end m [] standing solid other = refl
no_end zero (b ∷ bs) standing solid other = first_is b bs solid ∙ other
no_end (suc m) (b ∷ bs) standing solid other =
    no_end_by b bs (standing 0 (omega arith) (omega arith)) (no_end m bs (λ k low high. standing (suc k) (omega arith) (omega (arith, high))) solid other)

-- so many blanks, and then the end of a line
pub blanks_end : (m : ℕ) (bs : List ℕ) → ((k : ℕ) → k < m → is_blank_byte (get_or bs k 0) ≡ true) → get_or bs m 0 ≡ 10 → ends_line bs ≡ true
blanks_end m [] blanks end = absurd (omega (arith, end))
blanks_end zero (b ∷ bs) blanks end = first_is b bs (ap is_blank_byte end) ∙ ap (λ c. eqb c 10) end
blanks_end (suc m) (b ∷ bs) blanks end = ends_next b bs (blanks 0 (omega arith)) ∙ blanks_end m bs (λ k high. blanks (suc k) (omega (arith, high))) end

pub stay_step : (before : Option ℕ) (b : ℕ) (bs : List ℕ) → stays b (b ∷ bs) ≡ true → plain_from false before (b ∷ bs) ≡ suc (plain_from false (Some b) bs)
unfolding plain_from
stay_step before b bs h = ap (λ t. cond (t && true) (suc (plain_from false (Some b) bs)) 0) h

pub stop_step : (before : Option ℕ) (b : ℕ) (bs : List ℕ) → stays b (b ∷ bs) ≡ false → plain_from false before (b ∷ bs) ≡ 0
unfolding plain_from
stop_step before b bs h = ap (λ t. cond (t && true) (suc (plain_from false (Some b) bs)) 0) h

nothing : (before : Option ℕ) → plain_from false before [] ≡ 0
unfolding plain_from
nothing before = refl

-- each byte up to a place stays, and the byte there doesn't
pub stays_to : (before : Option ℕ) (bs : List ℕ) (e : ℕ) → e ≤ length bs → ((k : ℕ) → k < e → stays (get_or bs k 0) (drop k bs) ≡ true) → (e < length bs → stays (get_or bs e 0) (drop e bs) ≡ false) → plain_from false before bs ≡ e
stays_to before [] e few all stop = nothing before ∙ omega (arith, few)
stays_to before (b ∷ bs) zero few all stop = stop_step before b bs (stop (omega arith))
stays_to before (b ∷ bs) (suc e) few all stop =
    stay_step before b bs (all 0 (omega arith))
    ∙ ap suc (stays_to (Some b) bs e (omega (arith, few)) (λ k high. all (suc k) (omega (arith, high))) (λ more. stop (omega (arith, more))))

-- a standing byte, and behind so many others one that is no blank and no end of a line
stays_here : (b : ℕ) (rest : List ℕ) → stands b ≡ true → ends_line rest ≡ false → stays b rest ≡ true
stays_here b rest h none = by (is_blank_byte b) refl
  where
    by : (t : Bool) → is_blank_byte b ≡ t → stays b rest ≡ true
    by true blank = blank_stays b rest blank ∙ ap not none
    by false blank = other_stays b rest blank ∙ stands_plain b h blank

-- Standing bytes up to a place, of which the last is no blank; or else the byte there is no blank and no end of a line.
pub stays_before : (bs : List ℕ) (e m k : ℕ) → AreStanding bs 0 e → k < e → k ≤ m → m ≤ e → is_blank_byte (get_or bs m 0) ≡ false → eqb (get_or bs m 0) 10 ≡ false → stays (get_or bs k 0) (drop k bs) ≡ true
stays_before bs e m k standing high low most solid other =
    let back : k + (m - k) ≡ m = omega (arith, low) in
    let at : get_or (drop k bs) (m - k) 0 ≡ get_or bs m 0 = get_or-drop k bs (m - k) 0 ∙ ap (λ j. get_or bs j 0) back in
    stays_here (get_or bs k 0) (drop k bs) (standing k (omega arith) high)
    (no_end (m - k) (drop k bs) (λ j from to. ap stands (get_or-drop k bs j 0) ∙ standing (k + j) (omega arith) (omega (arith, to, most, low)))
    (ap is_blank_byte at ∙ solid) (ap (λ c. eqb c 10) at ∙ other))

-- the first byte behind some is the one of that number
pub first_drop : (n : ℕ) (bs : List ℕ) → first (drop n bs) ≡ get_or bs n 0
first_drop zero [] = refl
first_drop zero (b ∷ bs) = refl
first_drop (suc n) [] = refl
first_drop (suc n) (b ∷ bs) = first_drop n bs

-- past the last byte 0 is read
pub beyond : (xs : List ℕ) (i : ℕ) → length xs ≤ i → get_or xs i 0 ≡ 0
beyond [] i h = refl
beyond (x ∷ xs) zero h = absurd (omega (arith, h))
beyond (x ∷ xs) (suc i) h = beyond xs i (omega (arith, h))

-- up to a mark, or all
pub is_to_mark : (before : Option ℕ) (bs : List ℕ) (n : ℕ) → AreStanding bs 0 n → n ≤ length bs → (n < length bs → stands (get_or bs n 0) ≡ false) → eqb (first (drop n bs)) 10 ≡ false → plain_from false before bs ≡ n
is_to_mark before bs n standing few ends other =
    stays_to before bs n few
    (λ k high. stays_before bs n n k standing high (omega (arith, high)) (omega arith) solid (ap (λ c. eqb c 10) (sym (first_drop n bs)) ∙ other))
    (λ more. other_stays (get_or bs n 0) (drop n bs) solid ∙ not_standing_plain (get_or bs n 0) (ends more))
  where
    solid : is_blank_byte (get_or bs n 0) ≡ false
    solid = ⊎_elim (λ (more : n < length bs). not_standing (get_or bs n 0) (ends more)) (λ (over : length bs ≤ n). ap is_blank_byte (beyond bs n over)) (cases_lt n (length bs))

-- up to the blanks before the end of a line
pub is_to_blanks : (before : Option ℕ) (bs : List ℕ) (n e : ℕ) → AreStanding bs 0 n → n ≤ length bs → first (drop n bs) ≡ 10 → e ≤ n → ((k : ℕ) → e ≤ k → k < n → is_blank_byte (get_or bs k 0) ≡ true) → (0 < e → is_blank_byte (get_or bs (e - 1) 0) ≡ false) → plain_from false before bs ≡ e
is_to_blanks before bs n e standing few end within blanks solid =
    stays_to before bs e (omega (arith, within, few)) each
    (λ more. ⊎_elim (λ (inner : e < n). blank_stays (get_or bs e 0) (drop e bs) (blanks e (omega arith) inner) ∙ ap not ending) (λ (over : n ≤ e). ap (λ b. stays b (drop e bs)) (there over)) (cases_lt e n))
  where
    last : get_or bs n 0 ≡ 10
    last = sym (first_drop n bs) ∙ end

    there : n ≤ e → get_or bs e 0 ≡ 10
    there over = ap (λ k. get_or bs k 0) (omega (arith, over, within)) ∙ last

    ending : ends_line (drop e bs) ≡ true
    ending =
        blanks_end (n - e) (drop e bs) (λ k high. ap is_blank_byte (get_or-drop e bs k 0) ∙ blanks (e + k) (omega arith) (omega (arith, high, within)))
        (get_or-drop e bs (n - e) 0 ∙ ap (λ k. get_or bs k 0) (omega (arith, within)) ∙ last)

    each : (k : ℕ) → k < e → stays (get_or bs k 0) (drop k bs) ≡ true
    each k high =
        let standing : AreStanding bs 0 e = λ j low less. standing j low (omega (arith, less, within)) in
        let s : is_blank_byte (get_or bs (e - 1) 0) ≡ false = solid (omega (arith, high)) in
        stays_before bs e (e - 1) k standing high (omega (arith, high)) (omega arith) s
        (plain_no_end (get_or bs (e - 1) 0) (stands_plain (get_or bs (e - 1) 0) (standing (e - 1) (omega arith) (omega (arith, high))) s))
