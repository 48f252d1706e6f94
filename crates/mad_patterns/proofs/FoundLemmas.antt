-- The texts of rows, joined row by row, and the hits in them.
use Rattle.std.proofs.Common.{◌≡◌, ℕ, zero, suc, ◌+◌, ◌<◌, ◌≤◌, ◌==◌, nat_lt, Bool, true, false, List, [], ◌∷◌, ◌++◌, map, take, drop, length, get_or, Option, Some, None, is_some, refl, ap, sym, ◌∙◌, arith, append_assoc}
use Rattle.std.specs.Prelude.{◌||◌, not, slice_range, if◌then◌else◌}
use Rattle.std.specs.List.{filter, flat_map, list_any}
use Rattle.std.proofs.lemmas.Bool.Decides.{nat_tests}
use Rattle.std.proofs.lemmas.List.{append-nil, drop_all, drop_more, length-append, map-append, take_more}
use Rattle.std.proofs.lemmas.List.Concat.{flat_map-append}
use Rattle.std.proofs.lemmas.List.Elements.{filter-append}
use Rattle.regex.specs.Patterns.{Re, Match, find_all_str, find_str, span}
use Rattle.regex.specs.Strings.{match_span, placed_span}
use Rattle.regex.specs.declared.string.matcher.Match as found
use Rattle.regex_hir.specs.Find.{matches_from}
use Rattle.mad_format.specs.declared.line.FmtLine.{FmtLine}
use Rattle.mad_patterns.specs.Searches.{has_bytes, hits, hits_in_rows, joined, places, row_text, row_texts, IsFoundLine, IsKnown}
use Rattle.mad_patterns.specs.declared.found.FoundLine.{FoundLine}

-- ---- texts that are joined

-- each with a blank before it
abbrev pub broken : List (List ℕ) → List ℕ
broken texts = flat_map (λ (text : List ℕ). 32 ∷ text) texts

-- a break before all but the first
abbrev pub break_at : ℕ → List ℕ
break_at n = if nat_lt 0 n then 32 ∷ [] else []

break_here : (n : ℕ) → nat_lt 0 (suc n) ≡ true
break_here n = let some : 0 < suc n = omega arith in grind (arith, nat_tests, some)

-- there is one behind texts
break_is : (u : List ℕ) (us : List (List ℕ)) → break_at (length (u ∷ us)) ≡ 32 ∷ []
break_is u us = ap (λ (b : Bool). if b then 32 ∷ [] else []) (break_here (length us))

-- a text more
pub joined_more : (ts : List (List ℕ)) (t old mid new : List ℕ) (n : ℕ) → n ≡ length ts → old ≡ joined ts → mid ≡ old ++ break_at n → new ≡ mid ++ t → new ≡ joined (ts ++ t ∷ [])
joined_more [] t old mid new n is so blank put =
    put ∙ (ap (λ (m : List ℕ). m ++ t) (blank ∙ (ap (λ (k : ℕ). old ++ break_at k) is ∙ (append-nil old ∙ so))) ∙ sym (append-nil t))
joined_more (u ∷ us) t old mid new n is so blank put =
    put
    ∙ (ap (λ (m : List ℕ). m ++ t) (blank ∙ (ap (λ (k : ℕ). old ++ break_at k) is ∙ ap (λ (l : List ℕ). old ++ l) (break_is u us)))
    ∙ (append_assoc old (32 ∷ []) t
    ∙ (ap (λ (l : List ℕ). l ++ 32 ∷ t) so
    ∙ (append_assoc u (broken us) (32 ∷ t)
    ∙ ap (λ (l : List ℕ). u ++ l) (ap (λ (l : List ℕ). broken us ++ l) (sym (append-nil (32 ∷ t))) ∙ sym (flat_map-append (λ (text : List ℕ). 32 ∷ text) us (t ∷ [])))))))

-- where it stands
pub start_is : (ts : List (List ℕ)) (old mid : List ℕ) (n start : ℕ) → n ≡ length ts → old ≡ joined ts → mid ≡ old ++ break_at n → start ≡ length mid → start ≡ length (broken ts)
start_is [] old mid n start is so blank at = at ∙ ap length (blank ∙ (ap (λ (k : ℕ). old ++ break_at k) is ∙ (append-nil old ∙ so)))
start_is (u ∷ us) old mid n start is so blank at =
    let long : start ≡ length old + 1 = at ∙ (ap length (blank ∙ (ap (λ (k : ℕ). old ++ break_at k) is ∙ ap (λ (l : List ℕ). old ++ l) (break_is u us))) ∙ length-append old (32 ∷ [])) in
    let front : length old ≡ length (u ++ broken us) = ap length so in
    omega (arith, long, front)

places_last : (at : ℕ) (ts : List (List ℕ)) (t : List ℕ) → places at (ts ++ t ∷ []) ≡ places at ts ++ (at + length (broken ts), at + length (broken ts) + length t) ∷ []
places_last at [] t = let same : at ≡ at + 0 = omega arith in ap (λ (n : ℕ). (n, n + length t) ∷ []) same
places_last at (u ∷ us) t =
    let next : ℕ = at + length u + 1 in
    let both : length (u ++ broken us) ≡ length u + length (broken us) = length-append u (broken us) in
    let same : next + length (broken us) ≡ at + suc (length (u ++ broken us)) = omega (arith, both) in
    ap (λ (l : List (ℕ × ℕ)). (at, at + length u) ∷ l) (places_last next us t ∙ ap (λ (n : ℕ). places next us ++ (n, n + length t) ∷ []) same)

-- the place of a text more
pub place_more : (ts : List (List ℕ)) (t mid text : List ℕ) (old new : List (ℕ × ℕ)) (start end : ℕ) → old ≡ places 0 ts → start ≡ length (broken ts) → start ≡ length mid → text ≡ mid ++ t → end ≡ length text → new ≡ old ++ (start, end) ∷ [] → new ≡ places 0 (ts ++ t ∷ [])
place_more ts t mid text old new start end so at is put to e =
    let both : length text ≡ length mid + length t = ap length put ∙ length-append mid t in
    let first : start ≡ 0 + length (broken ts) = omega (arith, at) in
    let last : end ≡ 0 + length (broken ts) + length t = omega (arith, both, at, is, to) in
    e
    ∙ (ap (λ (l : List (ℕ × ℕ)). l ++ (start, end) ∷ []) so
    ∙ (ap (λ (n : ℕ). places 0 ts ++ (n, end) ∷ []) first ∙ (ap (λ (n : ℕ). places 0 ts ++ (0 + length (broken ts), n) ∷ []) last ∙ sym (places_last 0 ts t))))

-- ---- the rows of a line

pub row_texts_long : (rows : List FmtLine) → length (row_texts rows) ≡ length rows
row_texts_long [] = refl
row_texts_long (row ∷ []) = refl
row_texts_long (row ∷ next ∷ rows) = ap suc (row_texts_long (next ∷ rows))

-- the last of so many, or one more of them
last_first : (n : ℕ) → (zero + 1 == suc (suc n)) ≡ false
last_first n = grind (arith, nat_tests)

last_later : (i n : ℕ) → (suc i + 1 == suc n) ≡ (i + 1 == n)
last_later i n = by (i + 1 == n) refl
  where
    by : (b : Bool) → (i + 1 == n) ≡ b → (suc i + 1 == suc n) ≡ b
    by true e = grind (arith, nat_tests, e)
    by false e = grind (arith, nat_tests, e)

row_texts_at : (rows : List FmtLine) (i : ℕ) (d : FmtLine) (t : List ℕ) → i < length rows → get_or (row_texts rows) i t ≡ row_text (i + 1 == length rows) (get_or rows i d)
row_texts_at [] i d t inside = absurd (omega (arith, inside))
row_texts_at (row ∷ []) zero d t inside = refl
row_texts_at (row ∷ []) (suc i) d t inside = absurd (omega (arith, inside))
row_texts_at (row ∷ next ∷ rows) zero d t inside = ap (λ (b : Bool). row_text b row) (sym (last_first (length rows)))
row_texts_at (row ∷ next ∷ rows) (suc i) d t inside =
    row_texts_at (next ∷ rows) i d t (omega (arith, inside)) ∙ ap (λ (b : Bool). row_text b (get_or (next ∷ rows) i d)) (sym (last_later i (length (next ∷ rows))))

-- a row more
pub row_more : (rows : List FmtLine) (i : ℕ) (d : FmtLine) → i < length rows → take (i + 1) (row_texts rows) ≡ take i (row_texts rows) ++ row_text (i + 1 == length rows) (get_or rows i d) ∷ []
row_more rows i d inside =
    let long : length (row_texts rows) ≡ length rows = row_texts_long rows in
    take_more (row_texts rows) i [] (omega (arith, inside, long)) ∙ ap (λ (t : List ℕ). take i (row_texts rows) ++ t ∷ []) (row_texts_at rows i d [] inside)

-- ---- hits

-- a match more
pub hit_more : (old new : List (ℕ × ℕ)) (done : List found.Match) (m : found.Match) (start end : ℕ) → old ≡ filter has_bytes (map match_span done) → start ≡ (match_span m).0 → end ≡ (match_span m).1
    → new ≡ old ++ (if nat_lt start end then (start, end) ∷ [] else []) → new ≡ filter has_bytes (map match_span (done ++ m ∷ []))
hit_more old new done m start end so a b put =
    let front : List (ℕ × ℕ) = filter has_bytes (map match_span done) in
    put
    ∙ (ap (λ (l : List (ℕ × ℕ)). l ++ (if nat_lt start end then (start, end) ∷ [] else [])) so
    ∙ (ap (λ (n : ℕ). front ++ (if nat_lt n end then (n, end) ∷ [] else [])) a
    ∙ (ap (λ (n : ℕ). front ++ (if nat_lt (match_span m).0 n then ((match_span m).0, n) ∷ [] else [])) b
    ∙ sym (ap (filter has_bytes) (map-append match_span done (m ∷ [])) ∙ filter-append has_bytes (map match_span done) (match_span m ∷ [])))))

unplaced : (text : List ℕ) (xs : List found.Match) (ps : List (ℕ × ℕ)) → map placed_span xs ≡ map (λ (p : ℕ × ℕ). (text, p)) ps → map match_span xs ≡ ps
unplaced text [] [] e = refl
unplaced text [] (p ∷ ps) e = absurd (cc)
unplaced text (x ∷ xs) [] e = absurd (cc)
unplaced text (x ∷ xs) (p ∷ ps) e =
    let first : placed_span x ≡ (text, p) = cc in
    let rest : map placed_span xs ≡ map (λ (p : ℕ × ℕ). (text, p)) ps = cc in
    ap (λ (s : ℕ × ℕ). s ∷ map match_span xs) (ap (λ (s : List ℕ × (ℕ × ℕ)). s.1) first) ∙ ap (λ (l : List (ℕ × ℕ)). p ∷ l) (unplaced text xs ps rest)

-- all matches
pub hits_whole : (sought : Re) (text : List ℕ) (done : List found.Match) (all : List (ℕ × ℕ)) → all ≡ filter has_bytes (map match_span done) → map placed_span done ≡ map (λ (p : ℕ × ℕ). (text, p)) (map span (find_all_str sought text)) → all ≡ hits sought text
hits_whole sought text done all so are = so ∙ ap (filter has_bytes) (unplaced text done (map span (find_all_str sought text)) are)

abbrev placed_at : List ℕ → ℕ × ℕ → List ℕ × (ℕ × ℕ)
placed_at text place = (text, place)

-- all matches of what is sought in a text, by one that searches for the same
pub hits_found : (sought re : Re) (text hay : List ℕ) (done : List found.Match) (all left : List (ℕ × ℕ)) → all ≡ filter has_bytes (map match_span done) → map placed_span done ≡ map (λ (p : ℕ × ℕ). (hay, p)) left
    → hay ≡ text → left ≡ map span (find_all_str re text) → re ≡ sought → all ≡ hits sought text
hits_found sought re text hay done all left so are same those for_it =
    hits_whole sought text done all so
    (are ∙ (ap (λ (t : List ℕ). map (placed_at t) left) same ∙ (ap (map (placed_at text)) those ∙ ap (λ (r : Re). map (placed_at text) (map span (find_all_str r text))) for_it)))

none_from : (f : ℕ → Option Match) (n : ℕ) → matches_from f n None ≡ []
unfolding matches_from
none_from f zero = refl
none_from f (suc n) = refl

-- where nothing matches there is no hit
pub no_hit : (sought : Re) (text : List ℕ) (b : Bool) → b ≡ is_some (find_str sought text 0) → b ≡ false → hits sought text ≡ []
no_hit sought text b is untrue = ap (λ (ms : List Match). filter has_bytes (map span ms)) (first (find_str sought text 0) (sym is ∙ untrue))
  where
    first : (o : Option Match) → is_some o ≡ false → matches_from (find_str sought text) (length text + 1) o ≡ []
    first None e = none_from (find_str sought text) (length text + 1)
    first (Some m) e = absurd (cc)

-- ---- lines

-- what is found in the rows from one on, up to another
pub line_found : (sought : Re) (lines rows : List FmtLine) (start end : ℕ) (text spelt : List ℕ) (ps hs : List (ℕ × ℕ)) → rows ≡ slice_range lines start end → spelt ≡ joined (row_texts rows) → text ≡ spelt → ps ≡ places 0 (row_texts rows) → hs ≡ hits sought text
    → (ps ≡ places 0 (row_texts (slice_range lines start end))) × (hs ≡ hits_in_rows sought (slice_range lines start end))
line_found sought lines rows start end text spelt ps hs is joins same a b = (
  a ∙ ap (λ (rs : List FmtLine). places 0 (row_texts rs)) is,
  b ∙ (ap (hits sought) (same ∙ joins) ∙ ap (hits_in_rows sought) is),
)

-- what is known already
pub known_line : (sought : Re) (lines : List FmtLine) (known : FoundLine) (start end : ℕ) → known.start ≡ start → known.end ≡ end → start < end → IsKnown sought lines known → IsFoundLine sought lines known
known_line sought lines known start end a b some known_is = known_is (omega (arith, a, b, some))

-- ---- cells

-- there is a hit where there isn't none
pub some_hit : (n : ℕ) → not (n == 0) ≡ nat_lt 0 n
some_hit zero = refl
some_hit (suc n) = let some : (suc n == 0) ≡ false = grind (arith, nat_tests) in ap not some ∙ sym (break_here n)

-- one of these passes, where the first does
pub any_here : {X : Type 0} (p : X → Bool) (xs : List X) (i : ℕ) (d : X) → i < length xs → p (get_or xs i d) ≡ true → list_any p (drop i xs) ≡ list_any p xs → true ≡ list_any p xs
any_here {X} p xs i d inside passes so =
    sym (sym so ∙ (ap (list_any p) (drop_more xs i d inside) ∙ ap (λ (b : Bool). b || list_any p (drop (i + 1) xs)) passes))

-- one of the others does, where it doesn't
pub any_later : {X : Type 0} (p : X → Bool) (xs : List X) (i : ℕ) (d : X) → i < length xs → p (get_or xs i d) ≡ false → list_any p (drop i xs) ≡ list_any p xs → list_any p (drop (i + 1) xs) ≡ list_any p xs
any_later {X} p xs i d inside fails so =
    sym (ap (list_any p) (drop_more xs i d inside) ∙ ap (λ (b : Bool). b || list_any p (drop (i + 1) xs)) fails) ∙ so

-- none does, where none is left
pub any_none : {X : Type 0} (p : X → Bool) (xs : List X) (i : ℕ) → length xs ≤ i → list_any p (drop i xs) ≡ list_any p xs → false ≡ list_any p xs
any_none {X} p xs i past so = sym (ap (list_any p) (drop_all i xs past)) ∙ so
