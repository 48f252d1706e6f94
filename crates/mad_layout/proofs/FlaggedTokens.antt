-- The tokens of compounds are those of their flagged text.
use Rattle.std.proofs.Common.{◌≡◌, ℕ, ◌+◌, ◌<◌, ◌≤◌, ◌⊎◌, inl, inr, Bool, true, false, List, [], ◌∷◌, ◌++◌, map, length, if◌then◌else◌, nat_le, chars, drop, refl, sym, ap, ◌∙◌, subst, arith, append_assoc}
use Rattle.std.specs.Prelude.{not, ◌&&◌, ◌≢◌}
use Rattle.std.specs.List.{AllByRecursion}
use Rattle.std.proofs.lemmas.Bool.Decides.{nat_tests}
use Rattle.std.proofs.lemmas.List.{append-nil, length-append, drop_all, map-append}
use Rattle.std.proofs.lemmas.Str.{chars-nil}
use Rattle.mad_characters.specs.Columns.{char_columns}
use Rattle.mad_md.specs.Flagged.{FlaggedChar, flagged, flags_of, flagged_of, is_blank}
use Rattle.mad_md.specs.declared.compound.Compound.{Compound}
use Rattle.mad_measure.specs.TextColumns.{width_of}
use Rattle.mad_measure.specs.Tokens.{StopsBefore, AreTokensFrom, AreTokensOf, flagged_token}
use Rattle.mad_measure.specs.declared.tokens.Token.{Token}
use Rattle.mad_measure.proofs.AllLemmas.{all_front, all_back}
use Rattle.mad_measure.proofs.FlaggedLemmas.{width_of-append}
use Rattle.mad_measure.proofs.TokenTexts.{text_at, some_flagged}
use Rattle.mad_wrap.specs.Rooms.{token_limit}
use Rattle.mad_wrap.specs.declared.room.Room.{Room}
use Rattle.mad_layout.specs.FlaggedRows.{goes_on, tokens_from, tokens_of}

same_test : (a b c : Bool) → a ≡ c → b ≡ c → (if a then b else not b) ≡ true
same_test true true c ea eb = refl
same_test true false c ea eb = absurd (cc)
same_test false true c ea eb = absurd (cc)
same_test false false c ea eb = refl

other_test : (a b c : Bool) → a ≡ c → b ≢ c → (if a then b else not b) ≡ false
other_test true true c ea eb = absurd (eb ea)
other_test true false c ea eb = refl
other_test false true c ea eb = refl
other_test false false c ea eb = absurd (eb ea)

-- the next character of a token goes on with what is before it
goes : (limit : ℕ) (blank : Bool) (u : List FlaggedChar) (y : FlaggedChar) → AllByRecursion (λ x. is_blank x ≡ blank) u → is_blank y ≡ blank → (0 < length u → width_of u + char_columns y.char ≤ limit) → goes_on limit u y ≡ true
goes limit blank [] y alike same within = refl
goes limit blank (x ∷ xs) y alike same within =
    let both : (if is_blank x then is_blank y else not (is_blank y)) ≡ true = same_test (is_blank x) (is_blank y) blank alike.0 same in
    let fits : nat_le (width_of (x ∷ xs) + char_columns y.char) limit ≡ true = let w = within (omega arith) in grind (arith, nat_tests) in
    ap (λ b. b && nat_le (width_of (x ∷ xs) + char_columns y.char) limit) both ∙ fits

none : (b : Bool) → (b && false) ≡ false
none true = refl
none false = refl

-- a token stops before the next character
stops : (limit : ℕ) (blank : Bool) (u : List FlaggedChar) (y : FlaggedChar) → 0 < length u → AllByRecursion (λ x. is_blank x ≡ blank) u → (is_blank y ≢ blank) ⊎ (limit < width_of u + char_columns y.char) → goes_on limit u y ≡ false
stops limit blank [] y some alike h = absurd (omega (arith, some))
stops limit blank (x ∷ xs) y some alike (inl h) =
    let other : (if is_blank x then is_blank y else not (is_blank y)) ≡ false = other_test (is_blank x) (is_blank y) blank alike.0 h in
    ap (λ b. b && nat_le (width_of (x ∷ xs) + char_columns y.char) limit) other
stops limit blank (x ∷ xs) y some alike (inr h) =
    let past : nat_le (width_of (x ∷ xs) + char_columns y.char) limit ≡ false = grind (arith, nat_tests) in
    ap (λ b. (if is_blank x then is_blank y else not (is_blank y)) && b) past ∙ none (if is_blank x then is_blank y else not (is_blank y))

if_true : {A : Type 0} (b : Bool) (x y : A) → b ≡ true → (if b then x else y) ≡ x
if_true b x y e = ap (λ b. if b then x else y) e

-- where a test fails, the second is taken
pub if_false : {A : Type 0} (b : Bool) (x y : A) → b ≡ false → (if b then x else y) ≡ y
if_false b x y e = ap (λ b. if b then x else y) e

-- a token that has ended
ended : (limit : ℕ) (blank : Bool) (u rest : List FlaggedChar) → 0 < length u → AllByRecursion (λ x. is_blank x ≡ blank) u → StopsBefore limit blank (width_of u) rest
    → tokens_from limit u rest ≡ u ∷ tokens_from limit [] rest
ended limit blank [] rest some alike h = absurd (omega (arith, some))
ended limit blank (x ∷ xs) [] some alike h = refl
ended limit blank (x ∷ xs) (y ∷ ys) some alike h =
    if_false (goes_on limit (x ∷ xs) y) (tokens_from limit ((x ∷ xs) ++ y ∷ []) ys) ((x ∷ xs) ∷ tokens_from limit (y ∷ []) ys) (stops limit blank (x ∷ xs) y some alike h)

opened : (limit : ℕ) (u : List FlaggedChar) (y : FlaggedChar) (ys : List FlaggedChar) → goes_on limit u y ≡ true → tokens_from limit u (y ∷ ys) ≡ tokens_from limit (u ++ y ∷ []) ys
opened limit u y ys on = if_true (goes_on limit u y) (tokens_from limit (u ++ y ∷ []) ys) (u ∷ tokens_from limit (y ∷ []) ys) on

-- what is left of a token goes on with its front
goes_through : (limit : ℕ) (blank : Bool) (u v rest : List FlaggedChar) → 0 < length (u ++ v) → AllByRecursion (λ x. is_blank x ≡ blank) (u ++ v) → (1 < length (u ++ v) → width_of (u ++ v) ≤ limit)
    → StopsBefore limit blank (width_of (u ++ v)) rest → tokens_from limit u (v ++ rest) ≡ (u ++ v) ∷ tokens_from limit [] rest
goes_through limit blank u [] rest some alike within h =
    let same : u ++ [] ≡ u = append-nil u in
    ended limit blank u rest (omega (arith, some, ap length same)) (subst (AllByRecursion (λ x. is_blank x ≡ blank)) same alike) (subst (λ l. StopsBefore limit blank (width_of l) rest) same h)
    ∙ ap (λ l. l ∷ tokens_from limit [] rest) (sym same)
goes_through limit blank u (y ∷ ys) rest some alike within h =
    let is : FlaggedChar → Type 0 = λ x. is_blank x ≡ blank in
    let joins : (u ++ y ∷ []) ++ ys ≡ u ++ y ∷ ys = append_assoc u (y ∷ []) ys in
    let fits : 0 < length u → width_of u + char_columns y.char ≤ limit = λ some. omega (arith, within (omega (arith, length-append u (y ∷ ys), some)), width_of-append u (y ∷ ys)) in
    let on : goes_on limit u y ≡ true = goes limit blank u y (all_front is u (y ∷ ys) alike) (all_back is u (y ∷ ys) alike).0 fits in
    opened limit u y (ys ++ rest) on
    ∙ goes_through limit blank (u ++ y ∷ []) ys rest (subst (λ l. 0 < length l) (sym joins) some) (subst (AllByRecursion is) (sym joins) alike)
    (subst (λ l. 1 < length l → width_of l ≤ limit) (sym joins) within) (subst (λ l. StopsBefore limit blank (width_of l) rest) (sym joins) h)
    ∙ ap (λ l. l ∷ tokens_from limit [] rest) joins

-- the tokens of a compound from a position on
from_start : (limit start : ℕ) (p : Compound) (ts : List Token) → AreTokensFrom limit p start ts → map flagged_token ts ≡ tokens_from limit [] (flagged (flags_of p) (chars (drop start p.src.now)))
from_start limit start p [] h =
    sym (ap (λ n. tokens_from limit [] (flagged (flags_of p) (chars (drop n p.src.now)))) h
    ∙ ap (λ l. tokens_from limit [] (flagged (flags_of p) (chars l))) (drop_all (length p.src.now) p.src.now (omega arith)) ∙ ap (λ l. tokens_from limit [] (flagged (flags_of p) l)) chars-nil)
from_start limit start p (t ∷ ts) (first, more) =
    let rest : List FlaggedChar = flagged (flags_of p) (chars (drop t.end_in_compound p.src.now)) in
    let alike = first.alike in
    ap (λ l. flagged_token t ∷ l) (from_start limit t.end_in_compound p ts more)
    ∙ sym (goes_through limit t.blank [] (flagged_token t) rest (some_flagged t first.within) alike.alike
    (λ several. omega (arith, alike.counts, alike.within several)) (subst (λ w. StopsBefore limit t.blank w rest) alike.counts first.stops))
    ∙ ap (tokens_from limit []) (sym (text_at limit start p t first))

-- the tokens of compounds say what the tokens of their flagged text are
pub tokens_agree : (r : Room) (ps : List Compound) (ts : List Token) → AreTokensOf (token_limit r) ps ts → map flagged_token ts ≡ tokens_of r (map flagged_of ps)
tokens_agree r [] ts h = ap (map flagged_token) h
tokens_agree r (p ∷ ps) ts (own, others, joins, first, more) =
    ap (map flagged_token) joins ∙ map-append flagged_token own others
    ∙ ap (λ l. l ++ map flagged_token others) (from_start (token_limit r) 0 p own first)
    ∙ ap (λ l. tokens_from (token_limit r) [] (flagged_of p) ++ l) (tokens_agree r ps others more)
