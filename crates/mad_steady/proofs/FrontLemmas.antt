-- Fronts of spaces and graphic ASCII characters, taken at once.
use Rattle.std.proofs.Common.{◌≡◌, ℕ, zero, suc, ◌+◌, ◌-◌, ◌<◌, ◌≤◌, ◌&&◌, ◌||◌, ◌==◌, Bool, true, false, cond, List, [], ◌∷◌, ◌++◌, length, take, drop, get_or, refl, sym, ap, subst, ◌∙◌, arith, append_assoc}
use Rattle.std.specs.Prelude.{encode_utf8_all}
use Rattle.std.specs.Str.{chars, IsUtf8, IsCharBoundary, IsAscii}
use Rattle.std.proofs.lemmas.List.{length-take, get_or-take, take-append-drop}
use Rattle.std.proofs.lemmas.Str.{chars-append, chars-IsAscii, encodes-append, encodes-chars, IsUtf8-from_ascii, IsUtf8-drop, IsCharBoundary-from_take}
use Rattle.mad_steady.specs.declared.kinds.Kind.{Kind}
use Rattle.mad_steady.specs.declared.kinds.Kind.TheVariants.{Opening, Narrow}
use Rattle.mad_steady.specs.declared.places.Place.{Place}
use Rattle.mad_steady.specs.declared.places.Place.TheVariants.{Opened, AfterNarrow, AfterWide, HoldsLead, HoldsSyllable, HoldsIndicator}
use Rattle.mad_steady.specs.Kinds.{ascii_kind, is_mark}
use Rattle.mad_steady.specs.Plain.{ArePlain}
use Rattle.mad_steady.specs.Steady.{held, behind, written, next_place, steady_growing, place_behind, stays, may_end, are_steady_from}
use Rattle.mad_steady.proofs.KindFacts.{ascii_is}

-- ---- one of them

-- it stays
stays_by : (p : Place) (b : Bool) → may_end p ≡ true → stays p (cond b Opening Narrow) ≡ true
stays_by Opened true e = refl
stays_by Opened false e = refl
stays_by AfterNarrow true e = refl
stays_by AfterNarrow false e = refl
stays_by AfterWide true e = refl
stays_by AfterWide false e = refl
stays_by (HoldsLead c) true e = refl
stays_by (HoldsLead c) false e = refl
stays_by (HoldsSyllable c) true e = refl
stays_by (HoldsSyllable c) false e = refl
stays_by (HoldsIndicator c) b e = cc

-- whatever is before it, the place behind it is its own
next_by : (p : Place) (b : Bool) (c : ℕ) → next_place p (cond b Opening Narrow) c ≡ behind (cond b Opening Narrow) c
next_by Opened true c = refl
next_by Opened false c = refl
next_by AfterNarrow true c = refl
next_by AfterNarrow false c = refl
next_by AfterWide true c = refl
next_by AfterWide false c = refl
next_by (HoldsLead d) true c = refl
next_by (HoldsLead d) false c = refl
next_by (HoldsSyllable d) true c = refl
next_by (HoldsSyllable d) false c = refl
next_by (HoldsIndicator d) true c = refl
next_by (HoldsIndicator d) false c = refl

-- what is held is written, and then it
written_by : (p : Place) (b : Bool) (c : ℕ) → written p (cond b Opening Narrow) c ≡ held p ++ c ∷ []
written_by Opened true c = refl
written_by Opened false c = refl
written_by AfterNarrow true c = refl
written_by AfterNarrow false c = refl
written_by AfterWide true c = refl
written_by AfterWide false c = refl
written_by (HoldsLead d) true c = refl
written_by (HoldsLead d) false c = refl
written_by (HoldsSyllable d) true c = refl
written_by (HoldsSyllable d) false c = refl
written_by (HoldsIndicator d) true c = refl
written_by (HoldsIndicator d) false c = refl

ends_by : (b : Bool) (c : ℕ) → may_end (behind (cond b Opening Narrow) c) ≡ true
ends_by true c = refl
ends_by false c = refl

held_by : (b : Bool) (c : ℕ) → held (behind (cond b Opening Narrow) c) ≡ []
held_by true c = refl
held_by false c = refl

-- the place behind it
abbrev pub behind_one : ℕ → Place
behind_one c = behind (ascii_kind c) c

growing_one : (x : ℕ) (rest : List ℕ) (p : Place) → 31 < x → x < 127 → steady_growing p (x ∷ rest) ≡ (held p ++ x ∷ []) ++ steady_growing (behind_one x) rest
growing_one x rest p low high =
    ap (λ (k : Kind). written p k x ++ steady_growing (next_place p k x) rest) (sym (ascii_is x (omega (arith, low)) high))
    ∙ ap (λ (l : List ℕ). l ++ steady_growing (next_place p (ascii_kind x) x) rest) (written_by p (is_mark x || (x == 32)) x)
    ∙ ap (λ (q : Place). (held p ++ x ∷ []) ++ steady_growing q rest) (next_by p (is_mark x || (x == 32)) x)

-- ---- several of them

-- the place behind them
abbrev pub behind_all_of : Place → List ℕ → Place
behind_all_of p [] = p
behind_all_of p (x ∷ xs) = behind_all_of (behind_one x) xs

others : (x : ℕ) (xs : List ℕ) → ArePlain (x ∷ xs) (length (x ∷ xs)) → ArePlain xs (length xs)
others x xs h k less = h (suc k) (omega (arith, less))

-- it is that behind the last
behind_is : (xs : List ℕ) (p : Place) (k : ℕ) → k + 1 ≡ length xs → behind_all_of p xs ≡ behind_one (get_or xs k 0)
behind_is [] p k e = absurd (omega (arith, e))
behind_is (x ∷ []) p zero e = refl
behind_is (x ∷ []) p (suc k) e = absurd (omega (arith, e))
behind_is (x ∷ y ∷ xs) p zero e = absurd (omega (arith, e))
behind_is (x ∷ y ∷ xs) p (suc k) e = behind_is (y ∷ xs) (behind_one x) k (omega (arith, e))

steady_front : (xs ys : List ℕ) (p : Place) → ArePlain xs (length xs) → may_end p ≡ true → are_steady_from p (xs ++ ys) ≡ are_steady_from (behind_all_of p xs) ys
steady_front [] ys p h e = refl
steady_front (x ∷ xs) ys p h e =
    let here = h 0 (omega arith) in
    let b : Bool = is_mark x || (x == 32) in
    ap (λ (k : Kind). stays p k && are_steady_from (next_place p k x) (xs ++ ys)) (sym (ascii_is x (omega (arith, here.0)) here.1))
    ∙ ap (λ t. t && are_steady_from (next_place p (ascii_kind x) x) (xs ++ ys)) (stays_by p (is_mark x || (x == 32)) e)
    ∙ ap (λ (q : Place). are_steady_from q (xs ++ ys)) (next_by p (is_mark x || (x == 32)) x)
    ∙ steady_front xs ys (behind_one x) (others x xs h) (ends_by (is_mark x || (x == 32)) x)

behind_front : (xs ys : List ℕ) (p : Place) → ArePlain xs (length xs) → place_behind p (xs ++ ys) ≡ place_behind (behind_all_of p xs) ys
behind_front [] ys p h = refl
behind_front (x ∷ xs) ys p h =
    let here = h 0 (omega arith) in
    ap (λ (k : Kind). place_behind (next_place p k x) (xs ++ ys)) (sym (ascii_is x (omega (arith, here.0)) here.1))
    ∙ ap (λ (q : Place). place_behind q (xs ++ ys)) (next_by p (is_mark x || (x == 32)) x)
    ∙ behind_front xs ys (behind_one x) (others x xs h)

growing_front : (xs ys : List ℕ) (p : Place) → ArePlain xs (length xs) → 0 < length xs → steady_growing p (xs ++ ys) ≡ (held p ++ xs) ++ steady_growing (behind_all_of p xs) ys
growing_front [] ys p h some = absurd (omega (arith, some))
growing_front (x ∷ []) ys p h some = let here = h 0 (omega arith) in growing_one x ys p here.0 here.1
growing_front (x ∷ y ∷ xs) ys p h some =
    let here = h 0 (omega arith) in
    let q : Place = behind_one x in
    let left : List ℕ = steady_growing (behind_all_of (behind_one x) (y ∷ xs)) ys in
    growing_one x ((y ∷ xs) ++ ys) p here.0 here.1
    ∙ ap (λ (l : List ℕ). (held p ++ x ∷ []) ++ l) (growing_front (y ∷ xs) ys (behind_one x) (others x (y ∷ xs) h) (omega arith))
    ∙ ap (λ (l : List ℕ). (held p ++ x ∷ []) ++ ((l ++ (y ∷ xs)) ++ left)) (held_by (is_mark x || (x == 32)) x)
    ∙ sym (append_assoc (held p ++ x ∷ []) (y ∷ xs) left)
    ∙ ap (λ (l : List ℕ). l ++ left) (append_assoc (held p) (x ∷ []) (y ∷ xs))

-- ---- in front of a text

all_ascii : (xs : List ℕ) → ArePlain xs (length xs) → IsAscii xs
all_ascii [] h k = omega arith
all_ascii (x ∷ xs) h zero = let here = h 0 (omega arith) in omega (arith, here.1)
all_ascii (x ∷ xs) h (suc k) = all_ascii xs (others x xs h) k

taken_plain : (bs : List ℕ) (n : ℕ) → n ≤ length bs → ArePlain bs n → ArePlain (take n bs) (length (take n bs))
taken_plain bs n inside h k less =
    let lower : k < n = omega (arith, less, length-take n bs) in
    subst (λ b. (31 < b) × (b < 127)) (sym (get_or-take n bs k 0 lower)) (h k lower)

-- a character begins where they end
pub border : (bs : List ℕ) (n : ℕ) → IsUtf8 bs → n ≤ length bs → ArePlain bs n → IsCharBoundary bs n
border bs n utf8 inside h = IsCharBoundary-from_take bs n utf8 inside (IsUtf8-from_ascii (take n bs) (all_ascii (take n bs) (taken_plain bs n inside h)))

-- what is behind them is a text
pub left_utf8 : (bs : List ℕ) (n : ℕ) → IsUtf8 bs → n ≤ length bs → ArePlain bs n → IsUtf8 (drop n bs)
left_utf8 bs n utf8 inside h = IsUtf8-drop bs n utf8 (border bs n utf8 inside h)

front_chars : (bs : List ℕ) (n : ℕ) → IsUtf8 bs → n ≤ length bs → ArePlain bs n → chars bs ≡ take n bs ++ chars (drop n bs)
front_chars bs n utf8 inside h =
    let ascii : IsAscii (take n bs) = all_ascii (take n bs) (taken_plain bs n inside h) in
    ap chars (sym (take-append-drop n bs)) ∙ chars-append (take n bs) (drop n bs) (IsUtf8-from_ascii (take n bs) ascii) ∙ ap (λ (l : List ℕ). l ++ chars (drop n bs)) (chars-IsAscii (take n bs) ascii)

-- So many plain bytes, one at least, are in front of a text, and the last of them is this.
pub record IsFront (bs : List ℕ) (n last : ℕ) : Type 0 where
  pub utf8 : IsUtf8 bs
  pub inside : n ≤ length bs
  pub plain : ArePlain bs n
  pub some : 0 < n
  pub last_is : last ≡ get_or bs (n - 1) 0

behind_taken : (bs : List ℕ) (n last : ℕ) (p q : Place) → IsFront bs n last → q ≡ behind_one last → behind_all_of p (take n bs) ≡ q
behind_taken bs n last p q f is =
    let lower : n - 1 < n = omega (arith, f.some) in
    behind_is (take n bs) p (n - 1) (omega (arith, f.some, f.inside, length-take n bs))
    ∙ ap behind_one (get_or-take n bs (n - 1) 0 lower ∙ sym f.last_is)
    ∙ sym is

-- where the place may end a text, the text is steady if what is behind them is
pub past : (bs rest : List ℕ) (n last : ℕ) (p q : Place) → IsFront bs n last → may_end p ≡ true → q ≡ behind_one last → rest ≡ drop n bs → are_steady_from q (chars rest) ≡ are_steady_from p (chars bs)
past bs rest n last p q f e is left =
    ap (λ (l : List ℕ). are_steady_from q (chars l)) left
    ∙ ap (λ (r : Place). are_steady_from r (chars (drop n bs))) (sym (behind_taken bs n last p q f is))
    ∙ sym (steady_front (take n bs) (chars (drop n bs)) p (taken_plain bs n f.inside f.plain) e)
    ∙ ap (are_steady_from p) (sym (front_chars bs n f.utf8 f.inside f.plain))

-- the place behind all of the text is that behind what is left of it
pub behind_them : (bs rest : List ℕ) (n last : ℕ) (p q : Place) → IsFront bs n last → q ≡ behind_one last → rest ≡ drop n bs → place_behind q (chars rest) ≡ place_behind p (chars bs)
behind_them bs rest n last p q f is left =
    ap (λ (l : List ℕ). place_behind q (chars l)) left
    ∙ ap (λ (r : Place). place_behind r (chars (drop n bs))) (sym (behind_taken bs n last p q f is))
    ∙ sym (behind_front (take n bs) (chars (drop n bs)) p (taken_plain bs n f.inside f.plain))
    ∙ ap (place_behind p) (sym (front_chars bs n f.utf8 f.inside f.plain))

-- what is held is written, and then they
pub written_front : (old mid new bs front rest : List ℕ) (n last : ℕ) (p q : Place) → IsFront bs n last → q ≡ behind_one last → front ≡ take n bs → rest ≡ drop n bs → mid ≡ old ++ encode_utf8_all (held p) → new ≡ mid ++ front
    → new ++ encode_utf8_all (steady_growing q (chars rest)) ≡ old ++ encode_utf8_all (steady_growing p (chars bs))
written_front old mid new bs front rest n last p q f is taken left held_is pushed =
    let t : List ℕ = take n bs in
    let plain : ArePlain (take n bs) (length (take n bs)) = taken_plain bs n f.inside f.plain in
    let ascii : IsAscii (take n bs) = all_ascii (take n bs) plain in
    let same : encode_utf8_all (take n bs) ≡ take n bs = ap encode_utf8_all (sym (chars-IsAscii (take n bs) ascii)) ∙ encodes-chars (take n bs) (IsUtf8-from_ascii (take n bs) ascii) in
    let others : List ℕ = steady_growing q (chars (drop n bs)) in
    let whole : steady_growing p (chars bs) ≡ (held p ++ take n bs) ++ steady_growing q (chars (drop n bs)) =
    ap (steady_growing p) (front_chars bs n f.utf8 f.inside f.plain)
    ∙ growing_front (take n bs) (chars (drop n bs)) p plain (omega (arith, f.some, f.inside, length-take n bs))
    ∙ ap (λ (r : Place). (held p ++ take n bs) ++ steady_growing r (chars (drop n bs))) (behind_taken bs n last p q f is) in
    let bytes : encode_utf8_all (steady_growing p (chars bs)) ≡ (encode_utf8_all (held p) ++ take n bs) ++ encode_utf8_all (steady_growing q (chars (drop n bs))) =
    ap encode_utf8_all whole ∙ encodes-append (held p ++ take n bs) (steady_growing q (chars (drop n bs)))
    ∙ ap (λ (l : List ℕ). l ++ encode_utf8_all (steady_growing q (chars (drop n bs)))) (encodes-append (held p) (take n bs) ∙ ap (λ (l : List ℕ). encode_utf8_all (held p) ++ l) same) in
    let ends : List ℕ = encode_utf8_all (steady_growing q (chars (drop n bs))) in
    ap (λ (l : List ℕ). new ++ encode_utf8_all (steady_growing q (chars l))) left
    ∙ ap (λ (l : List ℕ). l ++ ends) (pushed ∙ ap (λ (l : List ℕ). mid ++ l) taken ∙ ap (λ (l : List ℕ). l ++ take n bs) held_is)
    ∙ ap (λ (l : List ℕ). l ++ ends) (append_assoc old (encode_utf8_all (held p)) (take n bs))
    ∙ append_assoc old (encode_utf8_all (held p) ++ take n bs) ends
    ∙ ap (λ (l : List ℕ). old ++ l) (sym bytes)
