-- Which gutters are shown, and what they leave.
use Rattle.std.proofs.Common.{◌≡◌, ◌⊎◌, inl, inr, ⊎_elim, ℕ, zero, suc, ◌+◌, ◌-◌, ◌*◌, ◌<◌, ◌≤◌, nat_lt, Bool, true, false, List, [], ◌∷◌, ◌++◌, length, take, drop, get_or, decimal, refl, ap, sym, ◌∙◌, arith, if◌then◌else◌}
use Rattle.std.proofs.Math.Seq.{take-length}
use Rattle.std.proofs.lemmas.List.{length-drop}
use Rattle.std.proofs.lemmas.Bool.Decides.{nat_tests}
use Rattle.mad_sections.specs.Gutters.{gutter_columns, columns_of, shown_at, room_at}
use Rattle.mad_sections.specs.RoomLaws.{RoomsLast, LessThanHalf, AreLast, ShownAreLast, NoneLonger}
use Rattle.mad_sections.specs.declared.gutters.Gutter.{Gutter}
use Rattle.mad_sections.specs.declared.gutters.Gutter.TheVariants.{Bar, AlertBar, Bullet, Number, Task, Code, Signs, Below}
use Rattle.mad_sections.proofs.Choices.{by_bool}

is_less : (m n : ℕ) → m < n → nat_lt m n ≡ true
is_less m n l = grind (arith, nat_tests)

not_less : (m n : ℕ) → n ≤ m → nat_lt m n ≡ false
not_less m n l = grind (arith, nat_tests)

less_by : (m n : ℕ) → nat_lt m n ≡ true → m < n
less_by m n on = grind (arith, nat_tests, on)

not_by : (m n : ℕ) → nat_lt m n ≡ false → n ≤ m
not_by m n off = grind (arith, nat_tests, off)

-- either a number is less than another, or it isn't
by_less : (P : List Gutter → Type 0) (m n : ℕ) (x y : List Gutter) → (m < n → P x) → (n ≤ m → P y) → P (if nat_lt m n then x else y)
by_less P m n x y less not_less = by_bool (λ t. P (if t then x else y)) (nat_lt m n) (λ on. less (less_by m n on)) (λ off. not_less (not_by m n off))

-- ---- columns

-- a gutter has no column, or two at least
two_columns : (ascii : Bool) (g : Gutter) → (gutter_columns ascii g ≡ 0) ⊎ (2 ≤ gutter_columns ascii g)
two_columns ascii Bar = inr (omega arith)
two_columns ascii (AlertBar alert) = inr (omega arith)
two_columns ascii Bullet = inr (omega arith)
two_columns ascii (Number n) = inr (omega arith)
two_columns true (Task done) = inr (omega arith)
two_columns false (Task done) = inr (omega arith)
two_columns ascii Code = inr (omega arith)
two_columns ascii (Signs level) = inr (omega arith)
two_columns ascii (Below level) = inl refl

none_or_two : (ascii : Bool) (gs : List Gutter) → (columns_of ascii gs ≡ 0) ⊎ (2 ≤ columns_of ascii gs)
none_or_two ascii [] = inl refl
none_or_two ascii (g ∷ gs) =
    ⊎_elim (λ none. ⊎_elim (λ others. inl (omega (arith, none, others))) (λ others. inr (omega (arith, others))) (none_or_two ascii gs)) (λ two. inr (omega (arith, two))) (two_columns ascii g)

-- a longer end has as many columns at least
longer_columns : (ascii : Bool) (gs : List Gutter) (n m : ℕ) → n ≤ m → columns_of ascii (drop m gs) ≤ columns_of ascii (drop n gs)
longer_columns ascii [] zero zero h = omega arith
longer_columns ascii [] zero (suc m) h = omega arith
longer_columns ascii [] (suc n) zero h = omega arith
longer_columns ascii [] (suc n) (suc m) h = omega arith
longer_columns ascii (g ∷ gs) zero zero h = omega arith
longer_columns ascii (g ∷ gs) zero (suc m) h = let shorter = longer_columns ascii gs 0 m (omega arith) in omega (arith, shorter)
longer_columns ascii (g ∷ gs) (suc n) zero h = absurd (omega arith)
longer_columns ascii (g ∷ gs) (suc n) (suc m) h = longer_columns ascii gs n m (omega arith)

-- the columns of an end with one gutter more
pub one_more : (ascii : Bool) (gs : List Gutter) (k : ℕ) (g : Gutter) → k < length gs → columns_of ascii (drop k gs) ≡ columns_of ascii (drop (suc k) gs) + gutter_columns ascii (get_or gs k g)
one_more ascii [] k g h = absurd (omega arith)
one_more ascii (x ∷ gs) zero g h = omega arith
one_more ascii (x ∷ gs) (suc k) g h = one_more ascii gs k g (omega arith)

-- ---- the laws

-- the gutters that are shown take less than half of the width
pub less_than_half : LessThanHalf
less_than_half ascii width [] h = omega arith
less_than_half ascii width (g ∷ gs) h =
    by_less (λ l. 2 * columns_of ascii l < width) (2 * columns_of ascii (g ∷ gs)) width (g ∷ gs) (shown_at ascii width gs) (λ yes. yes) (λ no. less_than_half ascii width gs h)

-- from three columns on a room has three
pub rooms_last : RoomsLast
rooms_last ascii width gs h =
    let half : 2 * columns_of ascii (shown_at ascii width gs) < width = less_than_half ascii width gs (omega arith) in
    ⊎_elim (λ none. omega (arith, none)) (λ two. omega (arith, two, half)) (none_or_two ascii (shown_at ascii width gs))

-- no gutter is shown, or their columns are less than the width
within : (ascii : Bool) (width : ℕ) (gs : List Gutter) → columns_of ascii (shown_at ascii width gs) ≤ width
within ascii width [] = omega arith
within ascii width (g ∷ gs) =
    by_less (λ l. columns_of ascii l ≤ width) (2 * columns_of ascii (g ∷ gs)) width (g ∷ gs) (shown_at ascii width gs) (λ yes. omega (arith, yes)) (λ no. within ascii width gs)

hidden_ones : (ascii : Bool) (width : ℕ) (gs : List Gutter) → (hidden : List Gutter) × (gs ≡ hidden ++ shown_at ascii width gs)
hidden_ones ascii width [] = ([], refl)
hidden_ones ascii width (g ∷ gs) =
    by_less (λ l. (hidden : List Gutter) × (g ∷ gs ≡ hidden ++ l)) (2 * columns_of ascii (g ∷ gs)) width (g ∷ gs) (shown_at ascii width gs)
    (λ yes. ([], refl)) (λ no. let more = hidden_ones ascii width gs in (g ∷ more.0, ap (λ l. g ∷ l) more.1))

-- the gutters that are shown are the last ones
pub shown_are_last : ShownAreLast
shown_are_last ascii width gs =
    let ones = hidden_ones ascii width gs in
    let fits = within ascii width gs in
    record { hidden = ones.0; ends = ones.1; whole = omega (arith, fits) }

whole_shown : (ascii : Bool) (width : ℕ) (end : List Gutter) → 2 * columns_of ascii end < width → shown_at ascii width end ≡ end
whole_shown ascii width [] h = refl
whole_shown ascii width (g ∷ gs) h = ap (λ t. if t then g ∷ gs else shown_at ascii width gs) (is_less (2 * columns_of ascii (g ∷ gs)) width h)

append_longer : (xs ys : List Gutter) → length ys ≤ length (xs ++ ys)
append_longer [] ys = omega arith
append_longer (x ∷ xs) ys = let more = append_longer xs ys in omega (arith, more)

-- no longer end takes less than half of the width
pub none_longer : NoneLonger
none_longer ascii width [] end h = omega (arith, ap length (whole_shown ascii width end h))
none_longer ascii width (g ∷ hidden) end h =
    by_less (λ l. length end ≤ length l) (2 * columns_of ascii (g ∷ (hidden ++ end))) width (g ∷ (hidden ++ end)) (shown_at ascii width (hidden ++ end))
    (λ yes. let longer = append_longer hidden end in omega (arith, longer)) (λ no. none_longer ascii width hidden end h)

-- ---- as they are found, from the last one on

-- From this one on gutters are shown, so far: they are none, or take less than half of the width.
pub record AreTaken (ascii : Bool) (width : ℕ) (gs : List Gutter) (first columns : ℕ) : Type 0 where
  pub inside : first ≤ length gs
  pub columns_are : columns ≡ columns_of ascii (drop first gs)
  pub half : (first ≡ length gs) × (columns ≡ 0) ⊎ (2 * columns < width)

-- each longer end takes half of the width or more
pub record NoMore (ascii : Bool) (width : ℕ) (gs : List Gutter) (first : ℕ) : Type 0 where
  pub more : (n : ℕ) → n < first → width ≤ 2 * columns_of ascii (drop n gs)

no_columns : (ascii : Bool) (gs : List Gutter) → columns_of ascii (drop (length gs) gs) ≡ 0
no_columns ascii [] = refl
no_columns ascii (g ∷ gs) = no_columns ascii gs

-- at first no gutter is taken
pub none_taken : (ascii : Bool) (width : ℕ) (gs : List Gutter) → AreTaken ascii width gs (length gs) 0
none_taken ascii width gs = record { inside = omega arith; columns_are = sym (no_columns ascii gs); half = inl (refl, refl) }

taken_at : (ascii : Bool) (width : ℕ) (gs : List Gutter) (k columns wider : ℕ) (g : Gutter) → AreTaken ascii width gs (suc k) columns → wider ≡ columns + gutter_columns ascii (get_or gs k g) → 2 * wider < width → AreTaken ascii width gs k wider
taken_at ascii width gs k columns wider g taken is less =
    let more = one_more ascii gs k g (omega (arith, taken.inside)) in
    record { inside = omega (arith, taken.inside); columns_are = omega (arith, more, is, taken.columns_are); half = inr less }

-- one more gutter is taken, where all then take less than half of the width
pub taken_one : (ascii : Bool) (width : ℕ) (gs : List Gutter) (first columns wider : ℕ) (g : Gutter) → AreTaken ascii width gs first columns → 0 < first → wider ≡ columns + gutter_columns ascii (get_or gs (first - 1) g) → 2 * wider < width → AreTaken ascii width gs (first - 1) wider
taken_one ascii width gs zero columns wider g taken some is less = absurd (omega arith)
taken_one ascii width gs (suc k) columns wider g taken some is less =
    let back : suc k - 1 ≡ k = omega arith in
    rw back (taken_at ascii width gs k columns wider g taken (rw back at is) less)

none_before : (ascii : Bool) (width : ℕ) (gs : List Gutter) (k columns wider : ℕ) (g : Gutter) → AreTaken ascii width gs (suc k) columns → wider ≡ columns + gutter_columns ascii (get_or gs k g) → width ≤ 2 * wider → NoMore ascii width gs (suc k)
none_before ascii width gs k columns wider g taken is half =
    let more = one_more ascii gs k g (omega (arith, taken.inside)) in
    record { more = λ n less. let longer = longer_columns ascii gs n k (omega arith) in omega (arith, longer, more, is, half, taken.columns_are) }

-- where one more would take half of the width, each longer end does
pub no_more : (ascii : Bool) (width : ℕ) (gs : List Gutter) (first columns wider : ℕ) (g : Gutter) → AreTaken ascii width gs first columns → 0 < first → wider ≡ columns + gutter_columns ascii (get_or gs (first - 1) g) → width ≤ 2 * wider → NoMore ascii width gs first
no_more ascii width gs zero columns wider g taken some is half = absurd (omega arith)
no_more ascii width gs (suc k) columns wider g taken some is half =
    let back : suc k - 1 ≡ k = omega arith in
    none_before ascii width gs k columns wider g taken (rw back at is) half

-- where no gutter is left, there is no longer end
pub none_left : (ascii : Bool) (width : ℕ) (gs : List Gutter) (first : ℕ) → first ≤ 0 → NoMore ascii width gs first
none_left ascii width gs first h = record { more = λ n less. absurd (omega arith) }

last_ones : (ascii : Bool) (width : ℕ) (gs : List Gutter) (first : ℕ) → first ≤ length gs → (first ≡ length gs) ⊎ (2 * columns_of ascii (drop first gs) < width)
    → ((n : ℕ) → n < first → width ≤ 2 * columns_of ascii (drop n gs)) → shown_at ascii width gs ≡ drop first gs
last_ones ascii width [] zero inside half more = refl
last_ones ascii width [] (suc n) inside half more = absurd (omega arith)
last_ones ascii width (g ∷ gs) zero inside half more =
    let less : 2 * columns_of ascii (g ∷ gs) < width = ⊎_elim (λ e. absurd (omega (arith, e))) (λ l. l) half in
    ap (λ t. if t then g ∷ gs else shown_at ascii width gs) (is_less (2 * columns_of ascii (g ∷ gs)) width less)
last_ones ascii width (g ∷ gs) (suc n) inside half more =
    let first_half : width ≤ 2 * columns_of ascii (g ∷ gs) = more 0 (omega arith) in
    ap (λ t. if t then g ∷ gs else shown_at ascii width gs) (not_less (2 * columns_of ascii (g ∷ gs)) width first_half)
    ∙ last_ones ascii width gs n (omega arith) (⊎_elim (λ e. inl (omega (arith, e))) (λ l. inr l) half) (λ m less. more (suc m) (omega arith))

-- the gutters that are taken, where no more can be, are shown
pub are_shown : (ascii : Bool) (width : ℕ) (gs : List Gutter) (first columns : ℕ) → AreTaken ascii width gs first columns → NoMore ascii width gs first → shown_at ascii width gs ≡ drop first gs
are_shown ascii width gs first columns taken none =
    last_ones ascii width gs first taken.inside (⊎_elim (λ e. inl e.0) (λ l. inr (omega (arith, l, taken.columns_are))) taken.half) none.more

-- a slice from there on
pub rest_shown : (ascii : Bool) (width : ℕ) (gs : List Gutter) (first columns : ℕ) → AreTaken ascii width gs first columns → NoMore ascii width gs first → take (length gs - first) (drop first gs) ≡ shown_at ascii width gs
rest_shown ascii width gs first columns taken none =
    ap (λ n. take n (drop first gs)) (sym (length-drop first gs)) ∙ take-length (drop first gs) ∙ sym (are_shown ascii width gs first columns taken none)

-- the room is what they leave of the width
pub room_left : (ascii : Bool) (width : ℕ) (gs : List Gutter) (first columns : ℕ) → AreTaken ascii width gs first columns → NoMore ascii width gs first → room_at ascii width gs ≡ width - columns
room_left ascii width gs first columns taken none =
    ap (λ l. width - columns_of ascii l) (are_shown ascii width gs first columns taken none) ∙ ap (λ n. width - n) (sym taken.columns_are)

-- they take no more than the width
pub leaves_some : (ascii : Bool) (width : ℕ) (gs : List Gutter) (first columns : ℕ) → AreTaken ascii width gs first columns → columns ≤ width
leaves_some ascii width gs first columns taken = ⊎_elim (λ e. omega (arith, e.1)) (λ l. omega (arith, l)) taken.half
