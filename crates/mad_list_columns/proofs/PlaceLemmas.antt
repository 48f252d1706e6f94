-- Texts in their places: what they show, and how many columns they take.
use Rattle.std.proofs.Common.{◌≡◌, ⊎_elim, ℕ, zero, suc, min, ◌+◌, ◌-◌, ◌<◌, ◌≤◌, Bool, true, false, ◌&&◌, cond, List, [], ◌∷◌, ◌++◌, length, take, replicate, chars, refl, ap, sym, ◌∙◌, subst, arith, length-append, append-nil, encode_utf8_all, IsUtf8}
use Rattle.std.specs.Prelude.{nat_le, encode_utf8}
use Rattle.std.specs.List.{AllByRecursion, sum_by}
use Rattle.std.proofs.Math.Utf8.{scalar, scalars}
use Rattle.std.proofs.lemmas.Bool.{cases_lt}
use Rattle.std.proofs.lemmas.Bool.Decides.{nat_tests}
use Rattle.std.proofs.lemmas.List.{length-replicate, take_all}
use Rattle.std.proofs.lemmas.List.Sums.{sum_by-cons}
use Rattle.std.proofs.lemmas.Str.{chars-append, chars-encodes, chars-IsAscii, encodes-chars, IsUtf8-append, IsUtf8-encode, IsUtf8-from_ascii, IsUtf8-nil, scalars-chars}
use Rattle.mad_characters.specs.Columns.{char_columns}
use Rattle.mad_md.specs.declared.alignment.Alignment.{Alignment}
use Rattle.mad_md.specs.declared.alignment.Alignment.TheVariants as aligns
use Rattle.mad_screen.specs.Painting.{IsPrinted, IsWhole, IsShown}
use Rattle.mad_screen.proofs.Paints.{shown_both}
use Rattle.mad_measure.specs.Completions.{Completes, left_completion}
use Rattle.mad_measure.specs.TextColumns.{columns}
use Rattle.mad_measure.specs.declared.spacing.Spacing.{Spacing}
use Rattle.mad_draw.proofs.BorderLemmas.{space_column}
use Rattle.mad_draw.proofs.ColumnChars.{printed_char}
use Rattle.mad_draw.proofs.PieceLemmas.{ascii_spaces}
use Rattle.mad_list_columns.specs.Places.{between_spaces, front_within, spaced, spaced_by_chars, spaced_by_columns}
use Rattle.mad_list_columns.specs.Shown.{IsPrintable, StaysInPlace, TakesOneEach}
use Rattle.mad_list_columns.specs.declared.columns.CellMeasure.{CellMeasure}
use Rattle.mad_list_columns.specs.declared.columns.CellMeasure.TheVariants as measures

-- ---- what characters show

abbrev AreOne : List ℕ → Type 0
AreOne cs = AllByRecursion (λ c. char_columns c ≡ 1) cs

all_printed : (cs : List ℕ) → AreOne cs → IsPrinted cs
all_printed [] h = tt
all_printed (c ∷ cs) h = (printed_char c h.0, all_printed cs h.1)

first_whole : (cs : List ℕ) → AreOne cs → IsWhole cs
first_whole [] h = tt
first_whole (c ∷ cs) h = omega (arith, h.0)

ones_shown : (cs : List ℕ) → AreOne cs → IsShown cs
ones_shown cs h = record { printed = all_printed cs h; whole = first_whole cs h }

ones_columns : (cs : List ℕ) → AreOne cs → columns cs ≡ length cs
ones_columns [] h = refl
ones_columns (c ∷ cs) h = omega (arith, h.0, ones_columns cs h.1)

columns-append : (cs ds : List ℕ) → columns (cs ++ ds) ≡ columns cs + columns ds
columns-append [] ds = omega arith
columns-append (c ∷ cs) ds = omega (arith, columns-append cs ds)

-- the columns of characters are the sum of the columns of each
pub columns_sum : (cs : List ℕ) → sum_by char_columns cs ≡ columns cs
columns_sum [] = refl
columns_sum (c ∷ cs) = sum_by-cons char_columns c cs ∙ ap (λ (n : ℕ). char_columns c + n) (columns_sum cs)

some_spaces : (n : ℕ) → AreOne (replicate n 32)
some_spaces zero = tt
some_spaces (suc n) = (space_column.one, some_spaces n)

space_columns : (n : ℕ) → columns (replicate n 32) ≡ n
space_columns n = ones_columns (replicate n 32) (some_spaces n) ∙ length-replicate n 32

-- ---- fronts of characters

both_true : (a b : Bool) → (a && b) ≡ true → (a ≡ true) × (b ≡ true)
both_true true b h = (refl, h)
both_true false b h = absurd (cc)

and_true : (a b : Bool) → a ≡ true → b ≡ true → (a && b) ≡ true
and_true true b p q = q
and_true false b p q = absurd (cc)

encoded : (cs : List ℕ) → scalars cs ≡ true → IsUtf8 (encode_utf8_all cs)
encoded [] h = IsUtf8-nil
encoded (c ∷ cs) h =
    let split : (scalar c ≡ true) × (scalars cs ≡ true) = both_true (scalar c) (scalars cs) h in
    IsUtf8-append (encode_utf8 c) (encode_utf8_all cs) (IsUtf8-encode c split.0) (encoded cs split.1)

first_scalars : (n : ℕ) (cs : List ℕ) → scalars cs ≡ true → scalars (take n cs) ≡ true
first_scalars zero cs h = refl
first_scalars (suc n) [] h = refl
first_scalars (suc n) (c ∷ cs) h =
    let split : (scalar c ≡ true) × (scalars cs ≡ true) = both_true (scalar c) (scalars cs) h in and_true (scalar c) (scalars (take n cs)) split.0 (first_scalars n cs split.1)

-- what holds of all holds of the first ones
pub all_first : {X : Type 0} (P : X → Type 0) (n : ℕ) (xs : List X) → AllByRecursion P xs → AllByRecursion P (take n xs)
all_first P zero xs h = tt
all_first P (suc n) [] h = tt
all_first P (suc n) (x ∷ xs) h = (h.0, all_first P n xs h.1)

-- what a front that some columns have room for is
record IsRoomy (room : ℕ) (cs front : List ℕ) : Type 0 where
  pub fits : columns front ≤ room
  pub scalar : scalars cs ≡ true → scalars front ≡ true
  pub printed : IsPrinted cs → IsPrinted front
  pub whole : IsWhole cs → IsWhole front

roomy : (room : ℕ) (cs : List ℕ) → IsRoomy room cs (front_within room cs)
roomy room [] = record { fits = omega arith; scalar = λ h. refl; printed = λ h. tt; whole = λ h. tt }
roomy room (c ∷ cs) =
    ⊎_elim
    (λ (wide : room < char_columns c).
    let test : nat_le (char_columns c) room ≡ false = grind (arith, nat_tests) in
    subst (λ (b : Bool). IsRoomy room (c ∷ cs) (cond b (c ∷ front_within (room - char_columns c) cs) [])) (sym test)
    (record { fits = omega arith; scalar = λ h. refl; printed = λ h. tt; whole = λ h. tt }))
    (λ (fits : char_columns c ≤ room).
    let test : nat_le (char_columns c) room ≡ true = grind (arith, nat_tests) in
    let rest : IsRoomy (room - char_columns c) cs (front_within (room - char_columns c) cs) = roomy (room - char_columns c) cs in
    subst (λ (b : Bool). IsRoomy room (c ∷ cs) (cond b (c ∷ front_within (room - char_columns c) cs) [])) (sym test)
    (record {
      fits = omega (arith, fits, rest.fits);
      scalar = λ h.
          let split : (scalar c ≡ true) × (scalars cs ≡ true) = both_true (scalar c) (scalars cs) h in
          and_true (scalar c) (scalars (front_within (room - char_columns c) cs)) split.0 (rest.scalar split.1);
      printed = λ h. (h.0, rest.printed h.1);
      whole = λ h. h;
    }))
    (cases_lt room (char_columns c))

-- the front that fits takes no more columns than there are
pub front_fits : (room : ℕ) (cs : List ℕ) → columns (front_within room cs) ≤ room
front_fits room cs = (roomy room cs).fits

-- ---- a text between spaces

-- its characters
spaced_chars : (place : Spacing) (text : List ℕ) (count left : ℕ) → IsUtf8 text → IsUtf8 (replicate left 32 ++ (text ++ replicate (place.width - count - left) 32))
    × (chars (replicate left 32 ++ (text ++ replicate (place.width - count - left) 32)) ≡ replicate left 32 ++ (chars text ++ replicate (place.width - count - left) 32))
spaced_chars place text count left utf8 =
    let right : List ℕ = replicate (place.width - count - left) 32 in
    let before : IsUtf8 (replicate left 32) = IsUtf8-from_ascii (replicate left 32) (ascii_spaces left) in
    let after : IsUtf8 right = IsUtf8-from_ascii right (ascii_spaces (place.width - count - left)) in (
      IsUtf8-append (replicate left 32) (text ++ right) before (IsUtf8-append text right utf8 after),
      chars-append (replicate left 32) (text ++ right) before
          ∙ ap (λ (cs : List ℕ). cs ++ chars (text ++ right)) (chars-IsAscii (replicate left 32) (ascii_spaces left))
          ∙ ap (λ (cs : List ℕ). replicate left 32 ++ cs) (chars-append text right utf8 ∙ ap (λ (cs : List ℕ). chars text ++ cs) (chars-IsAscii right (ascii_spaces (place.width - count - left)))),
    )

left-le : (align : Alignment) (rest : ℕ) → left_completion align rest ≤ rest
left-le aligns.Unspecified rest = omega arith
left-le aligns.Left rest = omega arith
left-le aligns.Center rest = omega arith
left-le aligns.Right rest = omega arith

-- its columns, where the text takes as many as it counts
filled : (place : Spacing) (text : List ℕ) → IsUtf8 text → columns (chars text) ≤ place.width → columns (chars (between_spaces place text (columns (chars text)))) ≡ place.width
filled place text utf8 within =
    let count : ℕ = columns (chars text) in
    let left : ℕ = left_completion place.align (place.width - count) in
    let right : ℕ = place.width - count - left in
    let less : left ≤ place.width - count = left-le place.align (place.width - count) in
    let both : columns (replicate left 32 ++ (chars text ++ replicate right 32)) ≡ columns (replicate left 32) + columns (chars text ++ replicate right 32) = columns-append (replicate left 32) (chars text ++ replicate right 32) in
    let rest : columns (chars text ++ replicate right 32) ≡ count + columns (replicate right 32) = columns-append (chars text) (replicate right 32) in
    ap columns (spaced_chars place text count left utf8).1 ∙ omega (arith, both, rest, space_columns left, space_columns right, less, within)

-- ---- texts in their places

-- the text is shown, in no more columns than these
pub record ShowsWithin (n : ℕ) (text : List ℕ) : Type 0 where
  pub utf8 : IsUtf8 text
  pub shown : IsShown (chars text)
  pub most : columns (chars text) ≤ n

between_shown : (place : Spacing) (text : List ℕ) → IsUtf8 text → IsShown (chars text) → columns (chars text) ≤ place.width → ShowsWithin place.width (between_spaces place text (columns (chars text)))
between_shown place text utf8 shown within =
    let count : ℕ = columns (chars text) in
    let left : ℕ = left_completion place.align (place.width - count) in
    let right : ℕ = place.width - count - left in
    let are = spaced_chars place text count left utf8 in
    record {
      utf8 = are.0;
      shown =
          subst IsShown (sym are.1)
          (shown_both (replicate left 32) (chars text ++ replicate right 32) (ones_shown (replicate left 32) (some_spaces left))
          (shown_both (chars text) (replicate right 32) shown (ones_shown (replicate right 32) (some_spaces right))));
      most = omega (arith, filled place text utf8 within);
    }

by_columns : (place : Spacing) (text : List ℕ) → IsPrintable text → ShowsWithin place.width (spaced_by_columns place text)
by_columns place text h =
    let front : List ℕ = front_within place.width (chars text) in
    let is : IsRoomy place.width (chars text) front = roomy place.width (chars text) in
    let scalar : scalars front ≡ true = is.scalar (scalars-chars text h.utf8) in
    let are : chars (encode_utf8_all front) ≡ front = chars-encodes front scalar in
    subst (λ (n : ℕ). ShowsWithin place.width (between_spaces place (encode_utf8_all front) n)) (ap columns are)
    (between_shown place (encode_utf8_all front) (encoded front scalar)
    (subst IsShown (sym are) (record { printed = is.printed h.shown.printed; whole = is.whole h.shown.whole }))
    (omega (arith, ap columns are, is.fits)))

first_ones : (n : ℕ) (text : List ℕ) → TakesOneEach text → ShowsWithin n (encode_utf8_all (take n (chars text)))
first_ones n text h =
    let front : List ℕ = take n (chars text) in
    let scalar : scalars front ≡ true = first_scalars n (chars text) (scalars-chars text h.utf8) in
    let are : chars (encode_utf8_all front) ≡ front = chars-encodes front scalar in
    let one : AreOne front = all_first (λ c. char_columns c ≡ 1) n (chars text) h.one in
    record {
      utf8 = encoded front scalar;
      shown = subst IsShown (sym are) (ones_shown front one);
      most = omega (arith, ap columns are, ones_columns front one, length_first n (chars text));
    }
  where
    length_first : (n : ℕ) (cs : List ℕ) → length (take n cs) ≤ n
    length_first zero cs = omega arith
    length_first (suc n) [] = omega arith
    length_first (suc n) (c ∷ cs) = omega (arith, length_first n cs)

by_chars : (place : Spacing) (text : List ℕ) → TakesOneEach text → ShowsWithin place.width (spaced_by_chars place text)
by_chars place text h =
    let n : ℕ = length (chars text) in
    let rest : ℕ = place.width - n in
    let left : ℕ = left_completion place.align rest in
    let first : List ℕ = encode_utf8_all (take place.width (chars text)) in
    let filled : List ℕ = replicate left 32 ++ (text ++ replicate (rest - left) 32) in
    let ones : columns (chars text) ≡ n = ones_columns (chars text) h.one in
    ⊎_elim
    (λ (room : n < place.width).
    let test : nat_le place.width n ≡ false = grind (arith, nat_tests) in
    subst (λ (b : Bool). ShowsWithin place.width (cond b first filled)) (sym test)
    (subst (λ (m : ℕ). ShowsWithin place.width (between_spaces place text m)) ones (between_shown place text h.utf8 (ones_shown (chars text) h.one) (omega (arith, ones, room)))))
    (λ (none : place.width ≤ n).
    let test : nat_le place.width n ≡ true = grind (arith, nat_tests) in
    subst (λ (b : Bool). ShowsWithin place.width (cond b first filled)) (sym test) (first_ones place.width text h))
    (cases_lt n place.width)

-- a text that stays in its place shows within the place's columns
pub in_place : (measure : CellMeasure) (place : Spacing) (text : List ℕ) → StaysInPlace measure text → ShowsWithin place.width (spaced measure place text)
in_place measures.Characters place text h = by_chars place text h
in_place measures.Columns place text h = by_columns place text h

-- a text that is counted by its columns fills its place
pub place_filled : (place : Spacing) (text : List ℕ) → IsUtf8 text → columns (chars (spaced_by_columns place text)) ≡ place.width
place_filled place text utf8 =
    let front : List ℕ = front_within place.width (chars text) in
    let is : IsRoomy place.width (chars text) front = roomy place.width (chars text) in
    let scalar : scalars front ≡ true = is.scalar (scalars-chars text utf8) in
    let are : chars (encode_utf8_all front) ≡ front = chars-encodes front scalar in
    ap (λ (n : ℕ). columns (chars (between_spaces place (encode_utf8_all front) n))) (sym (ap columns are))
    ∙ filled place (encode_utf8_all front) (encoded front scalar) (omega (arith, ap columns are, is.fits))

-- ---- what is written

-- where a text leaves no column, there are no spaces
pub nothing_left : (place : Spacing) (text : List ℕ) (count : ℕ) → count ≡ place.width → between_spaces place text count ≡ text
nothing_left place text count all =
    let rest : place.width - count ≡ 0 = omega (arith, all) in
    let none : left_completion place.align (place.width - count) ≡ 0 = omega (arith, rest, left-le place.align (place.width - count)) in
    let right : place.width - count - left_completion place.align (place.width - count) ≡ 0 = omega (arith, rest) in
    ap (λ (n : ℕ). replicate n 32 ++ (text ++ replicate (place.width - count - left_completion place.align (place.width - count)) 32)) none
    ∙ ap (λ (n : ℕ). text ++ replicate n 32) right
    ∙ append-nil text

-- its first characters, between spaces where these are all
pub chars_in_place : (place : Spacing) (text front : List ℕ) (count : ℕ) → IsUtf8 text → front ≡ encode_utf8_all (take place.width (chars text)) → count ≡ min place.width (length (chars text)) → between_spaces place front count ≡ spaced_by_chars place text
chars_in_place place text front count utf8 is counts =
    let n : ℕ = length (chars text) in
    let rest : ℕ = place.width - n in
    let left : ℕ = left_completion place.align rest in
    let first : List ℕ = encode_utf8_all (take place.width (chars text)) in
    let filled : List ℕ = replicate left 32 ++ (text ++ replicate (rest - left) 32) in
    ⊎_elim
    (λ (room : n < place.width).
    let test : nat_le place.width n ≡ false = grind (arith, nat_tests) in
    let all : front ≡ text = is ∙ ap encode_utf8_all (take_all place.width (chars text) (omega (arith, room))) ∙ encodes-chars text utf8 in
    ap (λ (m : ℕ). between_spaces place front m) (let same : count ≡ n = omega (arith, counts, room) in same)
    ∙ ap (λ (t : List ℕ). between_spaces place t n) all
    ∙ sym (ap (λ (b : Bool). cond b first filled) test))
    (λ (none : place.width ≤ n).
    let test : nat_le place.width n ≡ true = grind (arith, nat_tests) in
    nothing_left place front count (omega (arith, counts, none))
    ∙ is
    ∙ sym (ap (λ (b : Bool). cond b first filled) test))
    (cases_lt n place.width)

-- what is made of a text and its completions
pub between_made : (place : Spacing) (text made : List ℕ) (count : ℕ) (sides : ℕ × ℕ) → count ≤ place.width → Completes place.align count place.width sides → made ≡ replicate sides.0 32 ++ (text ++ replicate sides.1 32) → made ≡ between_spaces place text count
between_made place text made count sides within h is =
    let rest : ℕ = place.width - count in
    let left : ℕ = left_completion place.align rest in
    let right : sides.1 ≡ rest - left = omega (arith, h.filled within, h.left, within) in
    is
    ∙ ap (λ (n : ℕ). replicate n 32 ++ (text ++ replicate sides.1 32)) h.left
    ∙ ap (λ (n : ℕ). replicate left 32 ++ (text ++ replicate n 32)) right
