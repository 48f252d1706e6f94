-- What is taken from the front of a line is blanks and signs: by columns, by quotes and by items.
use Rattle.std.proofs.Common.{◌≡◌, ℕ, zero, suc, ◌+◌, ◌-◌, ◌%◌, ◌==◌, Bool, true, false, cond, eqb, not, nat_lt, ◌||◌, ◌&&◌, List, [], ◌∷◌, ◌++◌, drop, length, Option, Some, None, refl, ap, sym, ◌∙◌, subst, append_assoc, arith}
use Rattle.std.specs.Char.{is_ascii_digit}
use Rattle.std.specs.List.{AllByRecursion, prefix_len}
use Rattle.std.specs.Prelude.{slice_index, take}
use Rattle.std.specs.Str.Parse.{digits_value}
use Rattle.std.proofs.lemmas.Bool.{and_parts, eqb-true}
use Rattle.markdown_marks.specs.Bytes.{first, is_blank, is_blank_byte, ends_sign}
use Rattle.markdown_marks.specs.Items.{is_bullet, marker_of, marker_start, may_interrupt, ordered_of}
use Rattle.markdown_marks.specs.Remaining.{Remaining, blank_taken, columns_in_front, one_column, one_taken, skip, take_columns, with_rest}
use Rattle.markdown_marks.specs.declared.items.Marker.{Marker}
use Rattle.markdown_blocks.specs.Containers.{Matched, Opened, Opens, after_quote, container_after, container_start, gap_after, goes_on, item_before, item_goes_on, item_of, item_start, match_more, matched, open_more, opened, quote_goes_on}
use Rattle.markdown_blocks.specs.declared.containers.Container.{Container}
use Rattle.markdown_blocks.specs.declared.containers.Container.TheVariants.{Quote, Item}
use Rattle.markdown_blocks.specs.KeptLines.{IsEndOf, is_markup}

-- what holds in both cases holds of what a condition chooses
pub by_cond : {X : Type 0} (P : X → Type 0) (t : Bool) (x y : X) → (t ≡ true → P x) → (t ≡ false → P y) → P (cond t x y)
by_cond P true x y f g = f refl
by_cond P false x y f g = g refl

-- ---- bytes of markup

or_left : (p q : Bool) → p ≡ true → (p || q) ≡ true
or_left p q h = ap (λ t. t || q) h

or_right : (p q : Bool) → q ≡ true → (p || q) ≡ true
or_right true q h = refl
or_right false q h = h

neither : (p q : Bool) → (p || not q) ≡ false → q ≡ true
neither true q h = let e : true ≡ false = h in absurd (cc)
neither false true h = refl
neither false false h = let e : true ≡ false = h in absurd (cc)

by_either : (p q : Bool) (A : Type 0) → (p || q) ≡ true → (p ≡ true → A) → (q ≡ true → A) → A
by_either true q A h f g = f refl
by_either false q A h f g = g h

either_markup : (b m n : ℕ) → (eqb b m || eqb b n) ≡ true → is_markup m ≡ true → is_markup n ≡ true → is_markup b ≡ true
either_markup b m n h one other =
    by_either (eqb b m) (eqb b n) (is_markup b ≡ true) h (λ k. ap is_markup (eqb-true b m k) ∙ one) (λ k. ap is_markup (eqb-true b n k) ∙ other)

-- a blank is markup
pub blank_markup : (b : ℕ) → is_blank_byte b ≡ true → is_markup b ≡ true
blank_markup b h = either_markup b 32 9 h refl refl

bullet_markup : (b : ℕ) → is_bullet b ≡ true → is_markup b ≡ true
bullet_markup b h =
    by_either (eqb b 42 || eqb b 43) (eqb b 45) (is_markup b ≡ true) h (λ k. either_markup b 42 43 k refl refl) (λ k. ap is_markup (eqb-true b 45 k))

digit_markup : (b : ℕ) → is_ascii_digit b ≡ true → is_markup b ≡ true
digit_markup b h =
    or_left _ _ (or_left _ _ (or_left _ _ (or_left _ _ (or_left _ _ (or_left _ _ (or_right (is_blank_byte b || is_bullet b) (is_ascii_digit b) h))))))

-- ---- ends

abbrev AllMarkup : List ℕ → Type 0
AllMarkup bs = AllByRecursion (λ b. is_markup b ≡ true) bs

all_joined : (xs ys : List ℕ) → AllMarkup xs → AllMarkup ys → AllMarkup (xs ++ ys)
all_joined [] ys h k = k
all_joined (x ∷ xs) ys h k = (h.0, all_joined xs ys h.1 k)

-- a line is an end of itself
pub end_same : (bytes : List ℕ) → IsEndOf bytes bytes
end_same bytes = record { front = []; whole = refl; markup = tt }

-- an end of an end is one
pub end_then : (a b c : List ℕ) → IsEndOf a b → IsEndOf b c → IsEndOf a c
end_then a b c h k = record {
  front = h.front ++ k.front;
  whole = h.whole ∙ ap (λ l. h.front ++ l) k.whole ∙ sym (append_assoc h.front k.front c);
  markup = all_joined h.front k.front h.markup k.markup;
}

end_next : (b : ℕ) (bs : List ℕ) → is_markup b ≡ true → IsEndOf (b ∷ bs) bs
end_next b bs h = record { front = b ∷ []; whole = refl; markup = (h, tt) }

-- without the first byte
pub end_one : (bytes : List ℕ) → is_markup (first bytes) ≡ true → IsEndOf bytes (drop 1 bytes)
end_one [] h = end_same []
end_one (b ∷ bs) h = end_next b bs h

one_more : (n : ℕ) → suc n ≡ 1 + n
one_more n = omega arith

one_behind : (n : ℕ) → suc (n + 1) ≡ (1 + n) + 1
one_behind n = omega arith

-- without the bytes in front that pass a test
pub end_prefix : (p : ℕ → Bool) → ((b : ℕ) → p b ≡ true → is_markup b ≡ true) → (bytes : List ℕ) → IsEndOf bytes (drop (prefix_len p bytes) bytes)
end_prefix p f [] = end_same []
end_prefix p f (b ∷ bs) =
    by_cond (λ n. IsEndOf (b ∷ bs) (drop n (b ∷ bs))) (p b) (1 + prefix_len p bs) 0
    (λ on. subst (λ k. IsEndOf (b ∷ bs) (drop k (b ∷ bs))) (one_more (prefix_len p bs)) (end_then (b ∷ bs) bs (drop (prefix_len p bs) bs) (end_next b bs (f b on)) (end_prefix p f bs))) (λ off. end_same (b ∷ bs))

-- and then without a sign after them
end_signed : (p : ℕ → Bool) → ((b : ℕ) → p b ≡ true → is_markup b ≡ true) → (bytes : List ℕ) → is_markup (slice_index bytes (prefix_len p bytes)) ≡ true → IsEndOf bytes (drop (prefix_len p bytes + 1) bytes)
end_signed p f [] h = end_same []
end_signed p f (b ∷ bs) h =
    let n = prefix_len p bs in
    by_cond (λ k. is_markup (slice_index (b ∷ bs) k) ≡ true → IsEndOf (b ∷ bs) (drop (k + 1) (b ∷ bs))) (p b) (1 + n) 0
    (λ on m. subst (λ k. IsEndOf (b ∷ bs) (drop k (b ∷ bs))) (one_behind n) (end_then (b ∷ bs) bs (drop (n + 1) bs) (end_next b bs (f b on)) (end_signed p f bs (subst (λ k. is_markup (slice_index (b ∷ bs) k) ≡ true) (sym (one_more n)) m))))
    (λ off m. end_next b bs m) h

-- ---- columns

abbrev GivesEnd : List ℕ → Option Remaining → Type 0
GivesEnd bytes None = Unit {0}
GivesEnd bytes (Some next) = IsEndOf bytes next.bytes

blank_taken_end : (column : ℕ) (bytes : List ℕ) → GivesEnd bytes (blank_taken column bytes)
blank_taken_end column [] = tt
blank_taken_end column (b ∷ bs) =
    by_cond (GivesEnd (b ∷ bs)) (eqb b 32) (one_taken column 0 bs) _ (λ h. end_next b bs (ap is_markup (eqb-true b 32 h)))
    (λ h. by_cond (GivesEnd (b ∷ bs)) (eqb b 9) (one_taken column (3 - column % 4) bs) None (λ k. end_next b bs (ap is_markup (eqb-true b 9 k))) (λ k. tt))

one_column_end : (rest : Remaining) → GivesEnd rest.bytes (one_column rest)
unfolding one_column
one_column_end rest =
    by_cond (GivesEnd rest.bytes) (nat_lt 0 rest.pending) (one_taken rest.column (rest.pending - 1) rest.bytes) _ (λ h. end_same rest.bytes) (λ h. blank_taken_end rest.column rest.bytes)

with_end : (rest : Remaining) (o : Option Remaining) (on : Remaining → Remaining) → GivesEnd rest.bytes o → ((next : Remaining) → IsEndOf next.bytes (on next).bytes) → IsEndOf rest.bytes (with_rest o rest on).bytes
with_end rest None on h f = end_same rest.bytes
with_end rest (Some next) on h f = end_then rest.bytes next.bytes (on next).bytes h (f next)

-- without some columns in front an end is left
pub take_end : (n : ℕ) (rest : Remaining) → IsEndOf rest.bytes (take_columns n rest).bytes
unfolding take_columns
take_end zero rest = end_same rest.bytes
take_end (suc n) rest = with_end rest (one_column rest) (take_columns n) (one_column_end rest) (take_end n)

-- ---- containers that go on

quote_end : (rest : Remaining) → first rest.bytes ≡ 62 → IsEndOf rest.bytes (after_quote rest).bytes
unfolding skip
quote_end rest h = end_then rest.bytes (skip 1 rest).bytes (after_quote rest).bytes (end_one rest.bytes (ap is_markup h)) (take_end 1 (skip 1 rest))

quote_goes_on_end : (rest : Remaining) → GivesEnd rest.bytes (quote_goes_on rest)
quote_goes_on_end rest =
    let taken = take_columns 4 rest in
    by_cond (GivesEnd rest.bytes) (eqb (columns_in_front 4 rest) 4 || not (eqb (first taken.bytes) 62)) None (Some (after_quote taken)) (λ h. tt)
    (λ h. end_then rest.bytes taken.bytes (after_quote taken).bytes (take_end 4 rest) (quote_end taken (eqb-true (first taken.bytes) 62 (neither (eqb (columns_in_front 4 rest) 4) (eqb (first taken.bytes) 62) h))))

item_goes_on_end : (content : ℕ) (bare : Bool) (rest : Remaining) → GivesEnd rest.bytes (item_goes_on content bare rest)
item_goes_on_end content bare rest =
    by_cond (GivesEnd rest.bytes) (is_blank rest.bytes) (cond bare None (Some (take_columns content rest))) _
    (λ h. by_cond (GivesEnd rest.bytes) bare None (Some (take_columns content rest)) (λ k. tt) (λ k. take_end content rest))
    (λ h. by_cond (GivesEnd rest.bytes) (eqb (columns_in_front content rest) content) (Some (take_columns content rest)) None (λ k. take_end content rest) (λ k. tt))

goes_on_end : (container : Container) (bare : Bool) (rest : Remaining) → GivesEnd rest.bytes (goes_on container bare rest)
unfolding goes_on
goes_on_end Quote bare rest = quote_goes_on_end rest
goes_on_end (Item sign number content) bare rest = item_goes_on_end content bare rest

match_end : (rest : Remaining) (o : Option Remaining) (others : Remaining → Matched) → GivesEnd rest.bytes o → ((next : Remaining) → IsEndOf next.bytes (others next).rest.bytes)
    → IsEndOf rest.bytes (match_more o rest others).rest.bytes
match_end rest None others h f = end_same rest.bytes
match_end rest (Some next) others h f = end_then rest.bytes next.bytes (others next).rest.bytes h (f next)

-- what containers that go on leave is an end
pub matched_end : (bare : Bool) (containers : List Container) (rest : Remaining) → IsEndOf rest.bytes (matched bare containers rest).rest.bytes
unfolding matched
matched_end bare [] rest = end_same rest.bytes
matched_end bare (container ∷ inner) rest =
    let here = bare && eqb (length inner) 0 in
    match_end rest (goes_on container here rest) (matched bare inner) (goes_on_end container here rest) (matched_end bare inner)

-- ---- containers that begin

abbrev GivesMarker : List ℕ → Option Marker → Type 0
GivesMarker bytes None = Unit {0}
GivesMarker bytes (Some marker) = IsEndOf bytes (drop marker.length bytes)

made_marker : (fits : Bool) (sign number len : ℕ) (bytes : List ℕ) → (fits ≡ true → IsEndOf bytes (drop len bytes)) → GivesMarker bytes (marker_of fits sign number len bytes)
made_marker fits sign number len bytes f =
    by_cond (GivesMarker bytes) (fits && ends_sign (drop len bytes)) (Some (record { sign = sign; number = number; length = len })) None (λ h. f (and_parts fits (ends_sign (drop len bytes)) h).0) (λ h. tt)

ordered_end : (bytes : List ℕ) → GivesMarker bytes (ordered_of (prefix_len is_ascii_digit bytes) (slice_index bytes (prefix_len is_ascii_digit bytes)) bytes)
ordered_end bytes =
    let digits = prefix_len is_ascii_digit bytes in
    let sign = slice_index bytes digits in
    let fits = eqb sign 46 || eqb sign 41 in
    by_cond (GivesMarker bytes) (eqb digits 0 || nat_lt 9 digits) None (marker_of fits sign (digits_value 10 (take digits bytes)) (digits + 1) bytes) (λ h. tt)
    (λ h. made_marker fits sign (digits_value 10 (take digits bytes)) (digits + 1) bytes (λ k. end_signed is_ascii_digit digit_markup bytes (either_markup sign 46 41 k refl refl)))

marker_end : (bytes : List ℕ) → GivesMarker bytes (marker_start bytes)
marker_end bytes =
    let bullet = is_bullet (first bytes) in
    by_cond (GivesMarker bytes) bullet (marker_of bullet (first bytes) 0 1 bytes) _ (λ h. made_marker bullet (first bytes) 0 1 bytes (λ k. end_one bytes (bullet_markup (first bytes) k))) (λ h. ordered_end bytes)

abbrev GivesOpened : List ℕ → Option Opened → Type 0
GivesOpened bytes None = Unit {0}
GivesOpened bytes (Some found) = IsEndOf bytes found.rest.bytes

item_of_end : (in_paragraph : Bool) (indent : ℕ) (rest : Remaining) (o : Option Marker) → GivesMarker rest.bytes o → GivesOpened rest.bytes (item_of in_paragraph indent rest o)
unfolding skip
item_of_end in_paragraph indent rest None h = tt
item_of_end in_paragraph indent rest (Some marker) h =
    let behind = skip marker.length rest in
    by_cond (GivesOpened rest.bytes) (in_paragraph && not (may_interrupt marker rest.bytes)) None (Some (item_before indent marker behind)) (λ k. tt)
    (λ k. end_then rest.bytes behind.bytes (take_columns (gap_after behind) behind).bytes h (take_end (gap_after behind) behind))

item_start_end : (in_paragraph : Bool) (indent : ℕ) (rest : Remaining) → GivesOpened rest.bytes (item_start in_paragraph indent rest)
item_start_end in_paragraph indent rest =
    by_cond (GivesOpened rest.bytes) _ None (item_of in_paragraph indent rest (marker_start rest.bytes)) (λ h. tt) (λ h. item_of_end in_paragraph indent rest (marker_start rest.bytes) (marker_end rest.bytes))

container_after_end : (in_paragraph : Bool) (indent : ℕ) (rest : Remaining) → GivesOpened rest.bytes (container_after in_paragraph indent rest)
container_after_end in_paragraph indent rest =
    by_cond (GivesOpened rest.bytes) (eqb (first rest.bytes) 62) (Some (record { container = Quote; rest = after_quote rest })) (item_start in_paragraph indent rest)
    (λ h. quote_end rest (eqb-true (first rest.bytes) 62 h)) (λ h. item_start_end in_paragraph indent rest)

opened_after : (rest taken : Remaining) (o : Option Opened) → IsEndOf rest.bytes taken.bytes → GivesOpened taken.bytes o → GivesOpened rest.bytes o
opened_after rest taken None h k = tt
opened_after rest taken (Some found) h k = end_then rest.bytes taken.bytes found.rest.bytes h k

container_start_end : (in_paragraph : Bool) (rest : Remaining) → GivesOpened rest.bytes (container_start in_paragraph rest)
unfolding container_start
container_start_end in_paragraph rest =
    let indent = columns_in_front 4 rest in
    let taken = take_columns 4 rest in
    by_cond (GivesOpened rest.bytes) (eqb indent 4) None (container_after in_paragraph indent taken) (λ h. tt)
    (λ h. opened_after rest taken (container_after in_paragraph indent taken) (take_end 4 rest) (container_after_end in_paragraph indent taken))

open_end : (rest : Remaining) (o : Option Opened) (others : Remaining → Opens) → GivesOpened rest.bytes o → ((next : Remaining) → IsEndOf next.bytes (others next).rest.bytes)
    → IsEndOf rest.bytes (open_more o rest others).rest.bytes
open_end rest None others h f = end_same rest.bytes
open_end rest (Some found) others h f = end_then rest.bytes found.rest.bytes (others found.rest).rest.bytes h (f found.rest)

-- what containers that begin leave is an end
pub opened_end : (room : ℕ) (in_paragraph : Bool) (rest : Remaining) → IsEndOf rest.bytes (opened room in_paragraph rest).rest.bytes
unfolding opened
opened_end zero in_paragraph rest = end_same rest.bytes
opened_end (suc room) in_paragraph rest = open_end rest (container_start in_paragraph rest) (opened room false) (container_start_end in_paragraph rest) (opened_end room false)

-- ---- blanks, and runs of a sign

-- without the blanks in front an end is left
pub blanks_end : (bytes : List ℕ) → IsEndOf bytes (drop (prefix_len is_blank_byte bytes) bytes)
blanks_end bytes = end_prefix is_blank_byte blank_markup bytes

-- without a run of a sign in front an end is left
pub run_end : (sign : ℕ) (bytes : List ℕ) → is_markup sign ≡ true → IsEndOf bytes (drop (prefix_len (λ b. eqb b sign) bytes) bytes)
run_end sign bytes h = end_prefix (λ b. eqb b sign) (λ b k. ap is_markup (eqb-true b sign k) ∙ h) bytes
