-- Rows without a bar, and lines that are no row of delimiters.
use Rattle.std.proofs.Common.{◌≡◌, ℕ, suc, ◌+◌, ◌<◌, Bool, true, false, not, ◌||◌, ◌&&◌, ◌==◌, List, [], ◌∷◌, length, slice_index, None, refl, ap, ◌∙◌, arith, if◌then◌else◌}
use Rattle.std.specs.List.{list_all}
use Rattle.memchr.specs.Find.{IsFirstByte, is_byte}
use Rattle.markdown_marks.specs.Bytes.{is_blank_byte, is_blank}
use Rattle.markdown_marks.specs.Tables.{last_cell, cells_from, is_nowhere, columns_from}
use Rattle.markdown_marks.specs.declared.tables.Spot.{Spot}
use Rattle.markdown_marks.specs.declared.tables.Spot.TheVariants.{Front, Colon, Hyphens, Back, Nowhere}

-- no byte is a bar
abbrev pub HasNoBar : List ℕ → Type 0
HasNoBar bytes = (k : ℕ) → k < length bytes → (slice_index bytes k == 124) ≡ false

is_false : (b : Bool) → (b ≡ true → ⊥) → b ≡ false
is_false true h = absurd (h refl)
is_false false h = refl

-- a search that finds no bar says that there is none
pub none_found : (bytes : List ℕ) → IsFirstByte (is_byte 124) bytes None → HasNoBar bytes
none_found bytes h k within = is_false (slice_index bytes k == 124) (h k (omega arith) within)

-- something so far, or in this byte, or in the others
filled_or : (some a b : Bool) → ((some || not a) || not b) ≡ (some || not (a && b))
filled_or true a b = refl
filled_or false true b = refl
filled_or false false b = refl

cells_cons : (escaped some : Bool) (count b : ℕ) (bs : List ℕ) → (b == 124) ≡ false → cells_from escaped some count (b ∷ bs) ≡ cells_from (b == 92) (some || not (is_blank_byte b)) count bs
unfolding cells_from
cells_cons escaped some count b bs e = ap (λ (t : Bool). if t && not escaped then cells_from false false (count + 1) bs else cells_from (b == 92) (some || not (is_blank_byte b)) count bs) e

cells_nil : (escaped some : Bool) (count : ℕ) → cells_from escaped some count [] ≡ last_cell some count
unfolding cells_from
cells_nil escaped some count = refl

or_blank : (some : Bool) → some ≡ (some || not true)
or_blank true = refl
or_blank false = refl

unbarred : (escaped some : Bool) (count : ℕ) (bytes : List ℕ) → HasNoBar bytes → cells_from escaped some count bytes ≡ last_cell (some || not (list_all is_blank_byte bytes)) count
unbarred escaped some count [] h = cells_nil escaped some count ∙ ap (λ (s : Bool). last_cell s count) (or_blank some)
unbarred escaped some count (b ∷ bs) h =
    cells_cons escaped some count b bs (h 0 (omega arith))
    ∙ unbarred (b == 92) (some || not (is_blank_byte b)) count bs (λ k within. h (suc k) (omega arith))
    ∙ ap (λ (s : Bool). last_cell s count) (filled_or some (is_blank_byte b) (list_all is_blank_byte bs))

-- a row without a bar that isn't blank is one cell
pub one_cell : (bytes : List ℕ) → is_blank bytes ≡ false → HasNoBar bytes → cells_from false false 0 bytes ≡ 1
unfolding is_blank
one_cell bytes some h = unbarred false false 0 bytes h ∙ ap (λ (blank : Bool). last_cell (not blank) 0) some

-- nothing leads back into a row of delimiters
stays_nowhere : (count : ℕ) (bytes : List ℕ) → columns_from Nowhere count bytes ≡ 0
unfolding columns_from
stays_nowhere count [] = refl
stays_nowhere count (b ∷ bs) = stays_nowhere count bs

-- where a spot is nowhere, the row has no columns
pub none_delimited : (spot : Spot) (count : ℕ) (bytes : List ℕ) → is_nowhere spot ≡ true → columns_from spot count bytes ≡ 0
none_delimited Nowhere count bytes e = stays_nowhere count bytes
none_delimited Front count bytes e = absurd (cc)
none_delimited Colon count bytes e = absurd (cc)
none_delimited Hyphens count bytes e = absurd (cc)
none_delimited Back count bytes e = absurd (cc)
