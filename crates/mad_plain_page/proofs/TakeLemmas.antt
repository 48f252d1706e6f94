-- Rows that are taken from many, one row and one line after the other.
use Rattle.std.proofs.Common.{◌≡◌, ℕ, zero, suc, ◌+◌, ◌-◌, ◌<◌, ◌≤◌, Bool, true, if◌then◌else◌, List, [], ◌∷◌, ◌++◌, length, take, drop, map, chars, refl, ap, sym, ◌∙◌, arith, append_assoc}
use Rattle.std.specs.Cow.{cow_str_bytes}
use Rattle.std.proofs.Math.Seq.{drop-nil, take-nil}
use Rattle.std.specs.Prelude.{encode_utf8, encode_utf8_all, nat_le}
use Rattle.std.specs.Str.{IsUtf8}
use Rattle.std.proofs.lemmas.Bool.{le-leb}
use Rattle.std.proofs.lemmas.Str.{encodes-chars, length-encode}
use Rattle.std.proofs.lemmas.List.{append-nil, length-append, length-map, map-append}
use Rattle.mad_characters.specs.Columns.{char_columns}
use Rattle.mad_characters.proofs.CharColumns.{char_columns-le}
use Rattle.mad_style.specs.declared.styled_chars.StyledChar.{StyledChar as PaintedChar}
use Rattle.mad_plain.specs.Rows.{columns_of, ends_from, row_ends, rows_by}
use Rattle.mad_plain.specs.Runs.{StyledChar}
use Rattle.mad_plain.specs.Shown.{shown_of}
use Rattle.mad_plain.specs.declared.shown.PlainLine.{PlainLine}
use Rattle.mad_plain_page.specs.PlainTexts.{painted_line, painted_row, painted_rows}
use Rattle.mad_plain_page.specs.StyledRows.{row_chars}
use Rattle.mad_plain_page.specs.Taking.{taking}
use Rattle.mad_plain_page.specs.declared.painted.StyledRow.{StyledRow}
use Rattle.mad_plain_page.specs.declared.taking.Taken.{Taken}
use Rattle.mad_plain_page.proofs.RowLemmas.{said_shown}

-- ---- lists

take_none : (rows : List (List PaintedChar)) → take 0 rows ≡ []
take_none [] = refl
take_none (row ∷ rows) = refl

drop_none : (rows : List (List PaintedChar)) → drop 0 rows ≡ rows
drop_none [] = refl
drop_none (row ∷ rows) = refl

-- rows that are passed over whole
drop_past : (rows more : List (List PaintedChar)) (k : ℕ) → length rows ≤ k → drop (k - length rows) more ≡ drop k (rows ++ more)
drop_past [] more k h = ap (λ (n : ℕ). drop n more) (omega arith)
drop_past (row ∷ rows) more zero h = absurd (omega (arith, h))
drop_past (row ∷ rows) more (suc k) h = ap (λ (n : ℕ). drop n more) (omega arith) ∙ drop_past rows more k (omega (arith, h))

-- ---- rows

-- where there is no room, it doesn't matter what comes next
pub none_taken : (t : Taken) (a b : List (List PaintedChar)) → t.room ≡ 0 → taking t a ≡ taking t b
none_taken t a b none =
    let nothing : (rows : List (List PaintedChar)) → take t.room (drop t.skip rows) ≡ [] = λ rows. ap (λ (n : ℕ). take n (drop t.skip rows)) none ∙ take_none (drop t.skip rows) in
    ap (λ (l : List (List PaintedChar)). map row_chars t.rows.items ++ l) (nothing a ∙ sym (nothing b))

dropped : (k n : ℕ) (row : List PaintedChar) (more : List (List PaintedChar)) → 0 < k → n ≡ k - 1 → drop n more ≡ drop k (row ∷ more)
dropped zero n row more some is = absurd (omega (arith, some))
dropped (suc k) n row more some is = ap (λ (m : ℕ). drop m more) (omega (arith, is))

-- a row is passed over
pub row_passed : (old new : Taken) (row : List PaintedChar) (more : List (List PaintedChar)) → 0 < old.skip → new ≡ record old { skip = old.skip - 1 } → taking new more ≡ taking old (row ∷ more)
row_passed old new row more some is =
    ap (λ (t : Taken). taking t more) is ∙ ap (λ (l : List (List PaintedChar)). map row_chars old.rows.items ++ take old.room l) (dropped old.skip (old.skip - 1) row more some refl)

took : (skip room : ℕ) (row : List PaintedChar) (more : List (List PaintedChar)) → skip ≡ 0 → 0 < room → take room (drop skip (row ∷ more)) ≡ row ∷ take (room - 1) (drop skip more)
took (suc skip) room row more none some = absurd (omega (arith, none))
took zero zero row more none some = absurd (omega (arith, some))
took zero (suc room) row more none some =
    let less : room ≡ suc room - 1 = omega arith in
    ap (λ (l : List (List PaintedChar)). row ∷ take room l) (sym (drop_none more)) ∙ ap (λ (n : ℕ). row ∷ take n (drop 0 more)) less

-- a row is taken
pub row_put : (old new : Taken) (row : StyledRow) (more : List (List PaintedChar)) → old.skip ≡ 0 → 0 < old.room → new.rows.items ≡ old.rows.items ++ row ∷ [] → new.skip ≡ old.skip → new.room ≡ old.room - 1
    → taking new more ≡ taking old (row_chars row ∷ more)
row_put old new row more none some rows skip room =
    let now : map row_chars new.rows.items ≡ map row_chars old.rows.items ++ row_chars row ∷ [] = ap (map row_chars) rows ∙ map-append row_chars old.rows.items (row ∷ []) in
    let left : take new.room (drop new.skip more) ≡ take (old.room - 1) (drop old.skip more) =
    ap (λ (n : ℕ). take n (drop new.skip more)) room ∙ ap (λ (n : ℕ). take (old.room - 1) (drop n more)) skip in
    ap (λ (l : List (List PaintedChar)). l ++ take new.room (drop new.skip more)) now
    ∙ ap (λ (l : List (List PaintedChar)). (map row_chars old.rows.items ++ row_chars row ∷ []) ++ l) left
    ∙ append_assoc (map row_chars old.rows.items) (row_chars row ∷ []) (take (old.room - 1) (drop old.skip more))
    ∙ ap (λ (l : List (List PaintedChar)). map row_chars old.rows.items ++ l) (sym (took old.skip old.room (row_chars row) more none some))

-- ---- lines

rows_count : (at : ℕ) (es : List ℕ) (line : List StyledChar) → length (rows_by at es line) ≡ length es
rows_count at [] line = refl
rows_count at (e ∷ es) line = let rest = rows_count e es (drop (e - at) line) in omega (arith, rest)

-- the rows of a line, by the ends of those of its text
as_wrapped : (is_styled : Bool) (width : ℕ) (line : PlainLine) (items : List ℕ) (text : List ℕ) → items ≡ row_ends width (chars text) → text ≡ cow_str_bytes line.text
    → map (painted_row is_styled) (rows_by 0 items (shown_of line)) ≡ painted_line is_styled width (shown_of line)
as_wrapped is_styled width line items text are is =
    ap (λ (es : List ℕ). map (painted_row is_styled) (rows_by 0 es (shown_of line))) (are ∙ ap (row_ends width) (ap chars is ∙ sym (said_shown line)))

-- the rows of a line come next, by the ends of those of its text
pub line_cut : (is_styled : Bool) (width : ℕ) (line : PlainLine) (items text : List ℕ) (old new : Taken) (more : List (List PaintedChar)) → items ≡ row_ends width (chars text) → text ≡ cow_str_bytes line.text
    → ((later : List (List PaintedChar)) → taking new later ≡ taking old (map (painted_row is_styled) (rows_by 0 items (shown_of line)) ++ later))
    → taking new more ≡ taking old (painted_line is_styled width (shown_of line) ++ more)
line_cut is_styled width line items text old new more are is h = h more ∙ ap (λ (l : List (List PaintedChar)). taking old (l ++ more)) (as_wrapped is_styled width line items text are is)

-- a line is passed over that has no more rows than are passed over
pub line_passed : (is_styled : Bool) (width : ℕ) (line : PlainLine) (items text : List ℕ) (count : ℕ) (old new : Taken) (more : List (List PaintedChar)) → items ≡ row_ends width (chars text) → text ≡ cow_str_bytes line.text → count ≡ length items
    → count ≤ old.skip → new ≡ record old { skip = old.skip - count } → taking new more ≡ taking old (painted_line is_styled width (shown_of line) ++ more)
line_passed is_styled width line items text count old new more are is counted few passed =
    let rows = map (painted_row is_styled) (rows_by 0 items (shown_of line)) in
    let long : length rows ≡ length items = length-map (rows_by 0 items (shown_of line)) (painted_row is_styled) ∙ rows_count 0 items (shown_of line) in
    let same : count ≡ length rows = counted ∙ sym long in
    ap (λ (t : Taken). taking t more) passed
    ∙ ap (λ (n : ℕ). map row_chars old.rows.items ++ take old.room (drop (old.skip - n) more)) same
    ∙ ap (λ (l : List (List PaintedChar)). map row_chars old.rows.items ++ take old.room l) (drop_past rows more old.skip (omega (arith, few, same)))
    ∙ ap (λ (l : List (List PaintedChar)). taking old (l ++ more)) (as_wrapped is_styled width line items text are is)

-- characters take no more columns than bytes
narrow : (cs : List ℕ) → columns_of cs ≤ length (encode_utf8_all cs)
narrow [] = omega arith
narrow (c ∷ cs) =
    let sum : columns_of (c ∷ cs) ≡ char_columns c + columns_of cs = refl in
    let first = char_columns-le c in
    let bytes = length-encode c in
    let both : length (encode_utf8_all (c ∷ cs)) ≡ length (encode_utf8 c) + length (encode_utf8_all cs) = length-append (encode_utf8 c) (encode_utf8_all cs) in
    let rest = narrow cs in
    omega (arith, sum, first, bytes, both, rest)

ends_one : (width left at : ℕ) (cs : List ℕ) → columns_of cs ≤ left → length (ends_from width left at cs) ≡ 1
ends_one width left at [] h = refl
ends_one width left at (c ∷ cs) h =
    let sum : columns_of (c ∷ cs) ≡ char_columns c + columns_of cs = refl in
    let fits : nat_le (char_columns c) left ≡ true = le-leb (char_columns c) left (omega (arith, h, sum)) in
    ap (λ (b : Bool). length (if b then ends_from width (left - char_columns c) (at + 1) cs else at ∷ ends_from width (width - char_columns c) (at + 1) cs)) fits
    ∙ ends_one width (left - char_columns c) (at + 1) cs (omega (arith, h, sum))

-- characters that fit the width are one row
one_row : (width : ℕ) (cs : List ℕ) → columns_of cs ≤ width → length (row_ends width cs) ≡ 1
one_row width [] h = refl
one_row width (c ∷ cs) h = let sum : columns_of (c ∷ cs) ≡ char_columns c + columns_of cs = refl in ends_one width (width - char_columns c) 1 cs (omega (arith, h, sum))

-- a line of no more bytes than the width is one row, which is passed over
pub one_row_passed : (is_styled : Bool) (width : ℕ) (line : PlainLine) (text : List ℕ) (old new : Taken) (more : List (List PaintedChar)) → IsUtf8 text → text ≡ cow_str_bytes line.text → length text ≤ width → 0 < old.skip
    → new ≡ record old { skip = old.skip - 1 } → taking new more ≡ taking old (painted_line is_styled width (shown_of line) ++ more)
one_row_passed is_styled width line text old new more utf8 is short some passed =
    let bytes : length (encode_utf8_all (chars text)) ≡ length text = ap length (encodes-chars text utf8) in
    let columns = narrow (chars text) in
    let one : length (row_ends width (chars text)) ≡ 1 = one_row width (chars text) (omega (arith, short, bytes, columns)) in
    line_passed is_styled width line (row_ends width (chars text)) text 1 old new more refl is (sym one) (omega (arith, some)) passed

-- a row of a line comes next, and then those behind it
pub row_next : (is_styled : Bool) (first old new : Taken) (at e : ℕ) (items es : List ℕ) (cs rest row : List StyledChar) (drawn : List PaintedChar) (all more : List (List PaintedChar))
    → items ≡ e ∷ es → row ≡ take (e - at) cs → rest ≡ drop (e - at) cs → drawn ≡ painted_row is_styled row
    → ((later : List (List PaintedChar)) → taking new later ≡ taking old (drawn ∷ later))
    → taking old (map (painted_row is_styled) (rows_by at items cs) ++ more) ≡ taking first (all ++ more)
    → taking new (map (painted_row is_styled) (rows_by e es rest) ++ more) ≡ taking first (all ++ more)
row_next is_styled first old new at e items es cs rest row drawn all more i r s d step so =
    step (map (painted_row is_styled) (rows_by e es rest) ++ more)
    ∙ ap (λ (x : List PaintedChar). taking old (x ∷ (map (painted_row is_styled) (rows_by e es rest) ++ more))) (d ∙ ap (painted_row is_styled) r)
    ∙ ap (λ (l : List StyledChar). taking old (painted_row is_styled (take (e - at) cs) ∷ (map (painted_row is_styled) (rows_by e es l) ++ more))) s
    ∙ sym (ap (λ (l : List ℕ). taking old (map (painted_row is_styled) (rows_by at l cs) ++ more)) i)
    ∙ so

-- the rows of a line come next, and then those of the lines behind it
pub line_taken : (is_styled : Bool) (width : ℕ) (old new : Taken) (line : List StyledChar) (lines rest : List (List StyledChar)) (all : List (List PaintedChar))
    → lines ≡ line ∷ rest → ((more : List (List PaintedChar)) → taking new more ≡ taking old (painted_line is_styled width line ++ more))
    → taking old (painted_rows is_styled width lines) ≡ all → taking new (painted_rows is_styled width rest) ≡ all
line_taken is_styled width old new line lines rest all are step so =
    step (painted_rows is_styled width rest) ∙ sym (ap (λ (l : List (List StyledChar)). taking old (painted_rows is_styled width l)) are) ∙ so

-- none comes any more
pub all_taken : (is_styled : Bool) (width : ℕ) (t : Taken) (lines : List (List StyledChar)) (all : List (List PaintedChar)) → lines ≡ [] → taking t (painted_rows is_styled width lines) ≡ all → map row_chars t.rows.items ≡ all
all_taken is_styled width t lines all none so =
    sym (append-nil (map row_chars t.rows.items))
    ∙ ap (λ (l : List (List PaintedChar)). map row_chars t.rows.items ++ l) (sym (ap (take t.room) (drop-nil t.skip) ∙ take-nil t.room))
    ∙ sym (ap (λ (l : List (List StyledChar)). taking t (painted_rows is_styled width l)) none)
    ∙ so
