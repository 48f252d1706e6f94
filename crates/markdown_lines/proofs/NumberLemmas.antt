-- Numbers of links, run by run.
use Rattle.std.proofs.Common.{◌≡◌, ℕ, zero, suc, ◌+◌, ◌-◌, ◌<◌, Bool, true, false, eqb, List, [], ◌∷◌, ◌++◌, map, length, take, None, refl, sym, ap, ◌∙◌, arith, append_assoc, append-nil, if◌then◌else◌}
use Rattle.std.specs.List.{AllByRecursion}
use Rattle.std.proofs.lemmas.List.{length-append, length-map, map-append}
use Rattle.markdown_marks.specs.Remaining.{Remaining}
use Rattle.markdown_lines.specs.Glyphs.{is_edge, without_front, without_back, trimmed, is_same_run}
use Rattle.markdown_lines.specs.LinkNumbers.{one_number, numbers_from, numbers_of, row_numbers, rows_numbers_from, rows_numbers, cell_numbers, after_links}
use Rattle.markdown_lines.specs.Links.{Defined, LinkSaid, leaf_addresses, links_at}
use Rattle.markdown_lines.specs.TableNumbers.{cells_numbers, line_numbers, lines_numbers}
use Rattle.markdown_cells.specs.Cells.{after_cell, cell_text}
use Rattle.markdown_lines.specs.Tables.{row_addresses}
use Rattle.markdown_lines.specs.declared.glyphs.Glyph.{Glyph}

-- ---- characters

-- numbers before which no link comes
pub after_none : (numbers : List ℕ) → after_links 0 numbers ≡ numbers
after_none [] = refl
after_none (n ∷ ns) = ap (λ m. m ∷ after_links 0 ns) (same n) ∙ ap (λ (l : List ℕ). n ∷ l) (after_none ns)
  where
    same : (n : ℕ) → 0 + n ≡ n
    same n = omega arith

-- where the numbers of some runs are put, those of the runs behind them are to come
pub numbers_more : (before : ℕ) (done now a b : List ℕ) → now ≡ done ++ after_links before a → now ++ after_links before b ≡ done ++ after_links before (a ++ b)
numbers_more before done now a b is =
    ap (λ (l : List ℕ). l ++ after_links before b) is ∙ append_assoc done (after_links before a) (after_links before b)
    ∙ ap (λ (l : List ℕ). done ++ l) (sym (map-append (λ number. before + number) a b))

-- a character that goes on in a run
pub goes_on : (before : ℕ) (done whole : List ℕ) (begun g : Glyph) (gs : List Glyph) → is_same_run begun g ≡ true → done ++ after_links before (numbers_from begun (g ∷ gs)) ≡ whole → done ++ after_links before (numbers_from begun gs) ≡ whole
unfolding numbers_from
goes_on before done whole begun g gs same is = sym (ap (λ t. done ++ after_links before (if t then numbers_from begun gs else one_number begun.link ++ numbers_from g gs)) same) ∙ is

-- a character that begins another
pub begins : (before : ℕ) (done now whole : List ℕ) (begun g : Glyph) (gs : List Glyph) → is_same_run begun g ≡ false → now ≡ done ++ after_links before (one_number begun.link)
    → done ++ after_links before (numbers_from begun (g ∷ gs)) ≡ whole → now ++ after_links before (numbers_from g gs) ≡ whole
unfolding numbers_from
begins before done now whole begun g gs other now_is is =
    numbers_more before done now (one_number begun.link) (numbers_from g gs) now_is
    ∙ sym (ap (λ t. done ++ after_links before (if t then numbers_from begun gs else one_number begun.link ++ numbers_from g gs)) other) ∙ is

-- ---- characters that belong to no link

-- the character belongs to no link
abbrev pub IsUnlinked : Glyph → Type 0
IsUnlinked g = g.link ≡ None

if_none : (t : Bool) (a b : List ℕ) → a ≡ [] → b ≡ [] → (if t then a else b) ≡ []
if_none true a b h k = h
if_none false a b h k = k

both_none : (a b : List ℕ) → a ≡ [] → b ≡ [] → a ++ b ≡ []
both_none a b h k = ap (λ (l : List ℕ). l ++ b) h ∙ k

from_none : (first : Glyph) (gs : List Glyph) → IsUnlinked first → AllByRecursion IsUnlinked gs → numbers_from first gs ≡ []
unfolding numbers_from
from_none first [] h k = ap one_number h
from_none first (g ∷ gs) h k =
    if_none (is_same_run first g) (numbers_from first gs) (one_number first.link ++ numbers_from g gs) (from_none first gs h k.1)
    (both_none (one_number first.link) (numbers_from g gs) (ap one_number h) (from_none g gs k.0 k.1))

-- characters that belong to no link have no number
pub unlinked_none : (gs : List Glyph) → AllByRecursion IsUnlinked gs → numbers_of gs ≡ []
unlinked_none [] h = refl
unlinked_none (g ∷ gs) h = from_none g gs h.0 h.1

-- ---- some of the characters

if_kept : (P : Glyph → Type 0) (t : Bool) (a b : List Glyph) → AllByRecursion P a → AllByRecursion P b → AllByRecursion P (if t then a else b)
if_kept P true a b h k = h
if_kept P false a b h k = k

front_kept : (P : Glyph → Type 0) (gs : List Glyph) → AllByRecursion P gs → AllByRecursion P (without_front gs)
unfolding without_front
front_kept P [] h = tt
front_kept P (g ∷ gs) h = if_kept P (is_edge g) (without_front gs) (g ∷ gs) (front_kept P gs h.1) h

take_kept : (P : Glyph → Type 0) (n : ℕ) (gs : List Glyph) → AllByRecursion P gs → AllByRecursion P (take n gs)
take_kept P zero gs h = tt
take_kept P (suc n) [] h = tt
take_kept P (suc n) (g ∷ gs) h = (h.0, take_kept P n gs h.1)

back_kept : (P : Glyph → Type 0) (gs : List Glyph) → AllByRecursion P gs → AllByRecursion P (without_back gs)
unfolding without_back
back_kept P gs h = take_kept P _ gs h

-- what holds of all characters holds of those that aren't trimmed
pub trimmed_kept : (P : Glyph → Type 0) (gs : List Glyph) → AllByRecursion P gs → AllByRecursion P (trimmed gs)
trimmed_kept P gs h = back_kept P (without_front gs) (front_kept P gs h)

-- and of some before and some behind
pub append_kept : (P : Glyph → Type 0) (xs ys : List Glyph) → AllByRecursion P xs → AllByRecursion P ys → AllByRecursion P (xs ++ ys)
append_kept P [] ys h k = k
append_kept P (x ∷ xs) ys h k = (h.0, append_kept P xs ys h.1 k)

rows_none_from : (row gs : List Glyph) → AllByRecursion IsUnlinked row → AllByRecursion IsUnlinked gs → rows_numbers_from row gs ≡ []
unfolding rows_numbers_from
rows_none_from row [] h k = unlinked_none (trimmed row) (trimmed_kept IsUnlinked row h)
rows_none_from row (g ∷ gs) h k =
    if_none (eqb g.c 10) (row_numbers row ++ rows_numbers_from [] gs) (rows_numbers_from (row ++ g ∷ []) gs)
    (both_none (row_numbers row) (rows_numbers_from [] gs) (unlinked_none (trimmed row) (trimmed_kept IsUnlinked row h)) (rows_none_from [] gs tt k.1))
    (rows_none_from (row ++ g ∷ []) gs (append_kept IsUnlinked row (g ∷ []) h (k.0, tt)) k.1)

-- rows of characters that belong to no link have no number
pub rows_none : (gs : List Glyph) → AllByRecursion IsUnlinked gs → rows_numbers gs ≡ []
rows_none gs h = if_none (eqb (length gs) 0) [] (rows_numbers_from [] gs) refl (rows_none_from [] gs tt h)

-- ---- cells

numbers_suc : (defined : Defined) (bold : Bool) (before more : ℕ) (row : List ℕ)
    → cells_numbers defined bold before (suc more) row ≡ after_links before (cell_numbers defined.labels bold (cell_text row)) ++ cells_numbers defined bold (before + length (leaf_addresses defined (cell_text row))) more (after_cell row)
unfolding cells_numbers
numbers_suc defined bold before more row = refl

-- the numbers of one more cell are put, and those of the cells behind it are to come
pub numbers_next : {S : Type 0} (bytes : S → List ℕ) (defined : Defined) (bold : Bool) (first : ℕ) (addresses addresses_now : List S) (done now : List ℕ) (row next : List ℕ) (more : ℕ) → 0 < more
    → map bytes addresses_now ≡ map bytes addresses ++ leaf_addresses defined (cell_text row) → now ≡ done ++ after_links (length addresses + first) (cell_numbers defined.labels bold (cell_text row)) → next ≡ after_cell row
    → now ++ cells_numbers defined bold (length addresses_now + first) (more - 1) next ≡ done ++ cells_numbers defined bold (length addresses + first) more row
numbers_next bytes defined bold first addresses addresses_now done now row next more some added now_is next_is =
    let e : more ≡ suc (more - 1) = omega arith in
    let here : List ℕ = after_links (length addresses + first) (cell_numbers defined.labels bold (cell_text row)) in
    let many : ℕ = length (leaf_addresses defined (cell_text row)) in
    let long : length addresses_now + first ≡ length addresses + first + many =
    omega (arith, ap length added, length-append (map bytes addresses) (leaf_addresses defined (cell_text row)), length-map addresses bytes, length-map addresses_now bytes) in
    ap (λ (n : ℕ). now ++ cells_numbers defined bold n (more - 1) next) long
    ∙ ap (λ (r : List ℕ). now ++ cells_numbers defined bold (length addresses + first + many) (more - 1) r) next_is
    ∙ ap (λ (ns : List ℕ). ns ++ cells_numbers defined bold (length addresses + first + many) (more - 1) (after_cell row)) now_is
    ∙ append_assoc done here (cells_numbers defined bold (length addresses + first + many) (more - 1) (after_cell row))
    ∙ ap (λ (ns : List ℕ). done ++ ns) (sym (numbers_suc defined bold (length addresses + first) (more - 1) row))
    ∙ ap (λ (n : ℕ). done ++ cells_numbers defined bold (length addresses + first) n row) (sym e)

-- where no cell is to come, all are put
pub numbers_done : (defined : Defined) (bold : Bool) (before : ℕ) (now whole : List ℕ) (row : List ℕ) (more : ℕ) → more ≡ 0 → now ++ cells_numbers defined bold before more row ≡ whole → now ≡ whole
unfolding cells_numbers
numbers_done defined bold before now whole row more none is = sym (append-nil now) ∙ sym (ap (λ (n : ℕ). now ++ cells_numbers defined bold before n row) none) ∙ is

-- ---- rows

-- the links of one more row are as many more
pub links_more : {S : Type 0} (said : S → LinkSaid) (links now : List S) (at : ℕ) (addresses : List (List ℕ)) → map said now ≡ map said links ++ links_at at addresses → length now ≡ length links + length addresses
links_more said links now at addresses is =
    omega (arith, ap length is, length-append (map said links) (links_at at addresses), length-map links said, length-map now said, length-map addresses (Rattle.markdown_lines.specs.Links.link_at at))

-- the numbers of one more row are put, and those of the rows behind it are to come
pub lines_next : (defined : Defined) (before next columns : ℕ) (done now : List ℕ) (line : Remaining) (lines : List Remaining) → next ≡ before + length (row_addresses defined columns line)
    → now ≡ done ++ line_numbers defined false before columns line → now ++ lines_numbers defined next columns lines ≡ done ++ lines_numbers defined before columns (line ∷ lines)
unfolding lines_numbers
lines_next defined before next columns done now line lines next_is now_is =
    ap (λ (n : ℕ). now ++ lines_numbers defined n columns lines) next_is
    ∙ ap (λ (ns : List ℕ). ns ++ lines_numbers defined (before + length (row_addresses defined columns line)) columns lines) now_is
    ∙ append_assoc done (line_numbers defined false before columns line) (lines_numbers defined (before + length (row_addresses defined columns line)) columns lines)

-- where no row is to come, all are put
pub lines_end : (defined : Defined) (before columns : ℕ) (now whole : List ℕ) → now ++ lines_numbers defined before columns [] ≡ whole → now ≡ whole
unfolding lines_numbers
lines_end defined before columns now whole is = sym (append-nil now) ∙ is
