-- Each column that a table keeps has three columns of the terminal at least.
use Rattle.std.proofs.Common.{◌≡◌, ℕ, zero, suc, ◌+◌, ◌-◌, ◌*◌, ◌/◌, ◌<◌, ◌≤◌, nat_le, max, Bool, true, false, ◌==◌, List, [], ◌∷◌, length, map, drop, replicate, sum, refl, sym, ap, ◌∙◌, subst, arith, if◌then◌else◌}
use Rattle.std.specs.List.{AllByRecursion}
use Rattle.std.proofs.lemmas.Bool.Decides.{nat_tests}
use Rattle.std.proofs.lemmas.List.{length-map}
use Rattle.std.proofs.lemmas.List.Elements.{All-from_recursion}
use Rattle.mad_md.specs.Lines.{LineContent}
use Rattle.mad_widths.specs.ColumnWidths.{Needs, needs_of, natural_widths, narrowed, first_requests, second_requests, after_first, after_second, column_widths}
use Rattle.mad_widths.specs.Turns.{grants}
use Rattle.mad_widths.specs.WordWidths.{least_of, raised, word_widths, AreRaised}
use Rattle.mad_widths.proofs.EachLemmas.{length-each_with}
use Rattle.mad_widths.proofs.ShareLemmas.{AreWide, LeaveThree, grants_fit, length-narrowed, get_or-narrowed, length-naturals, first_leave, second_leave}
use Rattle.mad_widths.proofs.WordLemmas.{least_are, raised_are, word_leave, word_requests}
use Rattle.mad_blocks.specs.Tables.{first_columns, least_room, most_columns, widths_by, without_blanks}
use Rattle.mad_blocks.proofs.TableWidths.{room_left}
use Rattle.mad_blocks.specs.TextParts.{columns_among}
use Rattle.mad_rows.specs.declared.row_skin.RowSkin.{RowSkin}
use Rattle.mad_sections.proofs.Choices.{by_bool}
use Rattle.mad_layout.specs.TableColumns.{cells_among, words_among, kept_widths}

-- ---- widths

-- what is given up leaves three columns
narrowed_wide : (order ws requests : List ℕ) (excess : ℕ) → length order ≡ length ws → LeaveThree requests ws → AreWide (narrowed ws (grants order requests excess))
narrowed_wide order ws requests excess e leave i l =
    let gs : List ℕ = grants order requests excess in
    let within : i < length ws = subst (λ (n : ℕ). i < n) (length-narrowed ws gs) l in
    omega (arith, get_or-narrowed ws gs i, grants_fit order ws requests excess e leave i within)

needs_wide : (cells : List (List ℕ)) → AllByRecursion (λ (n : Needs). 3 ≤ n.natural) (map needs_of cells)
needs_wide [] = tt
needs_wide (c ∷ cells) = (omega arith, needs_wide cells)

naturals_wide : (cells : List (List ℕ)) → AreWide (natural_widths (map needs_of cells))
naturals_wide [] i l = absurd (omega (arith, l))
naturals_wide (c ∷ cells) zero l = omega arith
naturals_wide (c ∷ cells) (suc i) l = naturals_wide cells i (omega (arith, l))

first_wide : (available : ℕ) (cells : List (List ℕ)) → AreWide (after_first available (map needs_of cells))
unfolding after_first
first_wide available cells =
    let ns : List Needs = map needs_of cells in
    let excess : ℕ = sum (natural_widths ns) - available in
    narrowed_wide (natural_widths ns) (natural_widths ns) (first_requests excess ns) excess refl (first_leave excess ns (All-from_recursion (λ (n : Needs). 3 ≤ n.natural) ns (needs_wide cells)))

first_count : (available : ℕ) (ns : List Needs) → length (after_first available ns) ≡ length (natural_widths ns)
unfolding after_first
first_count available ns = length-narrowed (natural_widths ns) _

second_wide : (available : ℕ) (cells : List (List ℕ)) → AreWide (after_second available (map needs_of cells))
unfolding after_second
second_wide available cells =
    let ns : List Needs = map needs_of cells in
    let ws : List ℕ = after_first available ns in
    let excess : ℕ = sum ws - available in
    narrowed_wide (natural_widths ns) ws (second_requests excess ws) excess (sym (first_count available ns)) (second_leave excess ws (first_wide available cells))

second_count : (available : ℕ) (ns : List Needs) → length (after_second available ns) ≡ length (natural_widths ns)
unfolding after_second
second_count available ns = length-narrowed (after_first available ns) _ ∙ first_count available ns

-- widths of columns, as many as these, each of three at least
record AreFine (count : ℕ) (ws : List ℕ) : Type 0 where
  wide : AreWide ws
  long : length ws ≡ count

one_wide : (available : ℕ) → 3 ≤ available → AreWide (available ∷ [])
one_wide available h zero l = h
one_wide available h (suc i) l = absurd (omega (arith, l))

is_one : (n : ℕ) → (n == 1) ≡ true → n ≡ 1
is_one n on = grind (arith, nat_tests, on)

column_fine : (available : ℕ) (cells : List (List ℕ)) → (length cells ≡ 1 → 3 ≤ available) → AreFine (length (natural_widths (map needs_of cells))) (column_widths available (map needs_of cells))
unfolding column_widths
column_fine available cells room =
    let ns : List Needs = map needs_of cells in
    let count : length ns ≡ length cells = length-map cells needs_of in
    let naturals : length (natural_widths ns) ≡ length ns = length-naturals ns in
    by_bool (λ t. AreFine (length (natural_widths ns)) (if t then natural_widths ns else if length ns == 1 then available ∷ [] else after_second available ns)) (nat_le (sum (natural_widths ns)) available)
    (λ fits. record { wide = naturals_wide cells; long = refl })
    (λ more. by_bool (λ t. AreFine (length (natural_widths ns)) (if t then available ∷ [] else after_second available ns)) (length ns == 1)
    (λ one. record { wide = one_wide available (room (omega (arith, count, is_one (length ns) one))); long = omega (arith, naturals, is_one (length ns) one) })
    (λ several. record { wide = second_wide available cells; long = second_count available ns }))

word_wide : (available : ℕ) (cells words : List (List ℕ)) → (length cells ≡ 1 → 3 ≤ available) → AreWide (word_widths available (map needs_of cells) (least_of cells words))
unfolding word_widths
word_wide available cells words room =
    let ns : List Needs = map needs_of cells in
    let naturals : List ℕ = natural_widths ns in
    let least : List ℕ = least_of cells words in
    let base = column_fine available cells room in
    let ws : List ℕ = raised (column_widths available ns) least in
    let raised_so : AreRaised ws least = raised_are naturals (column_widths available ns) least base.long (least_are naturals (natural_widths (map needs_of words)) (naturals_wide cells) (naturals_wide words)) in
    let long : length naturals ≡ length ws = sym (length-each_with max (column_widths available ns) least ∙ base.long) in
    let excess : ℕ = sum ws - available in
    by_bool (λ t. AreWide (if t then narrowed ws (grants naturals (word_requests available ws least) excess) else column_widths available ns)) (nat_le (sum least) available)
    (λ fits. narrowed_wide naturals ws (word_requests available ws least) excess long (λ i l. let leaves = word_leave ws least available i raised_so l in let three = raised_so.three i l in omega (arith, leaves, three)))
    (λ more. base.wide)

-- ---- kept columns

column_count : (n : ℕ) (rows : List (List ℕ)) → length (first_columns n rows) ≡ n
column_count zero rows = refl
column_count (suc n) rows = ap suc (column_count n (map (drop 1) rows))

all_wide : (ws : List ℕ) → AreWide ws → AllByRecursion (λ (w : ℕ). 3 ≤ w) ws
all_wide [] h = tt
all_wide (w ∷ ws) h = (h zero (omega arith), all_wide ws (λ i l. h (suc i) (omega (arith, l))))

by_wide : (whole : Bool) (available : ℕ) (cells words : List (List ℕ)) → (length cells ≡ 1 → 3 ≤ available) → AreWide (widths_by whole available cells words)
by_wide true available cells words room = word_wide available cells words room
by_wide false available cells words room = (column_fine available cells room).wide

all_threes : (k : ℕ) → AllByRecursion (λ (w : ℕ). 3 ≤ w) (replicate k 3)
all_threes zero = tt
all_threes (suc k) = (omega arith, all_threes k)

at_least : (m n : ℕ) → nat_le m n ≡ true → m ≤ n
at_least m n on = grind (arith, nat_tests, on)

-- each column that a table keeps has three columns at least
pub kept_wide : (skin : RowSkin) (width : ℕ) (table : List LineContent) → AllByRecursion (λ (w : ℕ). 3 ≤ w) (kept_widths skin width table)
kept_wide skin width table =
    let n : ℕ = columns_among table in
    let cells : List (List ℕ) = first_columns n (cells_among skin table) in
    let words : List (List ℕ) = first_columns n (words_among skin table) in
    let b : Bool = skin.cell_blanks in
    let room : ℕ = without_blanks b n width in
    by_bool (λ t. AllByRecursion (λ (w : ℕ). 3 ≤ w) (if t then widths_by skin.whole_words (room - 1 - n) cells words else replicate (most_columns b width) 3)) (nat_le (least_room b n) width)
    (λ fits. let left : 4 * n + 1 ≤ room = room_left b n width (at_least (least_room b n) width fits) in
    all_wide (widths_by skin.whole_words (room - 1 - n) cells words) (by_wide skin.whole_words (room - 1 - n) cells words (λ one. let count = column_count n (cells_among skin table) in omega (arith, left, one, count))))
    (λ narrow. all_threes (most_columns b width))
