-- What a table that is a list keeps.
use Rattle.std.proofs.Common.{◌≡◌, ◌≢◌, ◌⊎◌, inl, inr, ⊎_elim, ℕ, zero, suc, ◌+◌, ◌*◌, ◌≤◌, ◌==◌, min, nat_le, Bool, true, false, not, ◌&&◌, List, [], ◌∷◌, ◌++◌, length, map, drop, Option, Some, None, refl, ap, sym, ◌∙◌, subst, arith, append_assoc, if◌then◌else◌}
use Rattle.std.specs.List.{AllByRecursion, AllZip, flat_map}
use Rattle.std.specs.Str.{chars}
use Rattle.std.proofs.lemmas.List.Concat.{flat_map-append}
use Rattle.std.proofs.lemmas.List.Sums.{sum_by-cons, sum_by-append}
use Rattle.std.proofs.lemmas.Bool.Decides.{nat_tests}
use Rattle.mad_characters.specs.Columns.{char_columns}
use Rattle.mad_md.specs.Flagged.{FlaggedChar, Flags, Run, flagged}
use Rattle.mad_md.specs.Lines.{StyledRuns, LineContent}
use Rattle.mad_sections.specs.Gutters.{room, room_at}
use Rattle.mad_sections.specs.Sections.{SectionContent}
use Rattle.mad_sections.specs.declared.gutters.Gutter.{Gutter}
use Rattle.mad_sections.specs.Items.{paragraph, colon, label, cell_lines, row_lines, or_blank, item_lines, text_length, runs_length, are_short, says_heads, items_of}
use Rattle.mad_sections.specs.declared.table_rooms.TableRules.{TableRules}
use Rattle.mad_sections.specs.TableTexts.{runs_text, cell_text, are_table, rows_in, has_room}
use Rattle.mad_sections.specs.Unfolded.{lacks_room, list_sections, as_list, unfolded_in, unfolded}
use Rattle.mad_sections.specs.UnfoldLaws.{lines_text, row_text, IsMadeOfBoth, labels_text, KeepsRow, first_fresh, IsListOf, NothingIsLost, Stay, columns_of, LabelsAreShort, ItemsAreShort}
use Rattle.mad_sections.proofs.Choices.{by_bool}

-- ---- texts made of two

none_made : (xs ys : List FlaggedChar) → xs ≡ [] → ys ≡ [] → IsMadeOfBoth xs ys []
none_made xs ys a b = (a, b)

-- a text in front of the one
first_made : (front xs ys zs : List FlaggedChar) → IsMadeOfBoth xs ys zs → IsMadeOfBoth (front ++ xs) ys (front ++ zs)
first_made [] xs ys zs h = h
first_made (f ∷ front) xs ys zs h = inl (front ++ xs, refl, first_made front xs ys zs h)

-- a text in front of the other
second_made : (front xs ys zs : List FlaggedChar) → IsMadeOfBoth xs ys zs → IsMadeOfBoth xs (front ++ ys) (front ++ zs)
second_made [] xs ys zs h = h
second_made (f ∷ front) xs ys zs h = inr (front ++ ys, refl, second_made front xs ys zs h)

-- ---- the item of a row

runs_join : (xs ys : List Run) → runs_text (xs ++ ys) ≡ runs_text xs ++ runs_text ys
runs_join xs ys = flat_map-append (λ (run : Run). flagged run.flags (chars run.text)) xs ys

no_runs : (runs : List Run) → (length runs == 0) ≡ true → runs ≡ []
no_runs [] h = refl
no_runs (run ∷ runs) h = absurd (grind (arith, nat_tests, h))

some_runs : (runs : List Run) → runs ≢ [] → (length runs == 0) ≡ false
some_runs [] h = absurd (h refl)
some_runs (run ∷ runs) h = grind (arith, nat_tests)

row_made : (heads cells : List StyledRuns) → IsMadeOfBoth (labels_text heads cells) (row_text cells) (lines_text (row_lines heads cells))
row_made heads [] = (refl, refl)
row_made heads (cell ∷ cells) =
    let more = row_made (drop 1 heads) cells in
    by_bool (λ t. IsMadeOfBoth ((if t then [] else runs_text (label heads)) ++ labels_text (drop 1 heads) cells) (cell_text cell ++ row_text cells) (lines_text ((if t then [] else paragraph (label heads ++ cell.runs) ∷ []) ++ row_lines (drop 1 heads) cells))) (length cell.runs == 0)
    (λ none. let empty : cell_text cell ≡ [] = ap runs_text (no_runs cell.runs none) in
    subst (λ (text : List FlaggedChar). IsMadeOfBoth (labels_text (drop 1 heads) cells) (text ++ row_text cells) (lines_text (row_lines (drop 1 heads) cells))) (sym empty) more)
    (λ some.
    let both : runs_text (label heads) ++ (cell_text cell ++ lines_text (row_lines (drop 1 heads) cells)) ≡ runs_text (label heads ++ cell.runs) ++ lines_text (row_lines (drop 1 heads) cells) =
    sym (append_assoc (runs_text (label heads)) (cell_text cell) (lines_text (row_lines (drop 1 heads) cells))) ∙ ap (λ (text : List FlaggedChar). text ++ lines_text (row_lines (drop 1 heads) cells)) (sym (runs_join (label heads) cell.runs)) in
    subst (IsMadeOfBoth (runs_text (label heads) ++ labels_text (drop 1 heads) cells) (cell_text cell ++ row_text cells)) both
    (first_made (runs_text (label heads)) (labels_text (drop 1 heads) cells) (cell_text cell ++ row_text cells) (cell_text cell ++ lines_text (row_lines (drop 1 heads) cells)) (second_made (cell_text cell) (labels_text (drop 1 heads) cells) (row_text cells) (lines_text (row_lines (drop 1 heads) cells)) more)))

-- an empty paragraph says nothing
blank_says : (lines : List LineContent) → lines_text (or_blank lines) ≡ lines_text lines
blank_says [] = refl
blank_says (line ∷ lines) = refl

no_heads : {A : Type 0} (n : ℕ) → drop {A = A} n [] ≡ []
no_heads zero = refl
no_heads (suc n) = refl

no_labels : (cells : List StyledRuns) → labels_text [] cells ≡ []
no_labels [] = refl
no_labels (cell ∷ cells) =
    by_bool (λ t. (if t then [] else []) ++ labels_text (drop 1 []) cells ≡ []) (length cell.runs == 0) (λ e. no_labels cells) (λ e. no_labels cells)

-- the paragraph of a cell is among a row's
abbrev IsAmong : List LineContent → LineContent → Type 0
IsAmong lines line = (before after : List LineContent) × (lines ≡ before ++ line ∷ after)

drop_next : {A : Type 0} (n : ℕ) (xs : List A) → drop n (drop 1 xs) ≡ drop (suc n) xs
drop_next n [] = no_heads n
drop_next n (x ∷ xs) = refl

behind_head : (heads cells front others : List StyledRuns) (cell : StyledRuns) → cells ≡ front ++ cell ∷ others → cell.runs ≢ [] → IsAmong (row_lines heads cells) (paragraph (label (drop (length front) heads) ++ cell.runs))
behind_head heads cells [] others cell is some =
    let here : row_lines heads cells ≡ paragraph (label heads ++ cell.runs) ∷ row_lines (drop 1 heads) others =
    ap (row_lines heads) is ∙ ap (λ t. (if t then [] else paragraph (label heads ++ cell.runs) ∷ []) ++ row_lines (drop 1 heads) others) (some_runs cell.runs some) in
    ([], row_lines (drop 1 heads) others, here)
behind_head heads cells (f ∷ front) others cell is some =
    let more = behind_head (drop 1 heads) (front ++ cell ∷ others) front others cell refl some in
    let own : List LineContent = cell_lines (label heads) f in
    let at : row_lines (drop 1 heads) (front ++ cell ∷ others) ≡ more.0 ++ paragraph (label (drop (suc (length front)) heads) ++ cell.runs) ∷ more.1 =
    more.2 ∙ ap (λ (hs : List StyledRuns). more.0 ++ paragraph (label hs ++ cell.runs) ∷ more.1) (drop_next (length front) heads) in
    (own ++ more.0, more.1, ap (row_lines heads) is ∙ ap (λ (ls : List LineContent). own ++ ls) at ∙ sym (append_assoc own more.0 (paragraph (label (drop (suc (length front)) heads) ++ cell.runs) ∷ more.1)))

not_blank : (lines : List LineContent) (line : LineContent) → IsAmong lines line → IsAmong (or_blank lines) line
not_blank [] line ([], after, is) = absurd cc
not_blank [] line (l ∷ before, after, is) = absurd cc
not_blank (l ∷ ls) line h = h

only_cells : (xs ys zs : List FlaggedChar) → xs ≡ [] → IsMadeOfBoth xs ys zs → zs ≡ ys
only_cells xs ys [] none h = sym h.1
only_cells xs ys (z ∷ zs) none h =
    ⊎_elim (λ l. let is : [] ≡ z ∷ l.0 = sym none ∙ l.1 in absurd cc) (λ r. ap (λ (more : List FlaggedChar). z ∷ more) (only_cells xs r.0 zs none r.2) ∙ sym r.1) h

-- a row below heads becomes an item that keeps its cells
pub keeps_row : (heads cells : List StyledRuns) → KeepsRow heads cells (item_lines heads cells)
keeps_row heads cells =
    let made : IsMadeOfBoth (labels_text heads cells) (row_text cells) (lines_text (item_lines heads cells)) =
    subst (IsMadeOfBoth (labels_text heads cells) (row_text cells)) (sym (blank_says (row_lines heads cells))) (row_made heads cells) in
    record {
      text = made;
      alone = λ none. only_cells (labels_text heads cells) (row_text cells) (lines_text (item_lines heads cells)) (ap (λ (hs : List StyledRuns). labels_text hs cells) none ∙ no_labels cells) made;
      behind = λ front others cell is some. not_blank (row_lines heads cells) (paragraph (label (drop (length front) heads) ++ cell.runs)) (behind_head heads cells front others cell is some);
    }

-- ---- the list

keeps_rows : (gutters : List Gutter) (fresh : ℕ) (heads : List StyledRuns) (rows : List (List StyledRuns))
    → AllZip (λ (cells : List StyledRuns) (item : SectionContent). KeepsRow heads cells item.lines) rows (list_sections gutters fresh (map (item_lines heads) rows))
keeps_rows gutters fresh heads [] = tt
keeps_rows gutters fresh heads (row ∷ rows) = (keeps_row heads row, keeps_rows gutters 0 heads rows)

same_gutters : (gutters : List Gutter) (fresh : ℕ) (items : List (List LineContent)) → AllByRecursion (λ (item : SectionContent). item.gutters ≡ gutters) (list_sections gutters fresh items)
same_gutters gutters fresh [] = tt
same_gutters gutters fresh (item ∷ items) = (refl, same_gutters gutters 0 items)

fresh_ones : (gutters : List Gutter) (fresh : ℕ) (items : List (List LineContent))
    → map (λ (item : SectionContent). item.fresh) (list_sections gutters fresh items) ≡ first_fresh (fresh + 1) (length (list_sections gutters fresh items))
fresh_ones gutters fresh [] = refl
fresh_ones gutters fresh (item ∷ items) = ap (λ (more : List ℕ). (fresh + 1) ∷ more) (fresh_ones gutters 0 items)

is_list : (section : SectionContent) (gutters : List Gutter) (heads : List StyledRuns) (rows : List (List StyledRuns)) → are_table section.lines ≡ true → section.list ≡ Some gutters
    → ((heads ≡ []) × (rows ≡ rows_in section.lines)) ⊎ ((rows_in section.lines ≡ heads ∷ rows) × (rows ≢ []))
    → IsListOf section (list_sections gutters (min section.fresh (length section.gutters)) (map (item_lines heads) rows))
is_list section gutters heads rows table list whole = record {
  table = table;
  gutters = gutters;
  list = list;
  heads = heads;
  rows = rows;
  whole = whole;
  kept = keeps_rows gutters (min section.fresh (length section.gutters)) heads rows;
  front = same_gutters gutters (min section.fresh (length section.gutters)) (map (item_lines heads) rows);
  fresh = fresh_ones gutters (min section.fresh (length section.gutters)) (map (item_lines heads) rows);
}

some_rows : (room : ℕ) (heads : List StyledRuns) (rows : List (List StyledRuns)) → says_heads room heads rows ≡ true → rows ≢ []
some_rows room heads [] said none = cc
some_rows room heads (row ∷ rows) said none = cc

list_by : (room : ℕ) (section : SectionContent) (gutters : List Gutter) (all : List (List StyledRuns)) → all ≡ rows_in section.lines → are_table section.lines ≡ true → section.list ≡ Some gutters
    → IsListOf section (list_sections gutters (min section.fresh (length section.gutters)) (items_of room all))
list_by room section gutters [] is table list = is_list section gutters [] [] table list (inl (refl, is))
list_by room section gutters (heads ∷ rows) is table list =
    by_bool (λ t. IsListOf section (list_sections gutters (min section.fresh (length section.gutters)) (if t then map (item_lines heads) rows else map (item_lines []) (heads ∷ rows)))) (says_heads room heads rows)
    (λ said. is_list section gutters heads rows table list (inr (sym is, some_rows room heads rows said)))
    (λ unsaid. is_list section gutters [] (heads ∷ rows) table list (inl (refl, is)))

is_table_of : (whole : TableRules) (room : ℕ) (lines : List LineContent) → lacks_room whole room lines ≡ true → are_table lines ≡ true
is_table_of whole room lines h = by_bool (λ t. (t && not (length (rows_in lines) == 0) && not (has_room whole room lines)) ≡ true → t ≡ true) (are_table lines) (λ e k. refl) (λ e k. k) h

kept_in : (whole : TableRules) (room : Option ℕ) (list : Option (List Gutter)) (section : SectionContent) → section.list ≡ list
    → (unfolded_in whole room list section ≡ section ∷ []) ⊎ IsListOf section (unfolded_in whole room list section)
kept_in whole None list section is = inl refl
kept_in whole (Some room) None section is = inl refl
kept_in whole (Some room) (Some gutters) section is =
    by_bool (λ t. ((if t then as_list room gutters section else section ∷ []) ≡ section ∷ []) ⊎ IsListOf section (if t then as_list room gutters section else section ∷ [])) (lacks_room whole room section.lines)
    (λ lacks. inr (list_by room section gutters (rows_in section.lines) refl (is_table_of whole room section.lines lacks) is))
    (λ has. inl refl)

-- a table that has no room is a list
pub list_when : (whole : TableRules) (ascii : Bool) (width : ℕ) (section : SectionContent) (gutters : List Gutter) → section.list ≡ Some gutters → lacks_room whole (room_at ascii width section.gutters) section.lines ≡ true
    → IsListOf section (unfolded whole ascii (Some width) section)
list_when whole ascii width section gutters is lacks =
    let all : as_list (room_at ascii width section.gutters) gutters section ≡ unfolded whole ascii (Some width) section =
    ap (λ (t : Bool). if t then as_list (room_at ascii width section.gutters) gutters section else section ∷ []) (sym lacks)
    ∙ ap (λ (list : Option (List Gutter)). unfolded_in whole (Some (room_at ascii width section.gutters)) list section) (sym is) in
    subst (IsListOf section) all (list_by (room_at ascii width section.gutters) section gutters (rows_in section.lines) refl (is_table_of whole (room_at ascii width section.gutters) section.lines lacks) is)

-- one that has room stays
pub stays_when : (whole : TableRules) (ascii : Bool) (width : ℕ) (section : SectionContent) (gutters : List Gutter) → section.list ≡ Some gutters → lacks_room whole (room_at ascii width section.gutters) section.lines ≡ false
    → unfolded whole ascii (Some width) section ≡ section ∷ []
stays_when whole ascii width section gutters is has =
    ap (λ (list : Option (List Gutter)). unfolded_in whole (Some (room_at ascii width section.gutters)) list section) is
    ∙ ap (λ (t : Bool). if t then as_list (room_at ascii width section.gutters) gutters section else section ∷ []) has

-- a section is shown as it is, or as the list of its table
pub nothing_is_lost : NothingIsLost
nothing_is_lost whole ascii width section = kept_in whole (room ascii width section.gutters) section.list section refl

-- ---- what stays

unlisted_in : (whole : TableRules) (room : Option ℕ) (section : SectionContent) → unfolded_in whole room None section ≡ section ∷ []
unlisted_in whole None section = refl
unlisted_in whole (Some room) section = refl

no_list : (whole : TableRules) (ascii : Bool) (width : Option ℕ) (section : SectionContent) → section.list ≡ None → unfolded whole ascii width section ≡ section ∷ []
no_list whole ascii width section none = ap (λ (list : Option (List Gutter)). unfolded_in whole (room ascii width section.gutters) list section) none ∙ unlisted_in whole (room ascii width section.gutters) section

items_stay : (whole : TableRules) (ascii : Bool) (width : Option ℕ) (gutters : List Gutter) (fresh : ℕ) (items : List (List LineContent)) → flat_map (unfolded whole ascii width) (list_sections gutters fresh items) ≡ list_sections gutters fresh items
items_stay whole ascii width gutters fresh [] = refl
items_stay whole ascii width gutters fresh (lines ∷ items) =
    let own : SectionContent = record { gutters = gutters; fresh = fresh + 1; list = None; marks = []; lines = lines } in
    ap (λ (one : List SectionContent). one ++ flat_map (unfolded whole ascii width) (list_sections gutters 0 items)) (no_list whole ascii width own refl) ∙ ap (λ (more : List SectionContent). own ∷ more) (items_stay whole ascii width gutters 0 items)

stay_in : (whole : TableRules) (ascii : Bool) (width : Option ℕ) (room : Option ℕ) (list : Option (List Gutter)) (section : SectionContent)
    → (unfolded_in whole room list section ≡ section ∷ []) ⊎ (flat_map (unfolded whole ascii width) (unfolded_in whole room list section) ≡ unfolded_in whole room list section)
stay_in whole ascii width None list section = inl refl
stay_in whole ascii width (Some room) None section = inl refl
stay_in whole ascii width (Some room) (Some gutters) section =
    by_bool (λ t. ((if t then as_list room gutters section else section ∷ []) ≡ section ∷ []) ⊎ (flat_map (unfolded whole ascii width) (if t then as_list room gutters section else section ∷ []) ≡ (if t then as_list room gutters section else section ∷ []))) (lacks_room whole room section.lines)
    (λ lacks. inr (items_stay whole ascii width gutters (min section.fresh (length section.gutters)) (items_of room (rows_in section.lines))))
    (λ has. inl refl)

-- without a width, or without gutters of a list, a section stays, and what it is shown as does
pub stay : Stay
stay = record {
  unlimited = λ whole ascii section. refl;
  unlisted = no_list;
  items = λ whole ascii width section. stay_in whole ascii width (room ascii width section.gutters) section.list section;
}

-- ---- how much is said

both_lengths : (flags : Flags) (cs : List ℕ) → (columns_of (flagged flags cs) ≤ text_length cs) × (length (flagged flags cs) ≤ text_length cs)
both_lengths flags [] = (omega arith, omega arith)
both_lengths flags (c ∷ cs) =
    let more = both_lengths flags cs in
    let one = sum_by-cons (λ (x : FlaggedChar). char_columns x.char) (record { char = c; flags = flags }) (flagged flags cs) in
    (omega (arith, more.0, one), omega (arith, more.1))

length_both : {A : Type 0} (xs ys : List A) → length (xs ++ ys) ≡ length xs + length ys
length_both [] ys = omega arith
length_both (x ∷ xs) ys = let more = length_both xs ys in omega (arith, more)

runs_are_short : (runs : List Run) → (columns_of (runs_text runs) ≤ runs_length runs) × (length (runs_text runs) ≤ runs_length runs)
runs_are_short [] = (omega arith, omega arith)
runs_are_short (run ∷ runs) =
    let own = both_lengths run.flags (chars run.text) in
    let more = runs_are_short runs in
    let text : List FlaggedChar = flagged run.flags (chars run.text) in
    let wide = sum_by-append (λ (x : FlaggedChar). char_columns x.char) text (runs_text runs) in
    let long = length_both text (runs_text runs) in
    (omega (arith, own.0, more.0, wide), omega (arith, own.1, more.1, long))

short_heads : (room : ℕ) (heads : List StyledRuns) → are_short room heads ≡ true → AllByRecursion (λ (head : StyledRuns). (2 * columns_of (cell_text head) ≤ room) × (2 * length (cell_text head) ≤ room)) heads
short_heads room [] h = tt
short_heads room (head ∷ heads) h =
    by_bool (λ t. (t && are_short room heads) ≡ true → (nat_le (2 * runs_length head.runs) room ≡ t) → ((2 * columns_of (cell_text head) ≤ room) × (2 * length (cell_text head) ≤ room)) × AllByRecursion (λ (head : StyledRuns). (2 * columns_of (cell_text head) ≤ room) × (2 * length (cell_text head) ≤ room)) heads) (nat_le (2 * runs_length head.runs) room)
    (λ on k e. let within : 2 * runs_length head.runs ≤ room = grind (arith, nat_tests, e) in let short = runs_are_short head.runs in ((omega (arith, within, short.0), omega (arith, within, short.1)), short_heads room heads k))
    (λ off k e. absurd cc) h refl

-- heads that are said have at most half of the room
pub labels_are_short : LabelsAreShort
labels_are_short room heads [] said = absurd cc
labels_are_short room heads (row ∷ rows) said = short_heads room heads said

next_short : (room : ℕ) (heads : List StyledRuns) → are_short room heads ≡ true → are_short room (drop 1 heads) ≡ true
next_short room [] h = refl
next_short room (head ∷ heads) h = by_bool (λ t. (t && are_short room heads) ≡ true → are_short room heads ≡ true) (nat_le (2 * runs_length head.runs) room) (λ e k. k) (λ e k. absurd cc) h

two_more : length (runs_text (colon ∷ [])) ≡ 2
unfolding chars
two_more = refl

label_short : (room : ℕ) (heads : List StyledRuns) → are_short room heads ≡ true → 2 * length (runs_text (label heads)) ≤ room + 4
label_short room [] h = omega arith
label_short room (head ∷ heads) h =
    let short = short_heads room (head ∷ heads) h in
    by_bool (λ t. 2 * length (runs_text (if t then [] else head.runs ++ colon ∷ [])) ≤ room + 4) (length head.runs == 0) (λ e. omega arith)
    (λ e. let long = ap length (runs_join head.runs (colon ∷ [])) ∙ length_both (runs_text head.runs) (runs_text (colon ∷ [])) in let two = two_more in omega (arith, short.0.1, long, two))

row_short : (room : ℕ) (heads cells : List StyledRuns) → are_short room heads ≡ true → 2 * length (lines_text (row_lines heads cells)) ≤ 2 * length (row_text cells) + length cells * (room + 4)
row_short room heads [] h = omega arith
row_short room heads (cell ∷ cells) h =
    let more = row_short room (drop 1 heads) cells (next_short room heads h) in
    let row = length_both (cell_text cell) (row_text cells) in
    let counted : suc (length cells) * (room + 4) ≡ (room + 4) + length cells * (room + 4) = grind arith in
    by_bool (λ t. 2 * length (lines_text ((if t then [] else paragraph (label heads ++ cell.runs) ∷ []) ++ row_lines (drop 1 heads) cells)) ≤ 2 * length (row_text (cell ∷ cells)) + suc (length cells) * (room + 4)) (length cell.runs == 0)
    (λ e. omega (arith, more, row, counted))
    (λ e.
    let own = ap length (runs_join (label heads) cell.runs) ∙ length_both (runs_text (label heads)) (cell_text cell) in
    let both = length_both (runs_text (label heads ++ cell.runs)) (lines_text (row_lines (drop 1 heads) cells)) in
    let short = label_short room heads h in
    omega (arith, more, row, counted, own, both, short))

-- an item has at most half of the room and two characters more for each cell
pub items_are_short : ItemsAreShort
items_are_short room heads cells [] said = absurd cc
items_are_short room heads cells (row ∷ rows) said = let short = row_short room heads cells said in let same = ap length (blank_says (row_lines heads cells)) in omega (arith, short, same)
