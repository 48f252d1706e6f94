-- An item is read as the lines that it holds.
use Rattle.std.proofs.Common.{◌≡◌, ℕ, zero, suc, ◌+◌, ◌<◌, ◌≤◌, Bool, true, false, cond, not, ◌||◌, ◌&&◌, ◌==◌, nat_lt, nat_le, List, [], ◌∷◌, ◌++◌, map, length, drop, replicate, Option, Some, None, refl, sym, ap, subst, ◌∙◌, append-nil, arith, if◌then◌else◌}
use Rattle.std.proofs.lemmas.Bool.{and_parts, eqb-true, leb-true}
use Rattle.std.proofs.lemmas.Bool.Decides.{nat_tests}
use Rattle.std.specs.Char.{is_ascii_digit}
use Rattle.std.specs.List.{list_all}
use Rattle.markdown_marks.specs.Bytes.{first, is_blank, is_blank_byte}
use Rattle.markdown_marks.specs.Items.{is_bullet, marker_start}
use Rattle.markdown_marks.specs.Marks.{is_rule}
use Rattle.markdown_marks.specs.Remaining.{Remaining, whole, one_column, take_columns, columns_in_front, further, skip}
use Rattle.markdown_marks.specs.declared.items.Marker.{Marker}
use Rattle.markdown_blocks.specs.Containers.{Opened, container_after, container_start, gap_after, goes_on, item_before}
use Rattle.markdown_blocks.specs.Events.{events_from}
use Rattle.markdown_blocks.specs.Lines.{text_lines}
use Rattle.markdown_blocks.specs.Steps.{State, Step, step}
use Rattle.markdown_blocks.specs.declared.containers.Container.{Container}
use Rattle.markdown_blocks.specs.declared.containers.Container.TheVariants.{Item}
use Rattle.markdown_blocks.proofs.AlikeLemmas.{Alike, NoTab, at}
use Rattle.markdown_blocks.proofs.BareLemmas.{is_loose_bare, step_bare}
use Rattle.markdown_blocks.proofs.FirstLemmas.{are_signs, first_full, item_bare}
use Rattle.markdown_blocks.proofs.WithinLemmas.{at_first}
use Rattle.markdown_leaves.specs.Gather.{Gathering, nothing_told, closed}
use Rattle.markdown_leaves.specs.Parts.{PartContent, begins, ends}
use Rattle.markdown_leaves.specs.Told.{parts_of}
use Rattle.markdown_laws.specs.Items.{AreIndented, BeginsItem, FenceEndsWithItsItem, IsIndented, ItemHoldsItsLines, begins_less, begins_text}
use Rattle.markdown_laws.specs.Quotes.{has_no_tab, has_room, spelled}
use Rattle.markdown_laws.proofs.AroundLemmas.{fits_from}
use Rattle.markdown_laws.proofs.FenceLemmas.{ended, not_closing, open_fence, read_of}
use Rattle.markdown_laws.proofs.FreshLemmas.{told_same}
use Rattle.markdown_laws.proofs.HeldFenceLemmas.{fence_held}
use Rattle.markdown_laws.proofs.HeldLemmas.{AllGoOn, IsOutside, all_container, container_read, no_tabs}
use Rattle.markdown_laws.proofs.RoomLemmas.{rooms_of}

-- ---- a marker

-- a byte that a marker begins with
abbrev is_marker : ℕ → Bool
is_marker b = is_bullet b || is_ascii_digit b

is_false : (b : Bool) → (b ≡ true → false ≡ true) → b ≡ false
is_false true h = let e : false ≡ true = h refl in absurd (cc)
is_false false h = refl

no_other : (b k : ℕ) → is_marker k ≡ false → is_marker b ≡ true → (b == k) ≡ false
no_other b k other h = is_false (b == k) (λ e. sym other ∙ sym (ap is_marker (eqb-true b k e)) ∙ h)

no_marker : (b : ℕ) (bs : List ℕ) → is_bullet b ≡ false → is_ascii_digit b ≡ false → marker_start (b ∷ bs) ≡ None
no_marker b bs e f = rw e (rw f refl)

marker_byte : (p q : Bool) (b : ℕ) (bs : List ℕ) (marker : Marker) → is_bullet b ≡ p → is_ascii_digit b ≡ q → marker_start (b ∷ bs) ≡ Some marker → (p || q) ≡ true
marker_byte true q b bs marker e f h = refl
marker_byte false true b bs marker e f h = refl
marker_byte false false b bs marker e f h = let no : None ≡ Some marker = sym (no_marker b bs e f) ∙ h in absurd (cc)

-- ---- the line that begins an item

after_blanks : (indent b : ℕ) (bs : List ℕ) → indent < 4 → (b == 32) ≡ false → (b == 9) ≡ false → container_start false (whole (replicate indent 32 ++ b ∷ bs)) ≡ container_after false indent (at indent (b ∷ bs))
unfolding container_start columns_in_front take_columns one_column
after_blanks zero b bs few e f = rw e (rw f refl)
after_blanks (suc zero) b bs few e f = rw e (rw f refl)
after_blanks (suc (suc zero)) b bs few e f = rw e (rw f refl)
after_blanks (suc (suc (suc zero))) b bs few e f = rw e (rw f refl)
after_blanks (suc (suc (suc (suc n)))) b bs few e f = absurd (omega (arith, few))

-- no quote and no thematic break, but an item
marked : (indent b : ℕ) (bs : List ℕ) (marker : Marker) → (b == 62) ≡ false → is_rule (b ∷ bs) ≡ false → marker_start (b ∷ bs) ≡ Some marker
    → container_after false indent (at indent (b ∷ bs)) ≡ Some (item_before indent marker (skip marker.length (at indent (b ∷ bs))))
marked indent b bs marker e other start = rw e (rw other (rw start refl))

-- so many spaces are in front of a text
gap_is : (gap column h : ℕ) (hs : List ℕ) → 0 < gap → gap ≤ 4 → (h == 32) ≡ false → (h == 9) ≡ false → gap_after (at column (replicate gap 32 ++ h ∷ hs)) ≡ gap
unfolding columns_in_front one_column is_blank
gap_is zero column h hs some most e f = absurd (omega (arith, some))
gap_is (suc zero) column h hs some most e f = rw e (rw f refl)
gap_is (suc (suc zero)) column h hs some most e f = rw e (rw f refl)
gap_is (suc (suc (suc zero))) column h hs some most e f = rw e (rw f refl)
gap_is (suc (suc (suc (suc zero)))) column h hs some most e f = rw e (rw f refl)
gap_is (suc (suc (suc (suc (suc n))))) column h hs some most e f = absurd (omega (arith, most))

-- spaces are taken
taken : (n column : ℕ) (held : List ℕ) → (after : ℕ) × (take_columns n (at column (replicate n 32 ++ held)) ≡ at after held)
unfolding take_columns one_column
taken zero column held = (column, refl)
taken (suc n) column held = taken n _ held

-- and counted
counted : (n column : ℕ) (held : List ℕ) → columns_in_front n (at column (replicate n 32 ++ held)) ≡ n
unfolding columns_in_front one_column
counted zero column held = refl
counted (suc n) column held = omega (arith, counted n (further 1 column) held)

-- the rest behind so many spaces
alike_behind : (n column : ℕ) (held : List ℕ) → NoTab held → Alike (take_columns n (at column (replicate n 32 ++ held))) (whole held)
alike_behind n column held h =
    let found = taken n column held in
    subst (λ (r : Remaining). Alike r (whole held)) (sym found.1) (record { bytes = refl; first = refl; second = refl; tabs = h })

skipped : (n column : ℕ) (bytes behind : List ℕ) → drop n bytes ≡ behind → skip n (at column bytes) ≡ record (skip n (at column bytes)) { bytes = behind }
unfolding skip
skipped n column bytes behind e = ap (λ (bs : List ℕ). record (skip n (at column bytes)) { bytes = bs }) e

-- what begins in a line, and what is left of it
pub record Begins (container : Container) (line held : List ℕ) : Type 0 where
  pub rest : Remaining
  pub starts : container_start false (whole line) ≡ Some (record { container = container; rest = rest })
  pub alike : Alike rest (whole held)

begun_by : (line bytes : List ℕ) (h : ℕ) (hs : List ℕ) (marker : Marker) (content : ℕ) (b : BeginsItem line (h ∷ hs) marker content) → bytes ≡ b.bytes → (h == 32) ≡ false → NoTab (h ∷ hs)
    → Begins (Item marker.sign marker.number content) line (h ∷ hs)
unfolding skip
begun_by line [] h hs marker content b is text tabs = let none : None ≡ Some marker = ap marker_start is ∙ b.start in absurd (cc)
begun_by line (c ∷ cs) h hs marker content b is text tabs =
    let sign : is_marker c ≡ true = marker_byte (is_bullet c) (is_ascii_digit c) c cs marker refl refl (ap marker_start is ∙ b.start) in
    let column = (skip marker.length (at b.indent (c ∷ cs))).column in
    let rest = at column (replicate b.gap 32 ++ h ∷ hs) in
    record {
      rest = take_columns b.gap rest;
      starts = ap (λ (l : List ℕ). container_start false (whole l)) (b.whole ∙ ap (λ (bs : List ℕ). replicate b.indent 32 ++ bs) (sym is))
          ∙ after_blanks b.indent c cs b.few (no_other c 32 refl sign) (no_other c 9 refl sign)
          ∙ marked b.indent c cs marker (no_other c 62 refl sign) (ap is_rule is ∙ b.no_break) (ap marker_start is ∙ b.start)
          ∙ ap (λ (bs : List ℕ). Some (item_before b.indent marker (at column bs))) (ap (drop marker.length) is ∙ b.behind)
          ∙ ap (λ (n : ℕ). Some (record { container = Item marker.sign marker.number (b.indent + marker.length + n); rest = take_columns n rest })) (gap_is b.gap column h hs b.some b.most text tabs.0)
          ∙ ap (λ (n : ℕ). Some (record { container = Item marker.sign marker.number n; rest = take_columns b.gap rest })) (sym b.column);
      alike = alike_behind b.gap column (h ∷ hs) tabs;
    }

-- ---- a further line

blank_spaces : (n : ℕ) → is_blank (replicate n 32 ++ []) ≡ true
unfolding is_blank
blank_spaces zero = refl
blank_spaces (suc n) = blank_spaces n

-- nothing is left behind fewer spaces than are taken
all_taken : (n most column : ℕ) → n ≤ most → (after : ℕ) × (take_columns most (at column (replicate n 32 ++ [])) ≡ at after [])
unfolding take_columns one_column
all_taken zero zero column few = (column, refl)
all_taken zero (suc most) column few = (column, refl)
all_taken (suc n) zero column few = absurd (omega (arith, few))
all_taken (suc n) (suc most) column few = all_taken n most _ (omega (arith, few))

on_choice : (blank on : Bool) (rest : Remaining) → (blank || on) ≡ true → cond blank (cond false None (Some rest)) (cond on (Some rest) None) ≡ Some rest
on_choice true on rest h = refl
on_choice false true rest h = refl
on_choice false false rest h = let no : false ≡ true = h in absurd (cc)

or_right : (p q : Bool) → q ≡ true → (p || q) ≡ true
or_right true q h = refl
or_right false q h = h

or_left : (p q : Bool) → p ≡ true → (p || q) ≡ true
or_left p q h = ap (λ t. t || q) h

-- an item that isn't bare goes on in this line, and leaves that one
pub record Goes (sign number content : ℕ) (line held : List ℕ) : Type 0 where
  pub rest : Remaining
  pub on : goes_on (Item sign number content) false (whole line) ≡ Some rest
  pub alike : Alike rest (whole held)

goes_where : (sign number content : ℕ) (line held : List ℕ) → (is_blank line || (columns_in_front content (whole line) == content)) ≡ true → Alike (take_columns content (whole line)) (whole held) → Goes sign number content line held
unfolding goes_on
goes_where sign number content line held h alike = record { rest = take_columns content (whole line); on = on_choice (is_blank line) (columns_in_front content (whole line) == content) (take_columns content (whole line)) h; alike = alike }

same_number : (n m : ℕ) → n ≡ m → (n == m) ≡ true
same_number n m e = grind (arith, nat_tests, e)

goes_full : (sign number content : ℕ) (held : List ℕ) → NoTab held → Goes sign number content (replicate content 32 ++ held) held
goes_full sign number content held h =
    goes_where sign number content (replicate content 32 ++ held) held (or_right _ _ (same_number _ _ (counted content 0 held))) (alike_behind content 0 held h)

goes_short : (sign number content spaces : ℕ) → spaces ≤ content → Goes sign number content (replicate spaces 32 ++ []) []
goes_short sign number content spaces few =
    let found = all_taken spaces content 0 few in
    goes_where sign number content (replicate spaces 32 ++ []) [] (or_left _ _ (blank_spaces spaces))
    (subst (λ (r : Remaining). Alike r (whole [])) (sym found.1) (record { bytes = refl; first = refl; second = refl; tabs = tt }))

goes_by : (full : Bool) (sign number content spaces : ℕ) (held : List ℕ) → (spaces == content) ≡ full → (full || ((length held == 0) && nat_le spaces content)) ≡ true → NoTab held
    → Goes sign number content (replicate spaces 32 ++ held) held
goes_by true sign number content spaces held e h tabs = subst (λ (n : ℕ). Goes sign number content (replicate n 32 ++ held) held) (sym (eqb-true spaces content e)) (goes_full sign number content held tabs)
goes_by false sign number content spaces [] e h tabs = goes_short sign number content spaces (leb-true spaces content h)
goes_by false sign number content spaces (b ∷ bs) e h tabs =
    let both = and_parts (length (b ∷ bs) == 0) (nat_le spaces content) h in
    let none : (length (b ∷ bs) == 0) ≡ false = grind (arith, nat_tests) in
    let no : true ≡ false = sym both.0 ∙ none in absurd (cc)

-- an item goes on in a line that is indented as its content
pub goes : (sign number content : ℕ) (line held : List ℕ) → IsIndented content line held → NoTab held → Goes sign number content line held
goes sign number content line held i tabs = subst (λ (l : List ℕ). Goes sign number content l held) (sym i.whole) (goes_by (i.spaces == content) sign number content i.spaces held refl i.enough tabs)

-- a line with a marker begins an item
pub item_begins : (line : List ℕ) (h : ℕ) (hs : List ℕ) (marker : Marker) (content : ℕ) → BeginsItem line (h ∷ hs) marker content → (h == 32) ≡ false → NoTab (h ∷ hs) → Begins (Item marker.sign marker.number content) line (h ∷ hs)
item_begins line h hs marker content b text tabs = begun_by line b.bytes h hs marker content b refl text tabs

-- ---- the lines

all_go_on : (sign number content : ℕ) (lines held : List (List ℕ)) (state : State) → is_loose_bare state ≡ false → AreIndented content lines held → list_all has_no_tab held ≡ true
    → AllGoOn (Item sign number content) state lines held
all_go_on sign number content [] [] state bare i h = tt
all_go_on sign number content (text ∷ texts) (one ∷ held) state bare i h =
    let both = and_parts (has_no_tab one) (list_all has_no_tab held) h in
    let found = goes sign number content text one i.0 (no_tabs one both.0) in (
      (found.rest, ap (λ (t : Bool). goes_on (Item sign number content) t (whole text)) bare ∙ found.on, found.alike),
      all_go_on sign number content texts held (step state one).state (step_bare state one bare) i.1 both.1,
    )
all_go_on sign number content [] (one ∷ held) state bare i h = absurd i
all_go_on sign number content (text ∷ texts) [] state bare i h = absurd i

negated : (t : Bool) → not t ≡ true → t ≡ false
negated true h = sym h
negated false h = refl

item_lines : (first one : List ℕ) (lines held : List (List ℕ)) (marker : Marker) (content : ℕ) → BeginsItem first one marker content → AreIndented content lines held → begins_text one ≡ true
    → list_all has_no_tab (one ∷ held) ≡ true → has_room 63 (ended nothing_told (events_from at_first (one ∷ held))) ≡ true
    → map spelled (ended nothing_told (events_from at_first (first ∷ lines))) ≡ begins (Item marker.sign marker.number content) false ∷ (map spelled (ended nothing_told (events_from at_first (one ∷ held))) ++ ends ∷ [])
item_lines first [] lines held marker content b i full h room = let no : false ≡ true = full in absurd (cc)
item_lines first (c ∷ cs) lines held marker content b i full h room =
    let item = Item marker.sign marker.number content in
    let both = and_parts (has_no_tab (c ∷ cs)) (list_all has_no_tab held) h in
    let tabs = no_tabs (c ∷ cs) both.0 in
    let text = and_parts (not (c == 32)) (not (are_signs (c ∷ cs))) full in
    let filled = first_full (c ∷ cs) tabs (negated (are_signs (c ∷ cs)) text.1) in
    let found = item_begins first c cs marker content b (negated (c == 32) text.0) tabs in
    let done = step at_first (c ∷ cs) in
    let events = events_from at_first ((c ∷ cs) ∷ held) in
    container_read item (events_from at_first (first ∷ lines)) events
    (all_container item first (c ∷ cs) lines held (record { rest = found.rest; starts = found.starts; alike = found.alike; bare = item_bare done marker.sign marker.number content filled })
    (all_go_on marker.sign marker.number content lines held done.state (step_bare at_first (c ∷ cs) refl) i both.1) (rooms_of events 63 nothing_told refl room)) (fits_from ((c ∷ cs) ∷ held) at_first) (ap (λ (g : Gathering). (closed g).parts) (told_same item (c ∷ cs) held filled))

-- ---- the law

-- an item holds its lines
pub item : ItemHoldsItsLines
item text held first one lines others marker content are holds b i full h room =
    let read : ended nothing_told (events_from at_first (one ∷ others)) ≡ parts_of held = ap (λ (ls : List (List ℕ)). ended nothing_told (events_from at_first ls)) (sym holds) ∙ sym (read_of held) in
    ap (map spelled) (read_of text ∙ ap (λ (ls : List (List ℕ)). ended nothing_told (events_from at_first ls)) are)
    ∙ item_lines first one lines others marker content b i full (ap (list_all has_no_tab) (sym holds) ∙ h) (ap (has_room 63) read ∙ room)
    ∙ ap (λ (ps : List PartContent). begins (Item marker.sign marker.number content) false ∷ (map spelled ps ++ ends ∷ [])) read

-- ---- code in an item

ends_less : (sign number content fence length indent : ℕ) (after : List (List ℕ)) → begins_less content after ≡ true → IsOutside (Item sign number content) (open_fence fence length indent) after
unfolding goes_on
ends_less sign number content fence length indent [] h = tt
ends_less sign number content fence length indent (line ∷ lines) h =
    let both = and_parts (not (is_blank line)) (not (columns_in_front content (whole line) == content)) h in
    (rw (negated (is_blank line) both.0) (rw (negated (columns_in_front content (whole line) == content) both.1) refl), refl)

-- code in an item ends with it
pub fence_in_item : FenceEndsWithItsItem
fence_in_item text after first [] fence lines others marker content sign length are b i full tabs h inside out = let no : false ≡ true = full in absurd (cc)
fence_in_item text after first (c ∷ cs) fence lines others marker content sign length are b i full tabs h inside out =
    let item = Item marker.sign marker.number content in
    let both = and_parts (has_no_tab (c ∷ cs)) (list_all has_no_tab others) tabs in
    let none = no_tabs (c ∷ cs) both.0 in
    let text_is = and_parts (not (c == 32)) (not (are_signs (c ∷ cs))) full in
    let filled = first_full (c ∷ cs) none (negated (are_signs (c ∷ cs)) text_is.1) in
    let found = item_begins first c cs marker content b (negated (c == 32) text_is.0) none in
    let done = step at_first (c ∷ cs) in
    fence_held item text after first (c ∷ cs) fence lines others 0 sign length are (record { rest = found.rest; starts = found.starts; alike = found.alike; bare = item_bare done marker.sign marker.number content filled })
    (all_go_on marker.sign marker.number content lines others done.state (step_bare at_first (c ∷ cs) refl) i both.1) h inside (ends_less marker.sign marker.number content sign length 0 (text_lines after) out)
    (told_same item (c ∷ cs) others filled)
