-- An item among other blocks is read as the lines that it holds.
use Rattle.std.proofs.Common.{◌≡◌, ℕ, Bool, true, false, cond, ◌||◌, ◌&&◌, ◌==◌, List, [], ◌∷◌, ◌++◌, map, length, Some, None, refl, sym, ap, subst, ◌∙◌, arith}
use Rattle.std.proofs.lemmas.Bool.{and_parts}
use Rattle.std.specs.List.{list_all}
use Rattle.markdown_marks.specs.Bytes.{ends_sign, is_blank, is_blank_byte}
use Rattle.markdown_marks.specs.Items.{marker_start}
use Rattle.markdown_marks.specs.Marks.{is_rule}
use Rattle.markdown_marks.specs.Remaining.{Remaining, columns_in_front, one_column, whole}
use Rattle.markdown_marks.specs.declared.items.Marker.{Marker}
use Rattle.markdown_blocks.specs.Containers.{Matched, ends_in_item, goes_on, matched}
use Rattle.markdown_blocks.specs.Events.{Event, enter, events_from, leave}
use Rattle.markdown_html.specs.Ends.{ends_html}
use Rattle.markdown_blocks.specs.Leaves.{closes_fence, ends_by_blank, going_on, is_bare, is_paragraph}
use Rattle.markdown_blocks.specs.Steps.{State, Step, begun_line, line_done, line_step, matched_line, step}
use Rattle.markdown_blocks.specs.declared.containers.Container.{Container}
use Rattle.markdown_blocks.specs.declared.containers.Container.TheVariants.{Item}
use Rattle.markdown_blocks.specs.declared.leaves.Deed.TheVariants.{Blank}
use Rattle.markdown_blocks.specs.declared.leaves.Leaf.{Leaf}
use Rattle.markdown_blocks.specs.declared.leaves.Leaf.TheVariants.{Bare, Fenced as FencedLeaf, Html as HtmlLeaf, Indented as IndentedLeaf, Nothing as NothingLeaf, Paragraph as ParagraphLeaf, Table as TableLeaf}
use Rattle.markdown_blocks.proofs.BareLemmas.{is_loose_bare, step_bare}
use Rattle.markdown_blocks.proofs.FirstLemmas.{IsFull, first_full, item_bare}
use Rattle.markdown_blocks.proofs.WithinLemmas.{at_first}
use Rattle.markdown_leaves.specs.Gather.{Gathering, closed, left_in}
use Rattle.markdown_leaves.specs.Parts.{PartContent, begins, ends}
use Rattle.markdown_leaves.specs.Told.{happened, told}
use Rattle.markdown_laws.specs.Items.{BeginsItem, IsIndented}
use Rattle.markdown_laws.specs.Quotes.{has_no_tab}
use Rattle.markdown_laws.proofs.AroundLemmas.{closed_under, fits_from, told_under, under}
use Rattle.markdown_laws.proofs.FlatLemmas.{flat_event}
use Rattle.markdown_laws.proofs.HeldLemmas.{AllGoOn, BeginsIn, IsOutside, behind_lines, container_events, fits_flat, no_tabs, told_then}
use Rattle.markdown_laws.proofs.ItemLemmas.{goes, item_begins}
use Rattle.markdown_laws.proofs.RoomLemmas.{rooms}
use Rattle.markdown_part_laws.proofs.BlankLemmas.{blank_begun, blank_matched, no_opens}
use Rattle.markdown_part_laws.proofs.ParagraphLemmas.{outside_of}
use Rattle.markdown_writing.proofs.FreshLemmas.{told_fresh, with_fresh}
use Rattle.markdown_writing.proofs.FrontLemmas.{indented_line, item_lines}
use Rattle.markdown_writing.proofs.QuoteLemmas.{flat_of}
use Rattle.markdown_writing.proofs.WordLemmas.{no_other, not_none}

-- an item behind a hyphen and a space
abbrev pub hyphen_item : Container
hyphen_item = Item 45 0 2

-- ---- its first line

-- a blank, a hyphen, or the sign of a quote
abbrev pub is_dull : ℕ → Bool
is_dull b = is_blank_byte b || (b == 45) || (b == 62)

-- the first of some lines begins with no blank, and has another byte than blanks, hyphens and signs >
pub record BeginsFull (lines : List (List ℕ)) : Type 0 where
  pub b : ℕ
  pub bs : List ℕ
  pub others : List (List ℕ)
  pub is : lines ≡ (b ∷ bs) ∷ others
  pub blank : is_blank_byte b ≡ false
  pub full : list_all is_dull (b ∷ bs) ≡ false

-- what holds of each byte that passes a test holds of all where they do
all_by : (p q : ℕ → Bool) (bs : List ℕ) → ((b : ℕ) → p b ≡ true → q b ≡ true) → list_all p bs ≡ true → list_all q bs ≡ true
all_by p q [] on h = refl
all_by p q (b ∷ bs) on h = let both = and_parts (p b) (list_all p bs) h in both_true (q b) (list_all q bs) (on b both.0) (all_by p q bs on both.1)
  where
    both_true : (s t : Bool) → s ≡ true → t ≡ true → (s && t) ≡ true
    both_true true t f g = g
    both_true false t f g = f

not_all : (p q : ℕ → Bool) (bs : List ℕ) → ((b : ℕ) → p b ≡ true → q b ≡ true) → list_all q bs ≡ false → list_all p bs ≡ false
not_all p q bs on h = none (list_all p bs) (λ e. sym (all_by p q bs on e) ∙ h)
  where
    none : (t : Bool) → (t ≡ true → true ≡ false) → t ≡ false
    none true k = k refl
    none false k = refl

sign_dull : (b : ℕ) → ((b == 62) || (b == 32)) ≡ true → is_dull b ≡ true
sign_dull b h = by_signs (b == 62) (b == 32) (b == 9) (b == 45) h
  where
    by_signs : (p q r s : Bool) → (p || q) ≡ true → ((q || r) || s || p) ≡ true
    by_signs true true r s k = refl
    by_signs true false true s k = refl
    by_signs true false false true k = refl
    by_signs true false false false k = refl
    by_signs false q r s k = ap (λ (t : Bool). (t || r) || s || false) k

hyphen_dull : (b : ℕ) → ((b == 45) || is_blank_byte b) ≡ true → is_dull b ≡ true
hyphen_dull b h = by_signs (b == 45) (is_blank_byte b) (b == 62) h
  where
    by_signs : (p q r : Bool) → (p || q) ≡ true → (q || p || r) ≡ true
    by_signs true true r k = refl
    by_signs true false r k = refl
    by_signs false q r k = ap (λ (t : Bool). t || false || r) k

-- no thematic break
no_break : (b : ℕ) (bs : List ℕ) → list_all is_dull (b ∷ bs) ≡ false → is_rule (45 ∷ 32 ∷ b ∷ bs) ≡ false
unfolding is_rule
no_break b bs full = rw (not_all (λ c. (c == 45) || is_blank_byte c) is_dull (b ∷ bs) hyphen_dull full) refl

ends_before : (bs : List ℕ) → ends_sign (32 ∷ bs) ≡ true
ends_before bs = ap (λ (t : Bool). t || true) (not_none 32 bs)

-- the marker of an item
abbrev hyphen : Marker
hyphen = record { sign = 45; number = 0; length = 1 }

marked : (bs : List ℕ) → marker_start (45 ∷ 32 ∷ bs) ≡ Some hyphen
marked bs = rw (ends_before bs) refl

begins_item : (b : ℕ) (bs : List ℕ) → list_all is_dull (b ∷ bs) ≡ false → BeginsItem (45 ∷ 32 ∷ b ∷ bs) (b ∷ bs) hyphen 2
begins_item b bs full = record {
  indent = 0;
  few = omega arith;
  bytes = 45 ∷ 32 ∷ b ∷ bs;
  whole = refl;
  start = marked (b ∷ bs);
  no_break = no_break b bs full;
  gap = 1;
  some = omega arith;
  most = omega arith;
  behind = refl;
  column = refl;
}

-- the first line is no blank one
line_full : (b : ℕ) (bs : List ℕ) → list_all is_dull (b ∷ bs) ≡ false → has_no_tab (b ∷ bs) ≡ true → IsFull (step at_first (b ∷ bs))
line_full b bs full tabs = first_full (b ∷ bs) (no_tabs (b ∷ bs) tabs) (not_all (λ c. (c == 62) || (c == 32)) is_dull (b ∷ bs) sign_dull full)

begins_in : (b : ℕ) (bs : List ℕ) → is_blank_byte b ≡ false → list_all is_dull (b ∷ bs) ≡ false → has_no_tab (b ∷ bs) ≡ true → BeginsIn hyphen_item (45 ∷ 32 ∷ b ∷ bs) (b ∷ bs)
begins_in b bs blank full tabs =
    let found = item_begins (45 ∷ 32 ∷ b ∷ bs) b bs hyphen 2 (begins_item b bs full) (no_other is_blank_byte b 32 refl blank) (no_tabs (b ∷ bs) tabs) in
    record { rest = found.rest; starts = found.starts; alike = found.alike; bare = item_bare (step at_first (b ∷ bs)) 45 0 2 (line_full b bs full tabs) }

-- ---- its further lines

indented : (line : List ℕ) → IsIndented 2 (indented_line line) line
indented [] = record { spaces = 0; enough = refl; whole = refl }
indented (b ∷ bs) = record { spaces = 2; enough = refl; whole = refl }

all_go_on : (held : List (List ℕ)) (state : State) → is_loose_bare state ≡ false → list_all has_no_tab held ≡ true → AllGoOn hyphen_item state (map indented_line held) held
all_go_on [] state bare h = tt
all_go_on (one ∷ held) state bare h =
    let both = and_parts (has_no_tab one) (list_all has_no_tab held) h in
    let found = goes 45 0 2 (indented_line one) one (indented one) (no_tabs one both.0) in (
      (found.rest, ap (λ (t : Bool). goes_on hyphen_item t (whole (indented_line one))) bare ∙ found.on, found.alike),
      all_go_on held (step state one).state (step_bare state one bare) both.1,
    )

-- ---- what comes after it

not_on : (bare : Bool) (b : ℕ) (bs : List ℕ) → is_blank_byte b ≡ false → goes_on hyphen_item bare (whole (b ∷ bs)) ≡ None
unfolding goes_on columns_in_front one_column is_blank
not_on bare b bs h = rw (no_other is_blank_byte b 32 refl h) (rw (no_other is_blank_byte b 9 refl h) refl)

-- a line that isn't indented is outside of the item
pub is_outside : (state : State) (lines : List (List ℕ)) → BeginsFull lines → is_paragraph state.leaf ≡ false → IsOutside hyphen_item state lines
is_outside state lines f h = subst (IsOutside hyphen_item state) (sym f.is) (not_on (is_bare state.leaf && (length state.containers == 0)) f.b f.bs f.blank, h)

-- ---- behind an empty line no paragraph is open

blank_done : (state : State) (n : ℕ) (rest : Remaining) → is_paragraph (line_done state n (no_opens rest) Blank rest).state.leaf ≡ false
unfolding ends_in_item
blank_done state n rest = refl

blank_begun_none : (state : State) (found : Matched) → is_blank found.rest.bytes ≡ true → is_paragraph (begun_line state found).state.leaf ≡ false
blank_begun_none state found h = ap (λ (s : Step). is_paragraph s.state.leaf) (blank_begun state found h) ∙ blank_done state found.count found.rest

by_test : (t : Bool) (A : Type 0) → (t ≡ true → A) → (t ≡ false → A) → A
by_test true A f g = f refl
by_test false A f g = g refl

-- what this leaf makes of a line in which all containers go on
abbrev taken_line : Leaf → State → Matched → Step
taken_line leaf state found = matched_line (going_on leaf found.rest) state found

abbrev IsNoneOpen : Step → Type 0
IsNoneOpen done = is_paragraph done.state.leaf ≡ false

taken_none : (leaf : Leaf) (state : State) (found : Matched) → leaf ≡ state.leaf → is_blank found.rest.bytes ≡ true → IsNoneOpen (taken_line leaf state found)
unfolding going_on
taken_none ParagraphLeaf state found e h = blank_begun_none state found h
taken_none NothingLeaf state found e h = blank_begun_none state found h
taken_none Bare state found e h = blank_begun_none state found h
taken_none TableLeaf state found e h = blank_begun_none state found h
taken_none IndentedLeaf state found e h = rw h (ap is_paragraph (sym e))
taken_none (FencedLeaf sign length indent) state found e h =
    by_test (closes_fence sign length found.rest) (IsNoneOpen (taken_line (FencedLeaf sign length indent) state found)) (λ c. rw c refl) (λ c. rw c (ap is_paragraph (sym e)))
taken_none (HtmlLeaf ending) state found e h =
    by_test (ends_by_blank ending) (IsNoneOpen (taken_line (HtmlLeaf ending) state found))
    (λ b. rw b (rw h (blank_begun_none state found h)))
    (λ b. by_test (ends_html ending found.rest.bytes) (IsNoneOpen (taken_line (HtmlLeaf ending) state found)) (λ c. rw b (rw c refl)) (λ c. rw b (rw c (ap is_paragraph (sym e)))))

either_none : (t : Bool) (x y : Step) → is_paragraph x.state.leaf ≡ false → is_paragraph y.state.leaf ≡ false → is_paragraph (cond t x y).state.leaf ≡ false
either_none true x y f g = f
either_none false x y f g = g

blank_none : (state : State) → is_paragraph (step state []).state.leaf ≡ false
unfolding step line_step is_blank
blank_none state =
    let found = matched (is_bare state.leaf) state.containers (whole []) in
    let blank : is_blank found.rest.bytes ≡ true = blank_matched (is_bare state.leaf) state.containers (whole []) refl in
    either_none (found.count == length state.containers) (matched_line (going_on state.leaf found.rest) state found) (begun_line state found) (taken_none state.leaf state found refl blank) (blank_begun_none state found blank)

behind_more : (lines : List (List ℕ)) (text : List ℕ) (state : State) → behind_lines state (lines ++ text ∷ []) ≡ (step (behind_lines state lines) text).state
behind_more [] text state = refl
behind_more (one ∷ lines) text state = behind_more lines text (step state one).state

-- no paragraph is open behind lines of which the last is empty
pub none_open : (lines : List (List ℕ)) (state : State) → is_paragraph (behind_lines state (lines ++ [] ∷ [])).leaf ≡ false
none_open lines state = ap (λ (s : State). is_paragraph s.leaf) (behind_more lines [] state) ∙ blank_none (behind_lines state lines)

-- ---- what is told

entered : (parts : List PartContent) (apart passed : Bool) → happened (enter hyphen_item) (outside_of parts apart passed) ≡ under hyphen_item (with_fresh (outside_of (parts ++ begins hyphen_item passed ∷ []) apart false) true)
unfolding closed
entered parts apart passed = refl

-- blank lines at the end of an item are between it and what comes after it
left_item : (parts : List PartContent) (apart passed : Bool) → left_in (under hyphen_item (outside_of parts apart passed)) ≡ outside_of (parts ++ ends ∷ []) apart passed
left_item parts apart true = refl
left_item parts apart false = refl

-- an item is told as the lines that it holds, between its beginning and its end
abbrev pub IsItem : (after : List (List ℕ)) (parts inner : List PartContent) (apart passed still later : Bool) → List (List ℕ) → Type 0
IsItem after parts inner apart passed still later held =
    list_all has_no_tab held ≡ true → rooms 63 (events_from at_first held) ≡ true → IsOutside hyphen_item (behind_lines at_first held) after
    → flat_of (outside_of (parts ++ begins hyphen_item passed ∷ []) apart false) held ≡ outside_of inner still later
    → flat_of (outside_of parts apart passed) (item_lines held ++ after) ≡ flat_of (outside_of (inner ++ ends ∷ []) still later) after

lines_told : (b : ℕ) (bs : List ℕ) (held after : List (List ℕ)) (parts inner : List PartContent) (apart passed still later : Bool) → is_blank_byte b ≡ false → list_all is_dull (b ∷ bs) ≡ false
    → IsItem after parts inner apart passed still later ((b ∷ bs) ∷ held)
unfolding told
lines_told b bs held after parts inner apart passed still later blank full h room out e =
    let one = b ∷ bs in
    let both = and_parts (has_no_tab one) (list_all has_no_tab held) h in
    let events = map flat_event (events_from at_first (one ∷ held)) in
    let others = map flat_event (events_from at_first after) in
    let within_it = outside_of (parts ++ begins hyphen_item passed ∷ []) apart false in
    ap (λ (es : List Event). closed (told (outside_of parts apart passed) es))
    (container_events hyphen_item (45 ∷ 32 ∷ one) one (map indented_line held) held after (begins_in b bs blank full both.0) (all_go_on held (step at_first one).state (step_bare at_first one refl) both.1) room out)
    ∙ ap (λ (g : Gathering). closed (told g (events ++ leave ∷ others))) (entered parts apart passed)
    ∙ ap closed (told_then events (leave ∷ others) (under hyphen_item (with_fresh within_it true)))
    ∙ ap (λ (g : Gathering). closed (told (left_in (closed g)) others)) (told_under hyphen_item events 0 (with_fresh within_it true) refl (fits_flat 0 (events_from at_first (one ∷ held)) ∙ fits_from (one ∷ held) at_first))
    ∙ ap (λ (g : Gathering). closed (told (left_in (closed (under hyphen_item g))) others)) (told_fresh one held within_it (line_full b bs full both.0))
    ∙ ap (λ (g : Gathering). closed (told (left_in g) others)) (closed_under hyphen_item (told within_it events))
    ∙ ap (λ (g : Gathering). closed (told (left_in (under hyphen_item g)) others)) e
    ∙ ap (λ (g : Gathering). closed (told g others)) (left_item inner still later)

pub item_told : (held after : List (List ℕ)) (parts inner : List PartContent) (apart passed still later : Bool) → BeginsFull held → IsItem after parts inner apart passed still later held
item_told held after parts inner apart passed still later f = subst (IsItem after parts inner apart passed still later) (sym f.is) (lines_told f.b f.bs f.others after parts inner apart passed still later f.blank f.full)
