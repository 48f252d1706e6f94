-- A quote among other blocks is read as the lines that it holds.
use Rattle.std.proofs.Common.{◌≡◌, ℕ, suc, ◌+◌, ◌-◌, Bool, true, false, cond, ◌&&◌, ◌==◌, List, [], ◌∷◌, ◌++◌, map, length, Some, refl, sym, ap, ◌∙◌, append_assoc, append-nil, arith}
use Rattle.std.proofs.lemmas.Bool.{and_parts}
use Rattle.std.proofs.lemmas.Bool.Decides.{nat_tests}
use Rattle.std.proofs.lemmas.List.{map-append}
use Rattle.std.specs.List.{list_all}
use Rattle.markdown_marks.specs.Bytes.{count_in_front, is_blank, is_run_alone}
use Rattle.markdown_marks.specs.Marks.{is_rule, underline_level}
use Rattle.markdown_marks.specs.Remaining.{Remaining, columns_in_front, one_column, skip, take_columns, whole}
use Rattle.markdown_blocks.specs.Containers.{Matched, after_quote, container_start, ends_in_item, goes_on, matched, opened}
use Rattle.markdown_blocks.specs.Events.{Event, enter, events_from, leave, leaves, line, step_events}
use Rattle.markdown_blocks.specs.Leaves.{going_on, is_bare, is_paragraph, leaf_start}
use Rattle.markdown_blocks.specs.Steps.{State, Step, begun_line, line_after, line_step, matched_line, step}
use Rattle.markdown_blocks.specs.declared.containers.Container.{Container}
use Rattle.markdown_blocks.specs.declared.containers.Container.TheVariants.{Quote}
use Rattle.markdown_blocks.specs.declared.leaves.Deed.TheVariants.{Blank}
use Rattle.markdown_blocks.proofs.AlikeLemmas.{Alike, NoTab}
use Rattle.markdown_blocks.proofs.WithinLemmas.{SameBare, at_first, first_within, step_within, within}
use Rattle.markdown_leaves.specs.Gather.{Gathering, closed, left_in}
use Rattle.markdown_leaves.specs.Parts.{PartContent, begins, ends}
use Rattle.markdown_leaves.specs.Told.{happened, told}
use Rattle.markdown_laws.specs.Quotes.{has_no_tab}
use Rattle.markdown_laws.proofs.AroundLemmas.{closed_under, fits_from, told_under, under}
use Rattle.markdown_laws.proofs.FlatLemmas.{flat_event}
use Rattle.markdown_laws.proofs.HeldLemmas.{AllGoOn, BeginsIn, all_container, behind_lines, fits_flat, happens, no_tabs, told_then}
use Rattle.markdown_laws.proofs.LineLemmas.{blank_outside}
use Rattle.markdown_laws.proofs.RoomLemmas.{room_at, rooms}
use Rattle.markdown_part_laws.proofs.ParagraphLemmas.{outside_of}
use Rattle.markdown_writing.proofs.FrontLemmas.{quoted_line}
use Rattle.markdown_writing.proofs.ParagraphLemmas.{Behind, last, more}

-- ---- a line

-- a quote begins in this line, or goes on in it, and leaves that one
record Quotes (held : List ℕ) : Type 0 where
  rest : Remaining
  alike : Alike rest (whole held)
  starts : container_start false (whole (quoted_line held)) ≡ Some (record { container = Quote; rest = rest })
  on : (bare : Bool) → goes_on Quote bare (whole (quoted_line held)) ≡ Some rest

-- what is behind the sign
abbrev behind_sign : List ℕ → Remaining
behind_sign text = after_quote (take_columns 4 (whole text))

quotes : (held : List ℕ) → NoTab held → Quotes held
unfolding container_start goes_on columns_in_front take_columns one_column skip
quotes [] h = record { rest = behind_sign (62 ∷ []); alike = record { bytes = refl; first = refl; second = refl; tabs = h }; starts = refl; on = λ bare. refl }
quotes (b ∷ bs) h = record { rest = behind_sign (62 ∷ 32 ∷ b ∷ bs); alike = record { bytes = refl; first = refl; second = refl; tabs = h }; starts = refl; on = λ bare. refl }

same_bare : (done : Step) → SameBare Quote done
unfolding ends_in_item
same_bare done = refl

all_go_on : (held : List (List ℕ)) (state : State) → list_all has_no_tab held ≡ true → AllGoOn Quote state (map quoted_line held) held
all_go_on [] state h = tt
all_go_on (one ∷ held) state h =
    let both = and_parts (has_no_tab one) (list_all has_no_tab held) h in
    let found = quotes one (no_tabs one both.0) in
    ((found.rest, found.on _, found.alike), all_go_on held (step state one).state both.1)

begins_in : (one : List ℕ) → has_no_tab one ≡ true → BeginsIn Quote (quoted_line one) one
begins_in one h = let found = quotes one (no_tabs one h) in record { rest = found.rest; starts = found.starts; alike = found.alike; bare = same_bare (step at_first one) }

-- ---- the state behind the lines

behind_within : (held : List (List ℕ)) (state : State) (room : ℕ) → list_all has_no_tab held ≡ true → room + length state.containers ≡ 63 → rooms room (events_from state held) ≡ true
    → behind_lines (within Quote state) (map quoted_line held) ≡ within Quote (behind_lines state held)
behind_within [] state room h counted fits = refl
behind_within (one ∷ held) state room h counted fits =
    let both = and_parts (has_no_tab one) (list_all has_no_tab held) h in
    let found = quotes one (no_tabs one both.0) in
    let next = room_at state one held room 63 counted fits in
    let w = step_within Quote state (quoted_line one) one found.rest (found.on _) found.alike next.few in
    ap (λ (s : State). behind_lines s (map quoted_line held)) w.state ∙ behind_within held (step state one).state next.room both.1 next.counted next.others

behind_first : (one : List ℕ) (held : List (List ℕ)) → list_all has_no_tab (one ∷ held) ≡ true → rooms 63 (events_from at_first (one ∷ held)) ≡ true
    → behind_lines at_first (map quoted_line (one ∷ held)) ≡ within Quote (behind_lines at_first (one ∷ held))
behind_first one held h fits =
    let both = and_parts (has_no_tab one) (list_all has_no_tab held) h in
    let found = quotes one (no_tabs one both.0) in
    let next = room_at at_first one held 63 63 refl fits in
    let w = first_within Quote (quoted_line one) one found.rest found.starts found.alike next.few (same_bare (step at_first one)) in
    ap (λ (s : State). behind_lines s (map quoted_line held)) w.state ∙ behind_within held (step at_first one).state next.room both.1 next.counted next.others

-- ---- the empty line behind a quote

not_zero : (n : ℕ) → (0 == suc n) ≡ false
not_zero n = grind (arith, nat_tests)

none_both : (t : Bool) → (t && false) ≡ false
none_both true = refl
none_both false = refl

-- an empty line of which no container has anything
abbrev empty_found : Matched
empty_found = record { count = 0; rest = whole [] }

none_matched : (bare : Bool) (inner : List Container) → matched bare (Quote ∷ inner) (whole []) ≡ empty_found
unfolding matched goes_on columns_in_front take_columns one_column
none_matched bare inner = refl

begins_none : (state : State) (joins : Bool) → joins ≡ false → line_after (within Quote state) 0 (opened 64 joins (whole [])) ≡ step at_first []
unfolding step line_step begun_line matched opened going_on ends_in_item container_start leaf_start columns_in_front take_columns one_column is_blank is_rule underline_level is_run_alone count_in_front
begins_none state true e = let no : true ≡ false = e in absurd (cc)
begins_none state false e = refl

line_none : (state : State) → line_step (within Quote state) empty_found ≡ step at_first []
unfolding line_step begun_line
line_none state =
    let n = length state.containers in
    let outer = within Quote state in
    ap (λ (t : Bool). cond t (matched_line (going_on state.leaf (whole [])) outer empty_found) (begun_line outer empty_found)) (not_zero n)
    ∙ begins_none state (is_paragraph state.leaf && (0 == suc n)) (ap (λ (t : Bool). is_paragraph state.leaf && t) (not_zero n) ∙ none_both (is_paragraph state.leaf))

-- it does what it does at the beginning of a text
blank_step : (state : State) → step (within Quote state) [] ≡ step at_first []
unfolding step
blank_step state = ap (λ (f : Matched). line_step (within Quote state) f) (none_matched (is_bare state.leaf) state.containers) ∙ line_none state

all_left : (n : ℕ) → n - 0 ≡ n
all_left n = omega arith

-- what an empty line is
abbrev line_of_blank : List Event
line_of_blank = line Blank (whole []) ∷ []

outside_blank : (state : State) (others : List (List ℕ)) → events_from (within Quote state) ([] ∷ others) ≡ leaves (suc (length state.containers)) ++ events_from at_first ([] ∷ others)
unfolding events_from
outside_blank state others =
    let n = suc (length state.containers) in
    let first = step at_first [] in
    ap (λ (s : Step). step_events (within Quote state) s ++ events_from s.state others) (blank_step state)
    ∙ ap (λ (s : Step). step_events (within Quote state) s ++ events_from s.state others) (blank_outside 0)
    ∙ ap (λ (m : ℕ). (leaves m ++ line_of_blank) ++ events_from at_first others) (all_left n)
    ∙ append_assoc (leaves n) line_of_blank (events_from at_first others)
    ∙ ap (λ (s : Step). leaves n ++ (step_events at_first s ++ events_from s.state others)) (sym (blank_outside 0))

outside : (state : State) (after : List (List ℕ)) → Behind after → events_from (within Quote state) after ≡ leaves (suc (length state.containers)) ++ events_from at_first after
unfolding events_from
outside state after last = sym (append-nil (leaves (suc (length state.containers))))
outside state after (more others) = outside_blank state others

-- ---- what happens

events_then : (lines after : List (List ℕ)) (state : State) → events_from state (lines ++ after) ≡ happens state lines ++ events_from (behind_lines state lines) after
unfolding events_from
events_then [] after state = refl
events_then (text ∷ texts) after state =
    let done = step state text in
    ap (λ (es : List Event). step_events state done ++ es) (events_then texts after done.state) ∙ sym (append_assoc (step_events state done) (happens done.state texts) (events_from (behind_lines done.state texts) after))

-- lines behind which a quote is open, and then what happens in the text after them
ends_before : (lines after : List (List ℕ)) (state : State) → behind_lines at_first lines ≡ within Quote state → Behind after → events_from at_first (lines ++ after) ≡ events_from at_first lines ++ events_from at_first after
unfolding events_from
ends_before lines after state e behind =
    let n = suc (length state.containers) in
    events_then lines after at_first
    ∙ ap (λ (s : State). happens at_first lines ++ events_from s after) e
    ∙ ap (λ (es : List Event). happens at_first lines ++ es) (outside state after behind)
    ∙ sym (append_assoc (happens at_first lines) (leaves n) (events_from at_first after))
    ∙ ap (λ (es : List Event). (happens at_first lines ++ es) ++ events_from at_first after) (sym (append-nil (leaves n)) ∙ sym (outside state [] last) ∙ ap (λ (s : State). events_from s []) (sym e))
    ∙ ap (λ (es : List Event). es ++ events_from at_first after) (sym (events_then lines [] at_first) ∙ ap (events_from at_first) (append-nil lines))

-- in a quote happens what happens in the lines that it holds, between its beginning and its end
quote_events : (one : List ℕ) (held after : List (List ℕ)) → list_all has_no_tab (one ∷ held) ≡ true → rooms 63 (events_from at_first (one ∷ held)) ≡ true → Behind after
    → map flat_event (events_from at_first (map quoted_line (one ∷ held) ++ after)) ≡ enter Quote ∷ (map flat_event (events_from at_first (one ∷ held)) ++ leave ∷ map flat_event (events_from at_first after))
quote_events one held after h room behind =
    let both = and_parts (has_no_tab one) (list_all has_no_tab held) h in
    let lines = map quoted_line (one ∷ held) in
    let others = map flat_event (events_from at_first after) in
    ap (map flat_event) (ends_before lines after (behind_lines at_first (one ∷ held)) (behind_first one held h room) behind)
    ∙ map-append flat_event (events_from at_first lines) (events_from at_first after)
    ∙ ap (λ (es : List Event). es ++ others) (all_container Quote (quoted_line one) one (map quoted_line held) held (begins_in one both.0) (all_go_on held (step at_first one).state both.1) room)
    ∙ ap (λ (es : List Event). enter Quote ∷ es) (append_assoc (map flat_event (events_from at_first (one ∷ held))) (leave ∷ []) others)

-- ---- what is told

-- what is gathered of lines, at whatever column they stand
abbrev pub flat_of : Gathering → List (List ℕ) → Gathering
flat_of g lines = closed (told g (map flat_event (events_from at_first lines)))

entered : (parts : List PartContent) (apart passed : Bool) → happened (enter Quote) (outside_of parts apart passed) ≡ under Quote (outside_of (parts ++ begins Quote passed ∷ []) apart false)
unfolding closed
entered parts apart passed = refl

-- blank lines in a quote aren't between it and what comes after it
left_quote : (parts : List PartContent) (apart passed : Bool) → left_in (under Quote (outside_of parts apart passed)) ≡ outside_of (parts ++ ends ∷ []) apart false
left_quote parts apart true = refl
left_quote parts apart false = refl

-- a quote is told as the lines that it holds, between its beginning and its end
pub quote_told : (held after : List (List ℕ)) (parts inner : List PartContent) (apart passed still later : Bool) → (length held == 0) ≡ false → list_all has_no_tab held ≡ true → rooms 63 (events_from at_first held) ≡ true → Behind after
    → flat_of (outside_of (parts ++ begins Quote passed ∷ []) apart false) held ≡ outside_of inner still later
    → flat_of (outside_of parts apart passed) (map quoted_line held ++ after) ≡ flat_of (outside_of (inner ++ ends ∷ []) still false) after
unfolding told
quote_told [] after parts inner apart passed still later some h room behind e = let no : true ≡ false = some in absurd (cc)
quote_told (one ∷ held) after parts inner apart passed still later some h room behind e =
    let events = map flat_event (events_from at_first (one ∷ held)) in
    let others = map flat_event (events_from at_first after) in
    let within_it = outside_of (parts ++ begins Quote passed ∷ []) apart false in
    ap (λ (es : List Event). closed (told (outside_of parts apart passed) es)) (quote_events one held after h room behind)
    ∙ ap (λ (g : Gathering). closed (told g (events ++ leave ∷ others))) (entered parts apart passed)
    ∙ ap closed (told_then events (leave ∷ others) (under Quote within_it))
    ∙ ap (λ (g : Gathering). closed (told (left_in (closed g)) others)) (told_under Quote events 0 within_it refl (fits_flat 0 (events_from at_first (one ∷ held)) ∙ fits_from (one ∷ held) at_first))
    ∙ ap (λ (g : Gathering). closed (told (left_in g) others)) (closed_under Quote (told within_it events))
    ∙ ap (λ (g : Gathering). closed (told (left_in (under Quote g)) others)) e
    ∙ ap (λ (g : Gathering). closed (told g others)) (left_quote inner still later)
