-- Lines within a container are told as the lines that it holds, between its beginning and its end.
use Rattle.std.proofs.Common.{◌≡◌, ℕ, zero, suc, ◌+◌, ◌-◌, ◌≤◌, Bool, true, false, not, ◌||◌, ◌&&◌, ◌==◌, List, [], ◌∷◌, ◌++◌, map, length, drop, Some, None, refl, sym, ap, subst, ◌∙◌, append_assoc, append-nil, arith}
use Rattle.std.proofs.lemmas.List.{map-append}
use Rattle.std.proofs.lemmas.Bool.{and_parts}
use Rattle.std.specs.List.{list_all}
use Rattle.markdown_marks.specs.Remaining.{Remaining, whole}
use Rattle.markdown_blocks.specs.Containers.{container_start, goes_on, is_item}
use Rattle.markdown_blocks.specs.Events.{Event, leave, enter, line, leaves, step_events, events_from}
use Rattle.markdown_blocks.specs.Leaves.{is_bare, is_paragraph}
use Rattle.markdown_blocks.specs.Steps.{State, Step, step}
use Rattle.markdown_blocks.specs.declared.containers.Container.{Container}
use Rattle.markdown_blocks.specs.declared.leaves.Deed.{Deed}
use Rattle.markdown_blocks.proofs.AlikeLemmas.{Alike, NoTab}
use Rattle.markdown_blocks.proofs.ApartLemmas.{step_apart}
use Rattle.markdown_blocks.proofs.WithinLemmas.{Within, BeginsWithin, SameBare, at_first, first_within, step_within, within}
use Rattle.markdown_leaves.specs.Gather.{Gathering, nothing_told, closed_as, closed, left_in}
use Rattle.markdown_leaves.specs.Parts.{PartContent, begins, ends}
use Rattle.markdown_leaves.specs.Told.{happened, told, parts_of}
use Rattle.markdown_leaves.specs.declared.parts.Kind.{Kind}
use Rattle.markdown_leaves.specs.declared.parts.Kind.TheVariants.{Nothing, Paragraph, Heading, Indented, Fenced, Html, Table, Rule, Definitions}
use Rattle.markdown_laws.specs.Quotes.{has_no_tab, spelled}
use Rattle.markdown_laws.proofs.AroundLemmas.{closed_under, fits, fits_from, told_under, under}
use Rattle.markdown_laws.proofs.BehindLemmas.{behind, closed_behind, told_behind}
use Rattle.markdown_laws.proofs.FenceLemmas.{ended, ended_behind, not_closing, nothing_open}
use Rattle.markdown_laws.proofs.FlatLemmas.{closed_flat, flat, flat_alike, flat_event, flat_part, spelled_flat, told_flat}
use Rattle.markdown_laws.proofs.RoomLemmas.{room_at, rooms}

-- ---- the lines that a container holds

-- a line without tabs has no tab
pub no_tabs : (bs : List ℕ) → has_no_tab bs ≡ true → NoTab bs
no_tabs [] h = tt
no_tabs (b ∷ bs) h = let both = and_parts (not (b == 9)) (has_no_tab bs) h in (not_closing (b == 9) both.0, no_tabs bs both.1)

-- the container goes on in a line, and leaves one that is alike
abbrev pub GoesOnIn : Container → State → (text held : List ℕ) → Type 0
GoesOnIn container state text held = (rest : Remaining) × (goes_on container (is_bare state.leaf && (length state.containers == 0)) (whole text) ≡ Some rest) × Alike rest (whole held)

-- so it does in these lines
abbrev pub AllGoOn : Container → State → (lines held : List (List ℕ)) → Type 0
AllGoOn container state [] [] = Unit {0}
AllGoOn container state (text ∷ texts) (one ∷ held) = GoesOnIn container state text one × AllGoOn container (step state one).state texts held
AllGoOn container state [] (one ∷ held) = ⊥
AllGoOn container state (text ∷ texts) [] = ⊥

text_split : (xs ys : List Event) (deed : Deed) (text : Remaining) → map flat_event (xs ++ (ys ++ line deed text ∷ [])) ≡ map flat_event xs ++ (map flat_event ys ++ line deed (flat text) ∷ [])
text_split xs ys deed text =
    map-append flat_event xs (ys ++ line deed text ∷ []) ∙ ap (λ (es : List Event). map flat_event xs ++ es) (map-append flat_event ys (line deed text ∷ []))

text_flat : (xs ys : List Event) (deed : Deed) (a b : Remaining) → Alike a b → map flat_event (xs ++ (ys ++ line deed a ∷ [])) ≡ map flat_event (xs ++ (ys ++ line deed b ∷ []))
text_flat xs ys deed a b h = text_split xs ys deed a ∙ ap (λ (t : Remaining). map flat_event xs ++ (map flat_event ys ++ line deed t ∷ [])) (flat_alike a b h) ∙ sym (text_split xs ys deed b)

-- what happens in a line
abbrev events_at : ℕ → List Container → Deed → Remaining → List Event
events_at gone opens deed text = leaves gone ++ (map enter opens ++ line deed text ∷ [])

less_one : (n k : ℕ) → suc n - suc k ≡ n - k
less_one n k = omega arith

step_flat : (container : Container) (state : State) (outer inner : Step) → Within container outer inner → map flat_event (step_events (within container state) outer) ≡ map flat_event (step_events state inner)
step_flat container state outer inner w =
    let n = length state.containers in
    let k = inner.line.kept in
    ap (λ (s : State). map flat_event (events_at (suc n - outer.line.kept) (drop outer.line.kept s.containers) outer.line.deed outer.line.text)) w.state
    ∙ ap (λ (m : ℕ). map flat_event (events_at (suc n - m) (drop m (container ∷ inner.state.containers)) outer.line.deed outer.line.text)) w.kept
    ∙ ap (λ (m : ℕ). map flat_event (events_at m (drop k inner.state.containers) outer.line.deed outer.line.text)) (less_one n k)
    ∙ ap (λ (d : Deed). map flat_event (events_at (n - k) (drop k inner.state.containers) d outer.line.text)) w.deed
    ∙ text_flat (leaves (n - k)) (map enter (drop k inner.state.containers)) inner.line.deed outer.line.text inner.line.text w.text

-- what happens in a line, and then
then_flat : (xs ys more : List Event) → map flat_event xs ++ (map flat_event ys ++ more) ≡ map flat_event (xs ++ ys) ++ more
then_flat xs ys more = sym (append_assoc (map flat_event xs) (map flat_event ys) more) ∙ ap (λ (es : List Event). es ++ more) (sym (map-append flat_event xs ys))

-- what happens in these lines, whatever comes after
abbrev pub happens : State → List (List ℕ) → List Event
happens state [] = []
happens state (text ∷ texts) = step_events state (step state text) ++ happens (step state text).state texts

-- the state after these lines
abbrev pub behind_lines : State → List (List ℕ) → State
behind_lines state [] = state
behind_lines state (text ∷ texts) = behind_lines (step state text).state texts

events_split : (lines : List (List ℕ)) (state : State) → happens state lines ++ leaves (length (behind_lines state lines).containers) ≡ events_from state lines
unfolding events_from
events_split [] state = refl
events_split (text ∷ texts) state =
    let done = step state text in
    append_assoc (step_events state done) (happens done.state texts) (leaves (length (behind_lines done.state texts).containers))
    ∙ ap (λ (es : List Event). step_events state done ++ es) (events_split texts done.state)

-- In lines in which a container goes on happens what happens in those that it holds.
held_events : (container : Container) (lines held after : List (List ℕ)) (state : State) (room : ℕ) → AllGoOn container state lines held → room + length state.containers ≡ 63 → rooms room (events_from state held) ≡ true
    → map flat_event (events_from (within container state) (lines ++ after)) ≡ map flat_event (happens state held) ++ map flat_event (events_from (within container (behind_lines state held)) after)
unfolding events_from
held_events container [] [] after state room on counted h = refl
held_events container (text ∷ texts) (one ∷ held) after state room on counted h =
    let next = room_at state one held room 63 counted h in
    let outer = step (within container state) text in
    let inner = step state one in
    let w = step_within container state text one on.0.0 on.0.1 on.0.2 next.few in
    map-append flat_event (step_events (within container state) outer) (events_from outer.state (texts ++ after))
    ∙ ap (λ (es : List Event). es ++ map flat_event (events_from outer.state (texts ++ after))) (step_flat container state outer inner w)
    ∙ ap (λ (s : State). map flat_event (step_events state inner) ++ map flat_event (events_from s (texts ++ after))) w.state
    ∙ ap (λ (es : List Event). map flat_event (step_events state inner) ++ es) (held_events container texts held after inner.state next.room on.1 next.counted next.others)
    ∙ then_flat (step_events state inner) (happens inner.state held) (map flat_event (events_from (within container (behind_lines inner.state held)) after))
held_events container [] (one ∷ held) after state room on counted h = absurd on
held_events container (text ∷ texts) [] after state room on counted h = absurd on

-- No line comes after, or one in which the container doesn't go on, and that continues no paragraph.
abbrev pub IsOutside : Container → State → List (List ℕ) → Type 0
IsOutside container state [] = Unit {0}
IsOutside container state (text ∷ texts) = (goes_on container (is_bare state.leaf && (length state.containers == 0)) (whole text) ≡ None) × (is_paragraph state.leaf ≡ false)

all_left : (n : ℕ) → n - 0 ≡ n
all_left n = omega arith

-- there all containers end, and another text is read
outside : (container : Container) (state : State) (after : List (List ℕ)) → IsOutside container state after → events_from (within container state) after ≡ leaves (suc (length state.containers)) ++ events_from at_first after
unfolding events_from
outside container state [] h = sym (append-nil (leaves (suc (length state.containers))))
outside container state (text ∷ texts) h =
    let n = suc (length state.containers) in
    let outer = step (within container state) text in
    let first = step at_first text in
    let apart = step_apart container state text h.0 h.1 in
    let others = events_from first.state texts in
    ap (λ (s : State). events_at (n - outer.line.kept) (drop outer.line.kept s.containers) outer.line.deed outer.line.text ++ events_from s texts) apart.state
    ∙ ap (λ (k : ℕ). events_at (n - k) (drop k first.state.containers) outer.line.deed outer.line.text ++ others) apart.kept
    ∙ ap (λ (m : ℕ). events_at m first.state.containers outer.line.deed outer.line.text ++ others) (all_left n)
    ∙ ap (λ (d : Deed). events_at n first.state.containers d outer.line.text ++ others) apart.deed
    ∙ ap (λ (t : Remaining). events_at n first.state.containers first.line.deed t ++ others) apart.text
    ∙ append_assoc (leaves n) (events_at 0 first.state.containers first.line.deed first.line.text) others
    ∙ ap (λ (k : ℕ). leaves n ++ (events_at (0 - k) (drop k first.state.containers) first.line.deed first.line.text ++ others)) (sym apart.none)

first_flat : (container : Container) (outer inner : Step) → BeginsWithin container outer inner → map flat_event (step_events at_first outer) ≡ enter container ∷ map flat_event (step_events at_first inner)
first_flat container outer inner w =
    ap (λ (s : State). map flat_event (events_at (0 - outer.line.kept) (drop outer.line.kept s.containers) outer.line.deed outer.line.text)) w.state
    ∙ ap (λ (m : ℕ). map flat_event (events_at (0 - m) (drop m (container ∷ inner.state.containers)) outer.line.deed outer.line.text)) w.kept
    ∙ ap (λ (d : Deed). map flat_event (events_at 0 (container ∷ inner.state.containers) d outer.line.text)) w.deed
    ∙ ap (λ (es : List Event). enter container ∷ es) (text_flat [] (map enter inner.state.containers) inner.line.deed outer.line.text inner.line.text w.text)
    ∙ ap (λ (m : ℕ). enter container ∷ map flat_event (events_at (0 - m) (drop m inner.state.containers) inner.line.deed inner.line.text)) (sym w.none)

-- a container begins in the first line, which leaves one that is alike
pub record BeginsIn (container : Container) (text held : List ℕ) : Type 0 where
  pub rest : Remaining
  pub starts : container_start false (whole text) ≡ Some (record { container = container; rest = rest })
  pub alike : Alike rest (whole held)
  pub bare : SameBare container (step at_first held)

leaves_then : (n : ℕ) (events : List Event) → map flat_event (leaves (suc n) ++ events) ≡ map flat_event (leaves n) ++ leave ∷ map flat_event events
leaves_then zero events = refl
leaves_then (suc n) events = ap (λ (es : List Event). leave ∷ es) (leaves_then n events)

-- In a container happens what happens in the lines that it holds, between its beginning and its end, and then what happens in the text after it.
pub container_events : (container : Container) (text one : List ℕ) (texts held after : List (List ℕ)) → BeginsIn container text one → AllGoOn container (step at_first one).state texts held → rooms 63 (events_from at_first (one ∷ held)) ≡ true
    → IsOutside container (behind_lines at_first (one ∷ held)) after
    → map flat_event (events_from at_first (text ∷ (texts ++ after))) ≡ enter container ∷ (map flat_event (events_from at_first (one ∷ held)) ++ leave ∷ map flat_event (events_from at_first after))
unfolding events_from
container_events container text one texts held after b on h out =
    let next = room_at at_first one held 63 63 refl h in
    let outer = step at_first text in
    let inner = step at_first one in
    let w = first_within container text one b.rest b.starts b.alike next.few b.bare in
    let last = behind_lines inner.state held in
    let n = length last.containers in
    let lines = step_events at_first inner ++ happens inner.state held in
    map-append flat_event (step_events at_first outer) (events_from outer.state (texts ++ after))
    ∙ ap (λ (es : List Event). es ++ map flat_event (events_from outer.state (texts ++ after))) (first_flat container outer inner w)
    ∙ ap (λ (s : State). enter container ∷ (map flat_event (step_events at_first inner) ++ map flat_event (events_from s (texts ++ after)))) w.state
    ∙ ap (λ (es : List Event). enter container ∷ (map flat_event (step_events at_first inner) ++ es)) (held_events container texts held after inner.state next.room on next.counted next.others)
    ∙ ap (λ (es : List Event). enter container ∷ es) (then_flat (step_events at_first inner) (happens inner.state held) (map flat_event (events_from (within container last) after)))
    ∙ ap (λ (es : List Event). enter container ∷ (map flat_event lines ++ map flat_event es)) (outside container last after out)
    ∙ ap (λ (es : List Event). enter container ∷ (map flat_event lines ++ es)) (leaves_then n (events_from at_first after))
    ∙ ap (λ (es : List Event). enter container ∷ es) (then_flat lines (leaves n) (leave ∷ map flat_event (events_from at_first after)))
    ∙ ap (λ (es : List Event). enter container ∷ (map flat_event es ++ leave ∷ map flat_event (events_from at_first after)))
    (append_assoc (step_events at_first inner) (happens inner.state held) (leaves n) ∙ ap (λ (es : List Event). step_events at_first inner ++ es) (events_split held inner.state))

-- In a text that is a container happens what happens in the lines that it holds, between its beginning and its end.
pub all_container : (container : Container) (text one : List ℕ) (texts held : List (List ℕ)) → BeginsIn container text one → AllGoOn container (step at_first one).state texts held → rooms 63 (events_from at_first (one ∷ held)) ≡ true
    → map flat_event (events_from at_first (text ∷ texts)) ≡ enter container ∷ (map flat_event (events_from at_first (one ∷ held)) ++ leave ∷ [])
unfolding events_from
all_container container text one texts held b on h =
    ap (λ (ls : List (List ℕ)). map flat_event (events_from at_first (text ∷ ls))) (sym (append-nil texts)) ∙ container_events container text one texts held [] b on h tt

-- ---- what is told of it

-- events, and others after them
pub told_then : (xs ys : List Event) (g : Gathering) → told g (xs ++ ys) ≡ told (told g xs) ys
unfolding told
told_then [] ys g = refl
told_then (x ∷ xs) ys g = told_then xs ys (happened x g)

pub fits_flat : (depth : ℕ) (events : List Event) → fits depth (map flat_event events) ≡ fits depth events
fits_flat depth [] = refl
fits_flat zero (leave ∷ events) = refl
fits_flat (suc depth) (leave ∷ events) = fits_flat depth events
fits_flat depth (enter container ∷ events) = fits_flat (suc depth) events
fits_flat depth (line deed text ∷ events) = fits_flat depth events

closed_kind : (kind : Kind) (g : Gathering) → g.kind ≡ kind → (closed_as kind g).kind ≡ Nothing
closed_kind Nothing g e = e
closed_kind Paragraph g e = refl
closed_kind (Heading level) g e = refl
closed_kind Indented g e = refl
closed_kind Fenced g e = refl
closed_kind Html g e = refl
closed_kind (Table columns) g e = refl
closed_kind Rule g e = refl
closed_kind Definitions g e = refl

closed_again : (g h : Gathering) → h.kind ≡ (closed g).kind → closed h ≡ h
unfolding closed
closed_again g h e = ap (λ (k : Kind). closed_as k h) (e ∙ closed_kind g.kind g refl)

-- before the lines of a container that has begun
abbrev pub begun_in : Container → Gathering
begun_in container = record nothing_told { fresh = is_item container }

entered_first : (container : Container) → happened (enter container) nothing_told ≡ behind (begins container false ∷ []) (under container (begun_in container))
unfolding closed
entered_first container = refl

-- a container that begins and ends has these parts
container_told : (container : Container) (events : List Event) → fits 0 events ≡ true
    → ended nothing_told (enter container ∷ (events ++ leave ∷ [])) ≡ begins container false ∷ (ended (begun_in container) events ++ ends ∷ [])
unfolding told
container_told container events h =
    let front = begins container false ∷ [] in
    let inner = told (begun_in container) events in
    let around = under container inner in
    ap (λ (g : Gathering). ended g (events ++ leave ∷ [])) (entered_first container)
    ∙ ap (λ (g : Gathering). (closed g).parts) (told_then events (leave ∷ []) (behind front (under container (begun_in container))))
    ∙ ap (λ (g : Gathering). (closed (left_in (closed g))).parts) (told_behind events front (under container (begun_in container)))
    ∙ ap (λ (g : Gathering). (closed (left_in (closed (behind front g)))).parts) (told_under container events 0 (begun_in container) refl h)
    ∙ ap (λ (g : Gathering). (closed (left_in g)).parts) (closed_behind front around ∙ ap (behind front) (closed_under container inner))
    ∙ ap (λ (g : Gathering). g.parts) (closed_again inner (left_in (behind front (under container (closed inner)))) refl)

-- a container that has these parts alone, and then another text
pub container_then : (container : Container) (events others : List Event) (parts : List PartContent) → fits 0 events ≡ true → closed (told (begun_in container) events) ≡ nothing_open parts
    → ended nothing_told (enter container ∷ (events ++ leave ∷ others)) ≡ begins container false ∷ (parts ++ ends ∷ ended nothing_told others)
unfolding told
container_then container events others parts h e =
    let front = begins container false ∷ [] in
    let inner = told (begun_in container) events in
    ap (λ (g : Gathering). ended g (events ++ leave ∷ others)) (entered_first container)
    ∙ ap (λ (g : Gathering). (closed g).parts) (told_then events (leave ∷ others) (behind front (under container (begun_in container))))
    ∙ ap (λ (g : Gathering). ended (left_in (closed g)) others) (told_behind events front (under container (begun_in container)))
    ∙ ap (λ (g : Gathering). ended (left_in (closed (behind front g))) others) (told_under container events 0 (begun_in container) refl h)
    ∙ ap (λ (g : Gathering). ended (left_in g) others) (closed_behind front (under container inner) ∙ ap (behind front) (closed_under container inner))
    ∙ ap (λ (g : Gathering). ended (left_in (behind front (under container g))) others) e
    ∙ ended_behind ((front ++ parts) ++ ends ∷ []) others
    ∙ append_assoc (front ++ parts) (ends ∷ []) (ended nothing_told others)

-- what is told at the end, whatever column the lines stand at
pub ended_flat : (events : List Event) → map flat_part (ended nothing_told events) ≡ ended nothing_told (map flat_event events)
ended_flat events = sym (ap (λ (g : Gathering). g.parts) (closed_flat (told nothing_told events))) ∙ ap (λ (g : Gathering). (closed g).parts) (sym (told_flat events nothing_told))

-- A text that is a container is told as what it holds, between its beginning and its end.
pub container_read : (container : Container) (outer inner : List Event) → map flat_event outer ≡ enter container ∷ (map flat_event inner ++ leave ∷ []) → fits 0 inner ≡ true
    → ended (begun_in container) (map flat_event inner) ≡ ended nothing_told (map flat_event inner)
    → map spelled (ended nothing_told outer) ≡ begins container false ∷ (map spelled (ended nothing_told inner) ++ ends ∷ [])
container_read container outer inner e fit same =
    sym (spelled_flat (ended nothing_told outer)) ∙ ap (map spelled) (ended_flat outer ∙ ap (ended nothing_told) e ∙ container_told container (map flat_event inner) (fits_flat 0 inner ∙ fit))
    ∙ ap (λ (ps : List PartContent). begins container false ∷ ps) (map-append spelled (ended (begun_in container) (map flat_event inner)) (ends ∷ []))
    ∙ ap (λ (ps : List PartContent). begins container false ∷ (map spelled ps ++ ends ∷ [])) (same ∙ sym (ended_flat inner))
    ∙ ap (λ (ps : List PartContent). begins container false ∷ (ps ++ ends ∷ [])) (spelled_flat (ended nothing_told inner))
