-- A container ends at a line that does what the first line of a text does.
use Rattle.std.proofs.Common.{◌≡◌, ℕ, suc, ◌+◌, ◌-◌, true, List, [], ◌∷◌, ◌++◌, map, length, drop, refl, sym, ap, ◌∙◌, append_assoc, append-nil, arith}
use Rattle.std.proofs.lemmas.List.{map-append}
use Rattle.markdown_marks.specs.Remaining.{Remaining}
use Rattle.markdown_blocks.specs.Events.{Event, enter, leave, leaves, line, step_events, events_from}
use Rattle.markdown_blocks.specs.Steps.{State, step}
use Rattle.markdown_blocks.specs.declared.containers.Container.{Container}
use Rattle.markdown_blocks.specs.declared.leaves.Deed.{Deed}
use Rattle.markdown_blocks.proofs.ApartLemmas.{DoesApart}
use Rattle.markdown_blocks.proofs.WithinLemmas.{at_first, first_within, step_within, within}
use Rattle.markdown_laws.proofs.FlatLemmas.{flat_event}
use Rattle.markdown_laws.proofs.HeldLemmas.{AllGoOn, BeginsIn, all_container, behind_lines, happens}
use Rattle.markdown_laws.proofs.RoomLemmas.{room_at, rooms}

-- no line comes after, or one that does what the first line of a text does
abbrev pub IsAfter : Container → State → List (List ℕ) → Type 0
IsAfter container state [] = Unit {0}
IsAfter container state (text ∷ texts) = DoesApart (step (within container state) text) (step at_first text)

-- what happens in a line
abbrev events_at : ℕ → List Container → Deed → Remaining → List Event
events_at gone opens deed text = leaves gone ++ (map enter opens ++ line deed text ∷ [])

all_left : (n : ℕ) → n - 0 ≡ n
all_left n = omega arith

-- there all containers end, and another text is read
outside : (container : Container) (state : State) (after : List (List ℕ)) → IsAfter container state after → events_from (within container state) after ≡ leaves (suc (length state.containers)) ++ events_from at_first after
unfolding events_from
outside container state [] h = sym (append-nil (leaves (suc (length state.containers))))
outside container state (text ∷ texts) apart =
    let n = suc (length state.containers) in
    let outer = step (within container state) text in
    let first = step at_first text in
    let others = events_from first.state texts in
    ap (λ (s : State). events_at (n - outer.line.kept) (drop outer.line.kept s.containers) outer.line.deed outer.line.text ++ events_from s texts) apart.state
    ∙ ap (λ (k : ℕ). events_at (n - k) (drop k first.state.containers) outer.line.deed outer.line.text ++ others) apart.kept
    ∙ ap (λ (m : ℕ). events_at m first.state.containers outer.line.deed outer.line.text ++ others) (all_left n)
    ∙ ap (λ (d : Deed). events_at n first.state.containers d outer.line.text ++ others) apart.deed
    ∙ ap (λ (t : Remaining). events_at n first.state.containers first.line.deed t ++ others) apart.text
    ∙ append_assoc (leaves n) (events_at 0 first.state.containers first.line.deed first.line.text) others
    ∙ ap (λ (k : ℕ). leaves n ++ (events_at (0 - k) (drop k first.state.containers) first.line.deed first.line.text ++ others)) (sym apart.none)

events_then : (lines after : List (List ℕ)) (state : State) → events_from state (lines ++ after) ≡ happens state lines ++ events_from (behind_lines state lines) after
unfolding events_from
events_then [] after state = refl
events_then (text ∷ texts) after state =
    let done = step state text in
    ap (λ (es : List Event). step_events state done ++ es) (events_then texts after done.state) ∙ sym (append_assoc (step_events state done) (happens done.state texts) (events_from (behind_lines done.state texts) after))

-- lines behind which a container is open, and then what happens in the text after them
ends_before : (container : Container) (lines after : List (List ℕ)) (state : State) → behind_lines at_first lines ≡ within container state → IsAfter container state after
    → events_from at_first (lines ++ after) ≡ events_from at_first lines ++ events_from at_first after
unfolding events_from
ends_before container lines after state e behind =
    let n = suc (length state.containers) in
    events_then lines after at_first
    ∙ ap (λ (s : State). happens at_first lines ++ events_from s after) e
    ∙ ap (λ (es : List Event). happens at_first lines ++ es) (outside container state after behind)
    ∙ sym (append_assoc (happens at_first lines) (leaves n) (events_from at_first after))
    ∙ ap (λ (es : List Event). (happens at_first lines ++ es) ++ events_from at_first after) (sym (append-nil (leaves n)) ∙ sym (outside container state [] tt) ∙ ap (λ (s : State). events_from s []) (sym e))
    ∙ ap (λ (es : List Event). es ++ events_from at_first after) (sym (events_then lines [] at_first) ∙ ap (events_from at_first) (append-nil lines))

-- ---- the state behind the lines

behind_within : (container : Container) (lines held : List (List ℕ)) (state : State) (room : ℕ) → AllGoOn container state lines held → room + length state.containers ≡ 63 → rooms room (events_from state held) ≡ true
    → behind_lines (within container state) lines ≡ within container (behind_lines state held)
behind_within container [] [] state room on counted fits = refl
behind_within container (text ∷ texts) (one ∷ held) state room on counted fits =
    let next = room_at state one held room 63 counted fits in
    let w = step_within container state text one on.0.0 on.0.1 on.0.2 next.few in
    ap (λ (s : State). behind_lines s texts) w.state ∙ behind_within container texts held (step state one).state next.room on.1 next.counted next.others
behind_within container [] (one ∷ held) state room on counted fits = absurd on
behind_within container (text ∷ texts) [] state room on counted fits = absurd on

behind_first : (container : Container) (text one : List ℕ) (texts held : List (List ℕ)) → BeginsIn container text one → AllGoOn container (step at_first one).state texts held → rooms 63 (events_from at_first (one ∷ held)) ≡ true
    → behind_lines at_first (text ∷ texts) ≡ within container (behind_lines at_first (one ∷ held))
behind_first container text one texts held b on fits =
    let next = room_at at_first one held 63 63 refl fits in
    let w = first_within container text one b.rest b.starts b.alike next.few b.bare in
    ap (λ (s : State). behind_lines s texts) w.state ∙ behind_within container texts held (step at_first one).state next.room on next.counted next.others

-- in a container happens what happens in the lines that it holds, between its beginning and its end, and then what happens in the text after it
pub container_ends : (container : Container) (text one : List ℕ) (texts held after : List (List ℕ)) → BeginsIn container text one → AllGoOn container (step at_first one).state texts held → rooms 63 (events_from at_first (one ∷ held)) ≡ true
    → IsAfter container (behind_lines at_first (one ∷ held)) after
    → map flat_event (events_from at_first (text ∷ (texts ++ after))) ≡ enter container ∷ (map flat_event (events_from at_first (one ∷ held)) ++ leave ∷ map flat_event (events_from at_first after))
container_ends container text one texts held after b on fits behind =
    let others = map flat_event (events_from at_first after) in
    ap (map flat_event) (ends_before container (text ∷ texts) after (behind_lines at_first (one ∷ held)) (behind_first container text one texts held b on fits) behind)
    ∙ map-append flat_event (events_from at_first (text ∷ texts)) (events_from at_first after)
    ∙ ap (λ (es : List Event). es ++ others) (all_container container text one texts held b on fits)
    ∙ ap (λ (es : List Event). enter container ∷ es) (append_assoc (map flat_event (events_from at_first (one ∷ held))) (leave ∷ []) others)
