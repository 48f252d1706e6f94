-- Where containers have room in the parts of a text, each of its lines leaves few enough of them open.
use Rattle.std.proofs.Common.{◌≡◌, ℕ, zero, suc, ◌+◌, ◌-◌, ◌≤◌, Bool, true, false, ◌&&◌, ◌==◌, List, [], ◌∷◌, ◌++◌, map, length, take, drop, refl, sym, ap, subst, ◌∙◌, append_assoc, append-nil, arith, length-drop, if◌then◌else◌}
use Rattle.markdown_marks.specs.Remaining.{Remaining}
use Rattle.markdown_blocks.specs.Events.{Event, leave, enter, line, leaves, line_events, step_events, events_from}
use Rattle.markdown_blocks.specs.Steps.{State, Step, step}
use Rattle.markdown_blocks.specs.declared.containers.Container.{Container}
use Rattle.markdown_blocks.specs.declared.leaves.Deed.{Deed}
use Rattle.markdown_blocks.specs.declared.leaves.Deed.TheVariants.{Blank, Begins, Html as HtmlDeed, GoesOn, Closes, Underlines, Tabulates, Heading as HeadingDeed, Rule as RuleDeed}
use Rattle.markdown_blocks.proofs.PlaceLemmas.{placed}
use Rattle.markdown_leaves.specs.Defining.{cut_lines}
use Rattle.markdown_leaves.specs.Gather.{Gathering, add_unless_empty, add_words, closed_as, closed, entered_in, left_in, line_done}
use Rattle.markdown_leaves.specs.Parts.{BlockContent, PartContent, begins, ends, block}
use Rattle.markdown_leaves.specs.Told.{happened, told}
use Rattle.markdown_leaves.specs.declared.parts.Kind.{Kind}
use Rattle.markdown_leaves.specs.declared.parts.Kind.TheVariants.{Nothing, Paragraph, Heading, Indented, Fenced, Html, Table, Rule, Definitions}
use Rattle.markdown_laws.specs.Quotes.{has_room}
use Rattle.markdown_laws.proofs.AroundLemmas.{line_then}
use Rattle.markdown_laws.proofs.BehindLemmas.{behind, closed_behind, told_behind}
use Rattle.markdown_laws.proofs.FenceLemmas.{ended}

-- these parts are leaves alone
abbrev AreLeaves : List PartContent → Type 0
AreLeaves [] = Unit {0}
AreLeaves (block leaf ∷ parts) = AreLeaves parts
AreLeaves (begins container apart ∷ parts) = ⊥
AreLeaves (ends ∷ parts) = ⊥

-- leaves take no room
room_behind : (room : ℕ) (leaves others : List PartContent) → AreLeaves leaves → has_room room (leaves ++ others) ≡ has_room room others
room_behind room [] others h = refl
room_behind room (block leaf ∷ parts) others h = room_behind room parts others h
room_behind room (begins container apart ∷ parts) others h = absurd h
room_behind room (ends ∷ parts) others h = absurd h

add_leaf : (parts : List PartContent) (leaf : BlockContent) → AreLeaves parts → AreLeaves (parts ++ block leaf ∷ [])
add_leaf [] leaf h = tt
add_leaf (block other ∷ parts) leaf h = add_leaf parts leaf h
add_leaf (begins container apart ∷ parts) leaf h = absurd h
add_leaf (ends ∷ parts) leaf h = absurd h

by_either : (t : Bool) (xs ys : List PartContent) → AreLeaves xs → AreLeaves ys → AreLeaves (if t then xs else ys)
by_either true xs ys f g = f
by_either false xs ys f g = g

unless_leaves : (kind : Kind) (apart : Bool) (lines : List Remaining) (parts : List PartContent) → AreLeaves parts → AreLeaves (add_unless_empty kind apart lines parts)
unless_leaves kind apart lines parts h = by_either (length lines == 0) parts _ h (add_leaf parts _ h)

words_leaves : (kind : Kind) (apart : Bool) (lines : List Remaining) (parts : List PartContent) → AreLeaves parts → AreLeaves (add_words kind apart lines parts)
words_leaves kind apart lines parts h =
    let cut = cut_lines lines in
    unless_leaves kind (apart && (cut == 0)) (drop cut lines) (add_unless_empty Definitions apart (take cut lines) parts) (unless_leaves Definitions apart (take cut lines) parts h)

closed_leaves_as : (kind : Kind) (g : Gathering) → AreLeaves g.parts → AreLeaves (closed_as kind g).parts
closed_leaves_as Nothing g h = h
closed_leaves_as Paragraph g h = words_leaves Paragraph g.apart g.lines g.parts h
closed_leaves_as (Heading level) g h = add_leaf g.parts _ h
closed_leaves_as Indented g h = add_leaf g.parts _ h
closed_leaves_as Fenced g h = add_leaf g.parts _ h
closed_leaves_as Html g h = add_leaf g.parts _ h
closed_leaves_as (Table columns) g h = add_leaf g.parts _ h
closed_leaves_as Rule g h = add_leaf g.parts _ h
closed_leaves_as Definitions g h = add_leaf g.parts _ h

closed_leaves : (g : Gathering) → AreLeaves g.parts → AreLeaves (closed g).parts
unfolding closed
closed_leaves g h = closed_leaves_as g.kind g h

line_leaves : (deed : Deed) (text : Remaining) (g : Gathering) → AreLeaves g.parts → AreLeaves (line_done deed text g).parts
unfolding line_done
line_leaves Blank text g h = closed_leaves g h
line_leaves (Begins leaf) text g h = closed_leaves g h
line_leaves HtmlDeed text g h = add_leaf (closed g).parts _ (closed_leaves g h)
line_leaves GoesOn text g h = h
line_leaves Closes text g h = closed_leaves g h
line_leaves (Underlines level) text g h = words_leaves (Heading level) g.apart g.lines g.parts h
line_leaves (Tabulates columns) text g h = words_leaves Paragraph g.apart (take (length g.lines - 1) g.lines) g.parts h
line_leaves (HeadingDeed level) text g h = add_leaf (closed g).parts _ (closed_leaves g h)
line_leaves RuleDeed text g h = add_leaf (closed g).parts _ (closed_leaves g h)

-- ---- the room that events leave

-- so many containers may begin one in the other
abbrev pub rooms : ℕ → List Event → Bool
rooms room [] = true
rooms room (leave ∷ events) = rooms (suc room) events
rooms zero (enter container ∷ events) = false
rooms (suc room) (enter container ∷ events) = rooms room events
rooms room (line deed text ∷ events) = rooms room events

-- without the parts that were told
abbrev none_told : Gathering → Gathering
none_told g = record g { parts = [] }

ended_apart : (g : Gathering) (events : List Event) → ended g events ≡ g.parts ++ ended (none_told g) events
ended_apart g events =
    ap (λ (ps : List PartContent). ended (record g { parts = ps }) events) (sym (append-nil g.parts))
    ∙ ap (λ (h : Gathering). (closed h).parts) (told_behind events g.parts (none_told g))
    ∙ ap (λ (h : Gathering). h.parts) (closed_behind g.parts (told (none_told g) events))

begins_room : (room : ℕ) (container : Container) (apart : Bool) (parts : List PartContent) (events : List Event) → has_room room (begins container apart ∷ parts) ≡ true
    → ((r : ℕ) → has_room r parts ≡ true → rooms r events ≡ true) → rooms room (enter container ∷ events) ≡ true
begins_room zero container apart parts events h on = h
begins_room (suc room) container apart parts events h on = on room h

-- events leave as much room as the parts that they tell
pub rooms_of : (events : List Event) (room : ℕ) (g : Gathering) → g.parts ≡ [] → has_room room (ended g events) ≡ true → rooms room events ≡ true
unfolding told
rooms_of [] room g none h = refl
rooms_of (leave ∷ events) room g none h =
    let after = left_in (closed g) in
    let leaves_are : AreLeaves (closed g).parts = closed_leaves g (subst AreLeaves (sym none) tt) in
    rooms_of events (suc room) (none_told after) refl
    (sym (ap (has_room room) (ended_apart after events ∙ append_assoc (closed g).parts (ends ∷ []) (ended (none_told after) events)) ∙ room_behind room (closed g).parts (ends ∷ ended (none_told after) events) leaves_are) ∙ h)
rooms_of (enter container ∷ events) room g none h =
    let after = entered_in container (closed g) in
    let leaves_are : AreLeaves (closed g).parts = closed_leaves g (subst AreLeaves (sym none) tt) in
    begins_room room container (closed g).passed (ended (none_told after) events) events
    (sym (ap (has_room room) (ended_apart after events ∙ append_assoc (closed g).parts (begins container (closed g).passed ∷ []) (ended (none_told after) events)) ∙ room_behind room (closed g).parts (begins container (closed g).passed ∷ ended (none_told after) events) leaves_are) ∙ h)
    (λ r k. rooms_of events r (none_told after) refl k)
rooms_of (line deed text ∷ events) room g none h =
    let after = record (line_done deed text g) { fresh = false } in
    let leaves_are : AreLeaves (line_done deed text g).parts = line_leaves deed text g (subst AreLeaves (sym none) tt) in
    rooms_of events room (none_told after) refl (sym (ap (has_room room) (ended_apart after events) ∙ room_behind room after.parts (ended (none_told after) events) leaves_are) ∙ h)

rooms_leaves : (k room : ℕ) (events : List Event) → rooms room (leaves k ++ events) ≡ rooms (k + room) events
rooms_leaves zero room events = ap (λ (n : ℕ). rooms n events) (omega arith)
rooms_leaves (suc k) room events = rooms_leaves k (suc room) events ∙ ap (λ (n : ℕ). rooms n events) (omega arith)

-- so much room is left behind containers that begin
rooms_enters : (containers : List Container) (room : ℕ) (events : List Event) → rooms room (map enter containers ++ events) ≡ true → (length containers ≤ room) × (rooms (room - length containers) events ≡ true)
rooms_enters [] room events h = (omega arith, subst (λ (n : ℕ). rooms n events ≡ true) (omega arith) h)
rooms_enters (c ∷ cs) zero events h = let no : false ≡ true = h in absurd (cc)
rooms_enters (c ∷ cs) (suc room) events h =
    let more = rooms_enters cs room events h in
    (omega (arith, more.0), subst (λ (n : ℕ). rooms n events ≡ true) (omega arith) more.1)

-- the first line leaves few containers open, and the others have room
pub record HasRoom (state : State) (text : List ℕ) (texts : List (List ℕ)) (most : ℕ) : Type 0 where
  pub few : length (step state text).state.containers ≤ most
  pub room : ℕ
  pub counted : room + length (step state text).state.containers ≡ most
  pub others : rooms room (events_from (step state text).state texts) ≡ true

pub room_at : (state : State) (text : List ℕ) (texts : List (List ℕ)) (room most : ℕ) → room + length state.containers ≡ most → rooms room (events_from state (text ∷ texts)) ≡ true → HasRoom state text texts most
unfolding events_from
room_at state text texts room most counted h =
    let done = step state text in
    let place = placed state text in
    let gone = length state.containers - done.line.kept in
    let opens = drop done.line.kept done.state.containers in
    let others = events_from done.state texts in
    let begun = rooms_enters opens (gone + room) (line done.line.deed done.line.text ∷ others)
    (sym (ap (rooms room) (line_then gone opens done.line.deed done.line.text others) ∙ rooms_leaves gone room (map enter opens ++ line done.line.deed done.line.text ∷ others)) ∙ h) in
    let many = length-drop done.line.kept done.state.containers in
    record {
      few = omega (arith, begun.0, many, place.within, place.counted, counted);
      room = (gone + room) - length opens;
      counted = omega (arith, begun.0, many, place.within, place.counted, counted);
      others = begun.1;
    }
