-- A container around all others changes nothing of what is told within it, but where it begins and ends.
use Rattle.std.proofs.Common.{◌≡◌, ℕ, zero, suc, ◌+◌, ◌-◌, ◌≤◌, Bool, true, false, List, [], ◌∷◌, ◌++◌, map, length, drop, refl, sym, ap, ◌∙◌, append_assoc, arith, length-drop}
use Rattle.markdown_marks.specs.Remaining.{Remaining}
use Rattle.markdown_blocks.specs.Events.{Event, leave, enter, line, leaves, line_events, step_events, events_from}
use Rattle.markdown_blocks.specs.Steps.{State, Step, step}
use Rattle.markdown_blocks.specs.declared.containers.Container.{Container}
use Rattle.markdown_blocks.specs.declared.leaves.Deed.{Deed}
use Rattle.markdown_blocks.specs.declared.leaves.Deed.TheVariants.{Blank, Begins, Html as HtmlDeed, GoesOn, Closes, Underlines, Tabulates, Heading as HeadingDeed, Rule as RuleDeed}
use Rattle.markdown_blocks.proofs.PlaceLemmas.{placed}
use Rattle.markdown_leaves.specs.Gather.{Gathering, closed_as, closed, begun_in, blank_in, entered_in, heading_line, left_in, line_done, kind_of, first_text, closed_as_it_is}
use Rattle.markdown_leaves.specs.Told.{happened, told}
use Rattle.markdown_leaves.specs.declared.parts.Kind.{Kind}
use Rattle.markdown_leaves.specs.declared.parts.Kind.TheVariants.{Nothing, Paragraph, Heading, Indented, Fenced, Html, Table, Rule, Definitions}

-- with this container around all others
abbrev pub under : Container → Gathering → Gathering
under container g = record g { around = g.around ++ container ∷ [] }

closed_under_as : (container : Container) (kind : Kind) (g : Gathering) → closed_as kind (under container g) ≡ under container (closed_as kind g)
closed_under_as container Nothing g = refl
closed_under_as container Paragraph g = refl
closed_under_as container (Heading level) g = refl
closed_under_as container Indented g = refl
closed_under_as container Fenced g = refl
closed_under_as container Html g = refl
closed_under_as container (Table columns) g = refl
closed_under_as container Rule g = refl
closed_under_as container Definitions g = refl

-- a leaf ends the same way
pub closed_under : (container : Container) (g : Gathering) → closed (under container g) ≡ under container (closed g)
unfolding closed
closed_under container g = closed_under_as container g.kind g

line_under : (container : Container) (deed : Deed) (text : Remaining) (g : Gathering) → line_done deed text (under container g) ≡ under container (line_done deed text g)
unfolding line_done
line_under container Blank text g = ap blank_in (closed_under container g)
line_under container (Begins leaf) text g = ap (begun_in (kind_of leaf) (first_text leaf text)) (closed_under container g)
line_under container HtmlDeed text g = ap (λ (h : Gathering). closed_as_it_is (begun_in Html text h)) (closed_under container g)
line_under container GoesOn text g = refl
line_under container Closes text g = closed_under container g
line_under container (Underlines level) text g = refl
line_under container (Tabulates columns) text g = refl
line_under container (HeadingDeed level) text g = ap (λ (h : Gathering). closed_as_it_is (begun_in (Heading level) (heading_line text) h)) (closed_under container g)
line_under container RuleDeed text g = ap (λ (h : Gathering). closed_as_it_is (begun_in Rule text h)) (closed_under container g)

-- no more containers end than so many that are open before, and those that begin
abbrev pub fits : ℕ → List Event → Bool
fits depth [] = true
fits zero (leave ∷ events) = false
fits (suc depth) (leave ∷ events) = fits depth events
fits depth (enter container ∷ events) = fits (suc depth) events
fits depth (line deed text ∷ events) = fits depth events

closed_around_as : (kind : Kind) (g : Gathering) → (closed_as kind g).around ≡ g.around
closed_around_as Nothing g = refl
closed_around_as Paragraph g = refl
closed_around_as (Heading level) g = refl
closed_around_as Indented g = refl
closed_around_as Fenced g = refl
closed_around_as Html g = refl
closed_around_as (Table columns) g = refl
closed_around_as Rule g = refl
closed_around_as Definitions g = refl

closed_around : (g : Gathering) → (closed g).around ≡ g.around
unfolding closed
closed_around g = closed_around_as g.kind g

line_around : (deed : Deed) (text : Remaining) (g : Gathering) → (line_done deed text g).around ≡ g.around
unfolding line_done
line_around Blank text g = closed_around g
line_around (Begins leaf) text g = closed_around g
line_around HtmlDeed text g = closed_around g
line_around GoesOn text g = refl
line_around Closes text g = closed_around g
line_around (Underlines level) text g = refl
line_around (Tabulates columns) text g = refl
line_around (HeadingDeed level) text g = closed_around g
line_around RuleDeed text g = closed_around g

-- with these containers around it
abbrev with_around : Gathering → List Container → Gathering
with_around g around = record g { around = around }

left_under : (container inner : Container) (outer : List Container) (g : Gathering) → left_in (under container (with_around g (inner ∷ outer))) ≡ under container (left_in (with_around g (inner ∷ outer)))
left_under container inner outer g = refl

leave_under : (container : Container) (depth : ℕ) (around : List Container) (g : Gathering) → g.around ≡ around → length around ≡ suc depth → left_in (under container g) ≡ under container (left_in g)
leave_under container depth [] g e n = absurd (omega (arith, n))
leave_under container depth (inner ∷ outer) g e n = ap (λ (cs : List Container). left_in (under container (with_around g cs))) e ∙ ap (λ (cs : List Container). under container (left_in (with_around g cs))) (sym e)

left_length : (depth : ℕ) (around : List Container) → length around ≡ suc depth → length (drop 1 around) ≡ depth
left_length depth [] n = omega (arith, n)
left_length depth (inner ∷ outer) n = omega (arith, n)

-- events tell the same within a container, as long as it doesn't end
pub told_under : (container : Container) (events : List Event) (depth : ℕ) (g : Gathering) → length g.around ≡ depth → fits depth events ≡ true → told (under container g) events ≡ under container (told g events)
unfolding told
told_under container [] depth g n h = refl
told_under container (leave ∷ events) zero g n h = let no : false ≡ true = h in absurd (cc)
told_under container (leave ∷ events) (suc depth) g n h =
    let around = closed_around g in
    ap (λ (x : Gathering). told (left_in x) events) (closed_under container g)
    ∙ ap (λ (x : Gathering). told x events) (leave_under container depth g.around (closed g) around n)
    ∙ told_under container events depth (left_in (closed g)) (ap (λ (cs : List Container). length (drop 1 cs)) around ∙ left_length depth g.around n) h
told_under container (enter inner ∷ events) depth g n h =
    ap (λ (x : Gathering). told (entered_in inner x) events) (closed_under container g)
    ∙ told_under container events (suc depth) (entered_in inner (closed g)) (ap (λ (cs : List Container). length (inner ∷ cs)) (closed_around g) ∙ ap suc n) h
told_under container (line deed text ∷ events) depth g n h =
    ap (λ (x : Gathering). told (record x { fresh = false }) events) (line_under container deed text g)
    ∙ told_under container events depth (record (line_done deed text g) { fresh = false }) (ap length (line_around deed text g) ∙ n) h

-- ---- containers end only where they are depth

fits_leaves : (k depth : ℕ) (events : List Event) → k ≤ depth → fits depth (leaves k ++ events) ≡ fits (depth - k) events
fits_leaves zero depth events h = ap (λ (n : ℕ). fits n events) (omega arith)
fits_leaves (suc k) zero events h = absurd (omega (arith, h))
fits_leaves (suc k) (suc depth) events h = fits_leaves k depth events (omega (arith, h)) ∙ ap (λ (n : ℕ). fits n events) (omega arith)

fits_enters : (containers : List Container) (depth : ℕ) (events : List Event) → fits depth (map enter containers ++ events) ≡ fits (length containers + depth) events
fits_enters [] depth events = ap (λ (n : ℕ). fits n events) (omega arith)
fits_enters (c ∷ cs) depth events = fits_enters cs (suc depth) events ∙ ap (λ (n : ℕ). fits n events) (omega arith)

-- the events of a line, and those after them
pub line_then : (k : ℕ) (opens : List Container) (deed : Deed) (text : Remaining) (events : List Event)
    → (leaves k ++ (map enter opens ++ line deed text ∷ [])) ++ events ≡ leaves k ++ (map enter opens ++ line deed text ∷ events)
line_then k opens deed text events =
    append_assoc (leaves k) (map enter opens ++ line deed text ∷ []) events ∙ ap (λ (es : List Event). leaves k ++ es) (append_assoc (map enter opens) (line deed text ∷ []) events)

leaves_end : (n : ℕ) → fits n (leaves n) ≡ true
leaves_end zero = refl
leaves_end (suc n) = leaves_end n

-- so it is in every text
pub fits_from : (lines : List (List ℕ)) (state : State) → fits (length state.containers) (events_from state lines) ≡ true
unfolding events_from
fits_from [] state = leaves_end (length state.containers)
fits_from (text ∷ texts) state =
    let done = step state text in
    let place = placed state text in
    let before = length state.containers in
    let opens = drop done.line.kept done.state.containers in
    let others = events_from done.state texts in
    ap (fits before) (line_then (before - done.line.kept) opens done.line.deed done.line.text others)
    ∙ fits_leaves (before - done.line.kept) before (map enter opens ++ line done.line.deed done.line.text ∷ others) (omega arith)
    ∙ fits_enters opens (before - (before - done.line.kept)) (line done.line.deed done.line.text ∷ others)
    ∙ ap (λ (n : ℕ). fits n others) (omega (arith, length-drop done.line.kept done.state.containers, place.within, place.counted))
    ∙ fits_from texts done.state
