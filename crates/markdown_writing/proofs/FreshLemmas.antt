-- Where a line isn't blank, it doesn't matter whether an item began in front of it, whatever is told before.
use Rattle.std.proofs.Common.{◌≡◌, ℕ, ◌-◌, Bool, true, false, ◌||◌, List, [], ◌∷◌, ◌++◌, map, drop, refl, sym, ap, ◌∙◌, arith}
use Rattle.markdown_marks.specs.Remaining.{Remaining}
use Rattle.markdown_blocks.specs.Events.{Event, enter, events_from, leaves, line}
use Rattle.markdown_blocks.specs.Steps.{step}
use Rattle.markdown_blocks.specs.declared.containers.Container.{Container}
use Rattle.markdown_blocks.specs.declared.containers.Container.TheVariants.{Item, Quote}
use Rattle.markdown_blocks.specs.declared.leaves.Deed.{Deed}
use Rattle.markdown_blocks.specs.declared.leaves.Deed.TheVariants.{Begins, Blank, Closes, GoesOn, Heading as HeadingDeed, Html as HtmlDeed, Rule as RuleDeed, Tabulates, Underlines}
use Rattle.markdown_blocks.proofs.FirstLemmas.{IsFull, any_item, is_filled}
use Rattle.markdown_blocks.proofs.PlaceLemmas.{placed}
use Rattle.markdown_blocks.proofs.WithinLemmas.{at_first}
use Rattle.markdown_leaves.specs.Gather.{Gathering, begun_in, closed, closed_as, closed_as_it_is, entered_in, first_text, heading_line, kind_of, line_done}
use Rattle.markdown_leaves.specs.Told.{told}
use Rattle.markdown_leaves.specs.declared.parts.Kind.{Kind}
use Rattle.markdown_leaves.specs.declared.parts.Kind.TheVariants.{Definitions, Fenced, Heading, Html, Indented, Nothing, Paragraph, Rule, Table}
use Rattle.markdown_laws.proofs.AroundLemmas.{line_then}
use Rattle.markdown_laws.proofs.FlatLemmas.{flat, flat_event}

-- whether an item began in the line
abbrev pub with_fresh : Gathering → Bool → Gathering
with_fresh g fresh = record g { fresh = fresh }

closed_fresh_as : (kind : Kind) (g : Gathering) (t : Bool) → closed_as kind (with_fresh g t) ≡ with_fresh (closed_as kind g) t
closed_fresh_as Nothing g t = refl
closed_fresh_as Paragraph g t = refl
closed_fresh_as (Heading level) g t = refl
closed_fresh_as Indented g t = refl
closed_fresh_as Fenced g t = refl
closed_fresh_as Html g t = refl
closed_fresh_as (Table columns) g t = refl
closed_fresh_as Rule g t = refl
closed_fresh_as Definitions g t = refl

closed_fresh : (g : Gathering) (t : Bool) → closed (with_fresh g t) ≡ with_fresh (closed g) t
unfolding closed
closed_fresh g t = closed_fresh_as g.kind g t

line_fresh : (deed : Deed) (text : Remaining) (g : Gathering) (t : Bool) → is_filled deed ≡ true → with_fresh (line_done deed text (with_fresh g t)) false ≡ with_fresh (line_done deed text g) false
unfolding line_done
line_fresh Blank text g t h = let no : false ≡ true = h in absurd (cc)
line_fresh (Begins leaf) text g t h = ap (λ (x : Gathering). with_fresh (begun_in (kind_of leaf) (first_text leaf text) x) false) (closed_fresh g t)
line_fresh HtmlDeed text g t h = ap (λ (x : Gathering). with_fresh (closed_as_it_is (begun_in Html text x)) false) (closed_fresh g t)
line_fresh GoesOn text g t h = refl
line_fresh Closes text g t h = ap (λ (x : Gathering). with_fresh x false) (closed_fresh g t)
line_fresh (Underlines level) text g t h = refl
line_fresh (Tabulates columns) text g t h = refl
line_fresh (HeadingDeed level) text g t h = ap (λ (x : Gathering). with_fresh (closed_as_it_is (begun_in (Heading level) (heading_line text) x)) false) (closed_fresh g t)
line_fresh RuleDeed text g t h = ap (λ (x : Gathering). with_fresh (closed_as_it_is (begun_in Rule text x)) false) (closed_fresh g t)

or_true : (t : Bool) → (t || true) ≡ true
or_true true = refl
or_true false = refl

enters_fresh : (containers : List Container) (deed : Deed) (text : Remaining) (events : List Event) (g : Gathering) (t : Bool) → (any_item containers || is_filled deed) ≡ true
    → told (with_fresh g t) (map enter containers ++ line deed text ∷ events) ≡ told (with_fresh g false) (map enter containers ++ line deed text ∷ events)
unfolding told
enters_fresh [] deed text events g t h = ap (λ (x : Gathering). told x events) (line_fresh deed text g t h ∙ sym (line_fresh deed text g false h))
enters_fresh (Quote ∷ cs) deed text events g t h =
    let others = map enter cs ++ line deed text ∷ events in
    ap (λ (x : Gathering). told (entered_in Quote x) others) (closed_fresh g t)
    ∙ enters_fresh cs deed text events (entered_in Quote (closed g)) (t || false) h
    ∙ ap (λ (x : Gathering). told (entered_in Quote x) others) (sym (closed_fresh g false))
enters_fresh (Item sign number content ∷ cs) deed text events g t h =
    let others = map enter cs ++ line deed text ∷ events in
    let begun = entered_in (Item sign number content) (closed g) in
    ap (λ (x : Gathering). told (entered_in (Item sign number content) x) others) (closed_fresh g t)
    ∙ ap (λ (u : Bool). told (with_fresh begun u) others) (or_true t)
    ∙ ap (λ (x : Gathering). told (entered_in (Item sign number content) x) others) (sym (closed_fresh g false))

flat_then : (containers : List Container) (deed : Deed) (text : Remaining) (events : List Event)
    → map flat_event (map enter containers ++ line deed text ∷ events) ≡ map enter containers ++ line deed (flat text) ∷ map flat_event events
flat_then [] deed text events = refl
flat_then (c ∷ cs) deed text events = ap (λ (es : List Event). enter c ∷ es) (flat_then cs deed text events)

first_then : (text : List ℕ) (texts : List (List ℕ)) → events_from at_first (text ∷ texts) ≡ map enter (step at_first text).state.containers ++ line (step at_first text).line.deed (step at_first text).line.text ∷ events_from (step at_first text).state texts
unfolding events_from
first_then text texts =
    let done = step at_first text in
    let none : done.line.kept ≡ 0 = omega (arith, (placed at_first text).within) in
    let others = events_from done.state texts in
    line_then (0 - done.line.kept) (drop done.line.kept done.state.containers) done.line.deed done.line.text others
    ∙ ap (λ (k : ℕ). leaves (0 - k) ++ (map enter (drop k done.state.containers) ++ line done.line.deed done.line.text ∷ others)) none

-- so it is of a text whose first line is no blank one
pub told_fresh : (text : List ℕ) (texts : List (List ℕ)) (g : Gathering) → IsFull (step at_first text)
    → told (with_fresh g true) (map flat_event (events_from at_first (text ∷ texts))) ≡ told (with_fresh g false) (map flat_event (events_from at_first (text ∷ texts)))
told_fresh text texts g h =
    let done = step at_first text in
    let events = map enter done.state.containers ++ line done.line.deed (flat done.line.text) ∷ map flat_event (events_from done.state texts) in
    let are : map flat_event (events_from at_first (text ∷ texts)) ≡ events = ap (map flat_event) (first_then text texts) ∙ flat_then done.state.containers done.line.deed done.line.text (events_from done.state texts) in
    ap (told (with_fresh g true)) are
    ∙ enters_fresh done.state.containers done.line.deed (flat done.line.text) (map flat_event (events_from done.state texts)) g true h
    ∙ ap (told (with_fresh g false)) (sym are)
