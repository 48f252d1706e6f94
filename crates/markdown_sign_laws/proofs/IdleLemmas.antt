-- Behind a text all containers have ended, and no item begins.
use Rattle.std.proofs.Common.{◌≡◌, ℕ, zero, suc, ◌+◌, ◌-◌, false, List, [], ◌∷◌, ◌++◌, map, length, drop, refl, sym, ap, subst, ◌∙◌, arith, length-drop}
use Rattle.markdown_marks.specs.Remaining.{Remaining}
use Rattle.markdown_blocks.specs.Events.{leave, enter, line, leaves, step_events, events_from}
use Rattle.markdown_blocks.specs.Steps.{State, step}
use Rattle.markdown_blocks.specs.declared.containers.Container.{Container}
use Rattle.markdown_blocks.specs.declared.leaves.Deed.{Deed}
use Rattle.markdown_blocks.specs.declared.leaves.Deed.TheVariants.{Blank, Begins, Html as HtmlDeed, GoesOn, Closes, Underlines, Tabulates, Heading as HeadingDeed, Rule as RuleDeed}
use Rattle.markdown_blocks.proofs.PlaceLemmas.{placed}
use Rattle.markdown_leaves.specs.Gather.{Gathering, closed, closed_as, line_done}
use Rattle.markdown_leaves.specs.Told.{happened, told}
use Rattle.markdown_leaves.specs.declared.parts.Kind.{Kind}
use Rattle.markdown_leaves.specs.declared.parts.Kind.TheVariants.{Nothing, Paragraph, Heading, Indented, Fenced, Html, Table, Rule, Definitions}
use Rattle.markdown_laws.proofs.HeldLemmas.{told_then}

-- ---- a leaf ends

closed_around_as : (kind : Kind) (g : Gathering) → (closed_as kind g).around ≡ g.around
closed_around_as Nothing g = refl
closed_around_as Paragraph g = refl
closed_around_as (Heading level) g = refl
closed_around_as Indented g = refl
closed_around_as Fenced g = refl
closed_around_as Html g = refl
closed_around_as (Table columns) g = refl
closed_around_as Rule g = refl
closed_around_as Definitions g = refl

pub closed_around : (g : Gathering) → (closed g).around ≡ g.around
unfolding closed
closed_around g = closed_around_as g.kind g

closed_fresh_as : (kind : Kind) (g : Gathering) → (closed_as kind g).fresh ≡ g.fresh
closed_fresh_as Nothing g = refl
closed_fresh_as Paragraph g = refl
closed_fresh_as (Heading level) g = refl
closed_fresh_as Indented g = refl
closed_fresh_as Fenced g = refl
closed_fresh_as Html g = refl
closed_fresh_as (Table columns) g = refl
closed_fresh_as Rule g = refl
closed_fresh_as Definitions g = refl

pub closed_fresh : (g : Gathering) → (closed g).fresh ≡ g.fresh
unfolding closed
closed_fresh g = closed_fresh_as g.kind g

closed_kind_as : (kind : Kind) (g : Gathering) → g.kind ≡ kind → (closed_as kind g).kind ≡ Nothing
closed_kind_as Nothing g e = e
closed_kind_as Paragraph g e = refl
closed_kind_as (Heading level) g e = refl
closed_kind_as Indented g e = refl
closed_kind_as Fenced g e = refl
closed_kind_as Html g e = refl
closed_kind_as (Table columns) g e = refl
closed_kind_as Rule g e = refl
closed_kind_as Definitions g e = refl

pub closed_kind : (g : Gathering) → (closed g).kind ≡ Nothing
unfolding closed
closed_kind g = closed_kind_as g.kind g refl

-- ---- containers that are open

line_around : (deed : Deed) (text : Remaining) (g : Gathering) → (line_done deed text g).around ≡ g.around
unfolding line_done
line_around Blank text g = closed_around g
line_around (Begins leaf) text g = closed_around g
line_around HtmlDeed text g = closed_around g
line_around GoesOn text g = refl
line_around Closes text g = closed_around g
line_around (Underlines level) text g = refl
line_around (Tabulates columns) text g = refl
line_around (HeadingDeed level) text g = closed_around g
line_around RuleDeed text g = closed_around g

leave_around : (g : Gathering) → length (happened leave g).around ≡ length g.around - 1
leave_around g = ap (λ (cs : List Container). length (drop 1 cs)) (closed_around g) ∙ length-drop 1 g.around

none_less : (n : ℕ) → n ≡ n - 0
none_less n = omega arith

one_less : (n k : ℕ) → n - 1 - k ≡ n - suc k
one_less n k = omega arith

leaves_around : (k : ℕ) (g : Gathering) → length (told g (leaves k)).around ≡ length g.around - k
unfolding told
leaves_around zero g = none_less (length g.around)
leaves_around (suc k) g = leaves_around k (happened leave g) ∙ ap (λ (n : ℕ). n - k) (leave_around g) ∙ one_less (length g.around) k

one_further : (n k : ℕ) → n + suc k ≡ suc n + k
one_further n k = omega arith

no_further : (n : ℕ) → n ≡ 0 + n
no_further n = omega arith

enters_around : (containers : List Container) (g : Gathering) → length (told g (map enter containers)).around ≡ length containers + length g.around
unfolding told
enters_around [] g = no_further (length g.around)
enters_around (c ∷ cs) g =
    enters_around cs (happened (enter c) g) ∙ ap (λ (outer : List Container). length cs + length (c ∷ outer)) (closed_around g) ∙ one_further (length cs) (length g.around)

leaves_fresh : (k : ℕ) (g : Gathering) → (told g (leaves k)).fresh ≡ g.fresh
unfolding told
leaves_fresh zero g = refl
leaves_fresh (suc k) g = leaves_fresh k (happened leave g) ∙ closed_fresh g

-- ---- lines

-- so many containers are open, and no item began
pub record IsIdle (g : Gathering) (count : ℕ) : Type 0 where
  pub counted : length g.around ≡ count
  pub fresh : g.fresh ≡ false

-- what a line does
line_alone : (deed : Deed) (text : Remaining) (g : Gathering) → IsIdle (told g (line deed text ∷ [])) (length g.around)
unfolding told
line_alone deed text g = record { counted = ap length (line_around deed text g); fresh = refl }

step_idle : (state : State) (text : List ℕ) (g : Gathering) → IsIdle g (length state.containers) → IsIdle (told g (step_events state (step state text))) (length (step state text).state.containers)
step_idle state text g i =
    let done = step state text in
    let place = placed state text in
    let gone = length state.containers - done.line.kept in
    let begun = drop done.line.kept done.state.containers in
    let last = line done.line.deed done.line.text ∷ [] in
    let before = told (told g (leaves gone)) (map enter begun) in
    let all : told g (leaves gone ++ (map enter begun ++ last)) ≡ told before last = told_then (leaves gone) (map enter begun ++ last) g ∙ told_then (map enter begun) last (told g (leaves gone)) in
    let counted : length before.around ≡ length done.state.containers =
    enters_around begun (told g (leaves gone)) ∙ ap (λ (n : ℕ). length begun + n) (leaves_around gone g)
    ∙ omega (arith, length-drop done.line.kept done.state.containers, place.within, place.counted, i.counted) in
    subst (λ (h : Gathering). IsIdle h (length done.state.containers)) (sym all) (subst (IsIdle (told before last)) counted (line_alone done.line.deed done.line.text before))

nothing_left : (n m : ℕ) → n ≡ m → n - m ≡ 0
nothing_left n m e = omega (arith, e)

-- behind these lines none is open
pub lines_idle : (lines : List (List ℕ)) (state : State) (g : Gathering) → IsIdle g (length state.containers) → IsIdle (told g (events_from state lines)) 0
unfolding events_from
lines_idle [] state g i = record {
  counted = leaves_around (length state.containers) g ∙ nothing_left (length g.around) (length state.containers) i.counted;
  fresh = leaves_fresh (length state.containers) g ∙ i.fresh;
}
lines_idle (text ∷ texts) state g i =
    let done = step state text in
    subst (λ (h : Gathering). IsIdle h 0) (sym (told_then (step_events state done) (events_from done.state texts) g))
    (lines_idle texts done.state (told g (step_events state done)) (step_idle state text g i))
