-- Where the containers are after each line.
use Rattle.std.proofs.Common.{◌≡◌, ℕ, zero, suc, ◌≤◌, ◌+◌, ◌-◌, Bool, true, false, not, ◌&&◌, ◌==◌, List, [], ◌∷◌, ◌++◌, length, take, Option, Some, None, refl, ap, ◌∙◌, arith, if◌then◌else◌}
use Rattle.std.proofs.lemmas.List.{length-append, length-take-le, take_at}
use Rattle.std.proofs.lemmas.Bool.Decides.{nat_tests}
use Rattle.markdown_marks.specs.Remaining.{Remaining}
use Rattle.markdown_blocks.specs.Containers.{Matched, match_more, goes_on, matched, Opened, Opens, open_more, container_start, opened}
use Rattle.markdown_blocks.specs.Laws.{IsPlaced}
use Rattle.markdown_blocks.specs.Leaves.{is_paragraph, is_table, leaf_start, deed_at, deed_of, going_on, only_defines}
use Rattle.markdown_blocks.specs.Steps.{State, Step, kept_after, same_containers, line_done, line_after, joining_after, begun_line, matched_line, line_step, step}
use Rattle.markdown_blocks.specs.declared.containers.Container.{Container}
use Rattle.markdown_blocks.specs.declared.leaves.Leaf.{Leaf}
use Rattle.markdown_blocks.specs.declared.leaves.Start.{Start}
use Rattle.markdown_blocks.specs.declared.leaves.Going.{Going}
use Rattle.markdown_blocks.specs.declared.leaves.Going.TheVariants.{No, On, Last, Ends}
use Rattle.markdown_blocks.specs.declared.leaves.Deed.{Deed}
use Rattle.markdown_blocks.specs.declared.leaves.Deed.TheVariants.{Blank, Begins, Html, GoesOn, Closes, Underlines, Tabulates, Heading, Rule}
use Rattle.markdown_blocks.proofs.LineLemmas.{joins_where, begun_keeps}

-- ---- no more go on than are open, and no more begin than there is room for

more_within : (o : Option Remaining) (rest : Remaining) (others : Remaining → Matched) (n : ℕ) → ((r : Remaining) → (others r).count ≤ n) → (match_more o rest others).count ≤ n + 1
more_within None rest others n h = omega arith
more_within (Some next) rest others n h = omega (arith, h next)

-- no more containers go on than are open
pub matched_within : (bare : Bool) (containers : List Container) (rest : Remaining) → (matched bare containers rest).count ≤ length containers
unfolding matched
matched_within bare [] rest = omega arith
matched_within bare (container ∷ inner) rest =
    omega (arith, more_within (goes_on container (bare && (length inner == 0)) rest) rest (matched bare inner) (length inner) (λ r. matched_within bare inner r))

open_within : (o : Option Opened) (rest : Remaining) (others : Remaining → Opens) (n : ℕ) → ((r : Remaining) → length (others r).containers ≤ n) → length (open_more o rest others).containers ≤ n + 1
open_within None rest others n h = omega arith
open_within (Some found) rest others n h = omega (arith, h found.rest)

opened_within : (room : ℕ) (in_paragraph : Bool) (rest : Remaining) → length (opened room in_paragraph rest).containers ≤ room
unfolding opened
opened_within zero in_paragraph rest = omega arith
opened_within (suc room) in_paragraph rest = omega (arith, open_within (container_start in_paragraph rest) rest (opened room false) room (λ r. opened_within room false r))

-- ---- what a line keeps

-- never more containers stay than are open
pub keeps_within : (deed : Deed) (count all : ℕ) → count ≤ all → kept_after deed count all ≤ all
keeps_within Blank count all h = h
keeps_within (Begins leaf) count all h = h
keeps_within GoesOn count all h = omega arith
keeps_within Html count all h = h
keeps_within Closes count all h = h
keeps_within (Underlines level) count all h = h
keeps_within (Tabulates columns) count all h = h
keeps_within (Heading level) count all h = h
keeps_within Rule count all h = h

-- with those that begin there are never more than 64
never_more : (opens : List Container) (table paragraph joins all : Bool) (start : Start) (cells : ℕ) (text : Remaining) (count len : ℕ) → count ≤ len → length opens ≤ 64 - count → len ≤ 64
    → kept_after (deed_at (joins_where (length opens == 0) table paragraph joins all) cells text start) count len + length opens ≤ 64
never_more [] table paragraph joins all start cells text count len within room few =
    omega (arith, few, keeps_within (deed_at (joins_where (length {A = Container} [] == 0) table paragraph joins all) cells text start) count len within)
never_more (x ∷ xs) table paragraph joins all start cells text count len within room few =
    let some : (length (x ∷ xs) == 0) ≡ false = grind (arith, nat_tests) in
    omega (arith, begun_keeps (length (x ∷ xs) == 0) table paragraph joins all start cells text count len some, within, room, few)

done_placed : (state : State) (count : ℕ) (opens : Opens) (deed : Deed) (text : Remaining) → kept_after deed count (length state.containers) ≤ length state.containers
    → (length state.containers ≤ 64 → kept_after deed count (length state.containers) + length opens.containers ≤ 64) → IsPlaced state (line_done state count opens deed text)
done_placed state count opens deed text within few =
    let kept = kept_after deed count (length state.containers) in
    let front : length (take kept state.containers) ≡ kept = length-take-le kept state.containers within in
    let counted : length (take kept state.containers ++ opens.containers) ≡ kept + length opens.containers = length-append (take kept state.containers) opens.containers ∙ ap (λ n. n + length opens.containers) front in
    record { within = within; stays = take_at (take kept state.containers) opens.containers kept front; counted = counted; bounded = λ b. omega (arith, counted, few b) }

after_placed : (state : State) (count : ℕ) (opens : Opens) → count ≤ length state.containers → length opens.containers ≤ 64 - count → IsPlaced state (line_after state count opens)
after_placed state count opens within room =
    let joining = joining_after state count opens in
    let begun = leaf_start joining opens.rest in
    done_placed state count opens (deed_of joining state.cells begun) begun.text (keeps_within (deed_of joining state.cells begun) count (length state.containers) within)
    (λ few. never_more opens.containers (is_table state.leaf) (is_paragraph state.leaf) (not (only_defines state.defining (count == length state.containers) opens.rest)) (count == length state.containers) begun.start state.cells begun.text count (length state.containers) within room few)

-- a line that the open leaf doesn't take unseen leaves the containers in their places
pub begun_placed : (state : State) (found : Matched) → found.count ≤ length state.containers → IsPlaced state (begun_line state found)
unfolding begun_line
begun_placed state found within =
    after_placed state found.count _ within (opened_within (64 - found.count) (is_paragraph state.leaf && (found.count == length state.containers)) found.rest)

same_placed : (state : State) (leaf : Leaf) (deed : Deed) (text : Remaining) → IsPlaced state (same_containers state leaf deed text)
same_placed state leaf deed text = record { within = omega arith; stays = refl; counted = omega arith; bounded = λ b. b }

going_placed : (going : Going) (state : State) (found : Matched) → found.count ≤ length state.containers → IsPlaced state (matched_line going state found)
going_placed No state found within = begun_placed state found within
going_placed On state found within = same_placed state state.leaf GoesOn _
going_placed Last state found within = same_placed state _ GoesOn _
going_placed Ends state found within = same_placed state _ Closes found.rest

if_placed : (state : State) (t : Bool) (a b : Step) → IsPlaced state a → IsPlaced state b → IsPlaced state (if t then a else b)
if_placed state true a b f g = f
if_placed state false a b f g = g

-- each line leaves the containers in their places
pub placed : (state : State) (text : List ℕ) → IsPlaced state (step state text)
unfolding step line_step
placed state text =
    let found = matched _ state.containers _ in
    if_placed state (found.count == length state.containers) _ _ (going_placed (going_on state.leaf found.rest) state found (matched_within _ state.containers _)) (begun_placed state found (matched_within _ state.containers _))
