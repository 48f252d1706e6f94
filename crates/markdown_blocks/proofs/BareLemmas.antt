-- No item is open whose first line was blank, unless a container is.
use Rattle.std.proofs.Common.{◌≡◌, ℕ, zero, suc, ◌+◌, ◌-◌, ◌==◌, Bool, true, false, cond, not, ◌&&◌, List, [], ◌∷◌, ◌++◌, length, take, refl, ap, sym, ◌∙◌, arith, if◌then◌else◌}
use Rattle.std.proofs.lemmas.Bool.{and_left, and_right}
use Rattle.std.proofs.lemmas.Bool.Decides.{nat_tests}
use Rattle.std.proofs.lemmas.List.{length-append}
use Rattle.markdown_marks.specs.Remaining.{Remaining}
use Rattle.markdown_blocks.specs.Containers.{Matched, Opens, ends_in_item, matched, opened}
use Rattle.markdown_blocks.specs.Leaves.{deed_at, going_on, is_bare, is_paragraph, leaf_after, leaf_start}
use Rattle.markdown_blocks.specs.Steps.{State, Step, begun_line, joining_after, kept_after, line_after, line_done, line_step, matched_line, step}
use Rattle.markdown_blocks.specs.declared.containers.Container.{Container}
use Rattle.markdown_blocks.specs.declared.leaves.Deed.{Deed}
use Rattle.markdown_blocks.specs.declared.leaves.Deed.TheVariants.{Blank as BlankLine, Begins, Html as HtmlLine, GoesOn, Closes, Underlines, Tabulates, Heading as HeadingLine, Rule as RuleLine}
use Rattle.markdown_blocks.specs.declared.leaves.Going.{Going}
use Rattle.markdown_blocks.specs.declared.leaves.Going.TheVariants.{No, On, Last, Ends}
use Rattle.markdown_blocks.specs.declared.leaves.Joining.{Joining}
use Rattle.markdown_blocks.specs.declared.leaves.Joining.TheVariants.{Apart, Lazily, Fully, InTable}
use Rattle.markdown_blocks.specs.declared.leaves.Leaf.{Leaf}
use Rattle.markdown_blocks.specs.declared.leaves.Leaf.TheVariants.{Nothing}
use Rattle.markdown_blocks.specs.declared.leaves.Start.{Start}
use Rattle.markdown_blocks.specs.declared.leaves.Start.TheVariants.{Blank, Code, Heading, Fence, Html, Underline, Rule, Words}

-- an item whose first line was blank is open, and no container
abbrev pub is_loose_bare : State → Bool
is_loose_bare state = is_bare state.leaf && (length state.containers == 0)

-- a leaf that begins isn't a bare item
abbrev BeginsNoBare : Deed → Type 0
BeginsNoBare (Begins leaf) = is_bare leaf ≡ false
BeginsNoBare _ = Unit {0}

either : (cells : ℕ) (t : Bool) → BeginsNoBare (cond t (Tabulates cells) GoesOn)
either cells true = tt
either cells false = tt

deed_begins : (joining : Joining) (cells : ℕ) (text : Remaining) (start : Start) → BeginsNoBare (deed_at joining cells text start)
deed_begins joining cells text Blank = tt
deed_begins Apart cells text Code = refl
deed_begins Lazily cells text Code = tt
deed_begins Fully cells text Code = tt
deed_begins InTable cells text Code = refl
deed_begins joining cells text (Heading level) = tt
deed_begins joining cells text (Fence sign length indent) = refl
deed_begins joining cells text (Html ending true) = tt
deed_begins joining cells text (Html ending false) = refl
deed_begins joining cells text (Underline level) = tt
deed_begins joining cells text Rule = tt
deed_begins Apart cells text Words = refl
deed_begins Lazily cells text Words = tt
deed_begins Fully cells text Words = either cells _
deed_begins InTable cells text Words = tt

some_more : (stay : List Container) (x : Container) (xs : List Container) → (length (stay ++ x ∷ xs) == 0) ≡ false
some_more stay x xs = grind (arith, nat_tests, length-append stay (x ∷ xs))

none_bare : (stay opens : List Container) → (is_bare (leaf_after (ends_in_item false opens) Nothing BlankLine) && (length (stay ++ opens) == 0)) ≡ false
unfolding ends_in_item
none_bare stay [] = refl
none_bare stay (x ∷ xs) = and_right _ _ (some_more stay x xs)

no_bare : (t other : Bool) → (t && true) ≡ false → (t && other) ≡ false
no_bare true other e = let no : true ≡ false = e in absurd (cc)
no_bare false other e = refl

not_none : (c : Container) (cs : List Container) → (length (c ∷ cs) == 0) ≡ false
not_none c cs = grind (arith, nat_tests)

not_grown : (leaf : Leaf) (containers opens : List Container) → (is_bare leaf && (length containers == 0)) ≡ false → (is_bare leaf && (length (take (length containers) containers ++ opens) == 0)) ≡ false
not_grown leaf [] opens h = no_bare (is_bare leaf) (length opens == 0) h
not_grown leaf (c ∷ cs) opens h = and_right _ _ (not_none c (take (length cs) cs ++ opens))

done_bare : (state : State) (n : ℕ) (opens : Opens) (deed : Deed) (text : Remaining) → BeginsNoBare deed → is_loose_bare state ≡ false → is_loose_bare (line_done state n opens deed text).state ≡ false
done_bare state n opens BlankLine text b h = none_bare (take n state.containers) opens.containers
done_bare state n opens (Begins leaf) text b h = and_left _ _ b
done_bare state n opens HtmlLine text b h = refl
done_bare state n opens GoesOn text b h = not_grown state.leaf state.containers opens.containers h
done_bare state n opens Closes text b h = refl
done_bare state n opens (Underlines level) text b h = refl
done_bare state n opens (Tabulates columns) text b h = refl
done_bare state n opens (HeadingLine level) text b h = refl
done_bare state n opens RuleLine text b h = refl

begun_bare : (state : State) (found : Matched) → is_loose_bare state ≡ false → is_loose_bare (begun_line state found).state ≡ false
unfolding begun_line
begun_bare state found h =
    let opens = opened (64 - found.count) (is_paragraph state.leaf && (found.count == length state.containers)) found.rest in
    let joining = joining_after state found.count opens in
    let begun = leaf_start joining opens.rest in
    done_bare state found.count opens (deed_at joining state.cells begun.text begun.start) begun.text (deed_begins joining state.cells begun.text begun.start) h

going_bare : (going : Going) (state : State) (found : Matched) → is_loose_bare state ≡ false → is_loose_bare (matched_line going state found).state ≡ false
going_bare No state found h = begun_bare state found h
going_bare On state found h = h
going_bare Last state found h = refl
going_bare Ends state found h = refl

either_bare : (t : Bool) (x y : Step) → is_loose_bare x.state ≡ false → is_loose_bare y.state ≡ false → is_loose_bare (cond t x y).state ≡ false
either_bare true x y f g = f
either_bare false x y f g = g

-- so it is after each line
pub step_bare : (state : State) (text : List ℕ) → is_loose_bare state ≡ false → is_loose_bare (step state text).state ≡ false
unfolding step line_step
step_bare state text h =
    let found = matched (is_bare state.leaf) state.containers _ in
    either_bare (found.count == length state.containers) _ _ (going_bare (going_on state.leaf found.rest) state found h) (begun_bare state found h)
