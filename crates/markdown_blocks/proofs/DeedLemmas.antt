-- Which leaf is open behind a line, by what the line did.
use Rattle.std.proofs.Common.{◌≡◌, ℕ, zero, suc, ◌-◌, ◌==◌, ◌⊎◌, inl, inr, Bool, true, false, cond, not, ◌||◌, ◌&&◌, List, [], ◌∷◌, ◌++◌, length, take, drop, refl, ap, sym, ◌∙◌, subst, append-nil, arith}
use Rattle.std.proofs.lemmas.Bool.Decides.{nat_tests}
use Rattle.std.proofs.lemmas.List.{length-take-le}
use Rattle.markdown_marks.specs.Remaining.{Remaining, whole}
use Rattle.markdown_blocks.specs.Containers.{Matched, Opens, ends_in_item, matched, opened}
use Rattle.markdown_blocks.specs.Leaves.{deed_at, going_on, is_bare, is_paragraph, is_table, leaf_after, leaf_start, only_defines}
use Rattle.markdown_blocks.specs.Steps.{State, Step, begun_line, joining_after, kept_after, line_done, line_step, matched_line, step}
use Rattle.markdown_blocks.specs.declared.containers.Container.{Container}
use Rattle.markdown_blocks.specs.declared.leaves.Deed.{Deed}
use Rattle.markdown_blocks.specs.declared.leaves.Deed.TheVariants.{Blank as BlankLine, Begins, Html as HtmlLine, GoesOn, Closes, Underlines, Tabulates, Heading as HeadingLine, Rule as RuleLine}
use Rattle.markdown_blocks.specs.declared.leaves.Going.{Going}
use Rattle.markdown_blocks.specs.declared.leaves.Going.TheVariants.{No, On, Last, Ends}
use Rattle.markdown_blocks.specs.declared.leaves.Joining.{Joining}
use Rattle.markdown_blocks.specs.declared.leaves.Joining.TheVariants.{Apart, Lazily, Fully, InTable}
use Rattle.markdown_blocks.specs.declared.leaves.Leaf.{Leaf}
use Rattle.markdown_blocks.specs.declared.leaves.Leaf.TheVariants.{Nothing, Bare, Paragraph, Indented, Fenced, Html, Table}
use Rattle.markdown_blocks.specs.declared.leaves.Start.{Start}
use Rattle.markdown_blocks.specs.declared.leaves.Start.TheVariants.{Blank, Code, Heading, Fence, Html as HtmlStart, Underline, Rule, Words}
use Rattle.markdown_blocks.proofs.LineLemmas.{joins_where}

-- no leaf is open
abbrev pub is_none_leaf : Leaf → Bool
is_none_leaf Nothing = true
is_none_leaf Bare = true
is_none_leaf _ = false

-- a leaf whose lines begin with its first one
abbrev pub is_begun_leaf : Leaf → Bool
is_begun_leaf Paragraph = true
is_begun_leaf Indented = true
is_begun_leaf (Fenced sign length indent) = true
is_begun_leaf (Html ending) = true
is_begun_leaf _ = false

-- The leaf behind a line. One that goes on was open before, and no container ended or began.
abbrev pub LeafBehind : State → Step → Deed → Type 0
LeafBehind state done GoesOn =
    (done.line.kept ≡ length state.containers) × (drop (length state.containers) done.state.containers ≡ []) × (is_none_leaf state.leaf ≡ false) × ((done.state.leaf ≡ state.leaf) ⊎ (done.state.leaf ≡ Nothing))
LeafBehind state done (Begins leaf) = (done.state.leaf ≡ leaf) × (is_begun_leaf leaf ≡ true)
LeafBehind state done (Tabulates columns) = done.state.leaf ≡ Table
LeafBehind state done _ = is_none_leaf done.state.leaf ≡ true

-- what a deed asks of the leaf before it
abbrev MayDo : (none table paragraph : Bool) → Deed → Type 0
MayDo none table paragraph GoesOn = (none ≡ true) × ((table || paragraph) ≡ true)
MayDo none table paragraph (Begins leaf) = is_begun_leaf leaf ≡ true
MayDo none table paragraph _ = Unit {0}

either_deed : (none table paragraph : Bool) (t : Bool) (x y : Deed) → MayDo none table paragraph x → MayDo none table paragraph y → MayDo none table paragraph (cond t x y)
either_deed none table paragraph true x y f g = f
either_deed none table paragraph false x y f g = g

apart_may : (none table paragraph : Bool) (cells : ℕ) (text : Remaining) (start : Start) → MayDo none table paragraph (deed_at Apart cells text start)
apart_may none table paragraph cells text Blank = tt
apart_may none table paragraph cells text Code = refl
apart_may none table paragraph cells text (Heading level) = tt
apart_may none table paragraph cells text (Fence sign length indent) = refl
apart_may none table paragraph cells text (HtmlStart ending true) = tt
apart_may none table paragraph cells text (HtmlStart ending false) = refl
apart_may none table paragraph cells text (Underline level) = tt
apart_may none table paragraph cells text Rule = tt
apart_may none table paragraph cells text Words = refl

-- where a leaf is open that may go on, and no container begins
joined_may : (joining : Joining) (table paragraph : Bool) (cells : ℕ) (text : Remaining) (start : Start) → (table || paragraph) ≡ true → MayDo true table paragraph (deed_at joining cells text start)
joined_may joining table paragraph cells text Blank h = tt
joined_may Apart table paragraph cells text Code h = refl
joined_may Lazily table paragraph cells text Code h = (refl, h)
joined_may Fully table paragraph cells text Code h = (refl, h)
joined_may InTable table paragraph cells text Code h = refl
joined_may joining table paragraph cells text (Heading level) h = tt
joined_may joining table paragraph cells text (Fence sign length indent) h = refl
joined_may joining table paragraph cells text (HtmlStart ending true) h = tt
joined_may joining table paragraph cells text (HtmlStart ending false) h = refl
joined_may joining table paragraph cells text (Underline level) h = tt
joined_may joining table paragraph cells text Rule h = tt
joined_may Apart table paragraph cells text Words h = refl
joined_may Lazily table paragraph cells text Words h = (refl, h)
joined_may Fully table paragraph cells text Words h = either_deed true table paragraph _ (Tabulates cells) GoesOn tt (refl, h)
joined_may InTable table paragraph cells text Words h = (refl, h)

may_do : (none table paragraph joins all : Bool) (cells : ℕ) (text : Remaining) (start : Start) → MayDo none table paragraph (deed_at (joins_where none table paragraph joins all) cells text start)
may_do false true true joins all cells text start = apart_may false true true cells text start
may_do false true false joins all cells text start = apart_may false true false cells text start
may_do false false true joins all cells text start = apart_may false false true cells text start
may_do false false false joins all cells text start = apart_may false false false cells text start
may_do true true paragraph joins all cells text start = joined_may (joins_where true true paragraph joins all) true paragraph cells text start refl
may_do true false true joins all cells text start = joined_may (joins_where true false true joins all) false true cells text start refl
may_do true false false joins all cells text start = apart_may true false false cells text start

no_containers : (containers : List Container) → (length containers == 0) ≡ true → containers ≡ []
no_containers [] h = refl
no_containers (c ∷ cs) h = absurd (grind (arith, nat_tests))

all_dropped : (containers : List Container) → drop (length containers) (take (length containers) containers ++ []) ≡ []
all_dropped [] = refl
all_dropped (c ∷ cs) = all_dropped cs

some_leaf : (leaf : Leaf) → (is_table leaf || is_paragraph leaf) ≡ true → is_none_leaf leaf ≡ false
some_leaf Nothing h = let other : false ≡ true = h in absurd (cc)
some_leaf Bare h = let other : false ≡ true = h in absurd (cc)
some_leaf Paragraph h = refl
some_leaf Indented h = refl
some_leaf (Fenced sign length indent) h = refl
some_leaf (Html ending) h = refl
some_leaf Table h = refl

blank_leaf : (t : Bool) → is_none_leaf (cond t Bare Nothing) ≡ true
blank_leaf true = refl
blank_leaf false = refl

done_leaf : (state : State) (n : ℕ) (opens : Opens) (deed : Deed) (text : Remaining) → MayDo (length opens.containers == 0) (is_table state.leaf) (is_paragraph state.leaf) deed → LeafBehind state (line_done state n opens deed text) deed
done_leaf state n opens BlankLine text h = blank_leaf _
done_leaf state n opens (Begins leaf) text h = (refl, h)
done_leaf state n opens HtmlLine text h = refl
done_leaf state n opens GoesOn text h = (
  refl,
  ap (λ (cs : List Container). drop (length state.containers) (take (length state.containers) state.containers ++ cs)) (no_containers opens.containers h.0) ∙ all_dropped state.containers,
  some_leaf state.leaf h.1,
  inl refl,
)
done_leaf state n opens Closes text h = refl
done_leaf state n opens (Underlines level) text h = refl
done_leaf state n opens (Tabulates columns) text h = refl
done_leaf state n opens (HeadingLine level) text h = refl
done_leaf state n opens RuleLine text h = refl

-- the leaf behind a step
abbrev pub IsLeafBehind : State → Step → Type 0
IsLeafBehind state done = LeafBehind state done done.line.deed

begun_leaf : (state : State) (found : Matched) → IsLeafBehind state (begun_line state found)
unfolding begun_line
begun_leaf state found =
    let all = found.count == length state.containers in
    let opens = opened (64 - found.count) (is_paragraph state.leaf && all) found.rest in
    let begun = leaf_start (joining_after state found.count opens) opens.rest in
    done_leaf state found.count opens (deed_at (joining_after state found.count opens) state.cells begun.text begun.start) begun.text
    (may_do (length opens.containers == 0) (is_table state.leaf) (is_paragraph state.leaf) (not (only_defines state.defining all opens.rest)) all state.cells begun.text begun.start)

-- a leaf that takes a line unseen is open
abbrev TakesUnseen : Leaf → Going → Type 0
TakesUnseen leaf On = is_none_leaf leaf ≡ false
TakesUnseen leaf Last = is_none_leaf leaf ≡ false
TakesUnseen leaf _ = Unit {0}

unseen : (leaf : Leaf) (going : Going) → is_none_leaf leaf ≡ false → TakesUnseen leaf going
unseen leaf No h = tt
unseen leaf On h = h
unseen leaf Last h = h
unseen leaf Ends h = tt

takes_unseen : (leaf : Leaf) (rest : Remaining) → TakesUnseen leaf (going_on leaf rest)
unfolding going_on
takes_unseen Nothing rest = tt
takes_unseen Bare rest = tt
takes_unseen Paragraph rest = tt
takes_unseen Table rest = tt
takes_unseen Indented rest = unseen Indented _ refl
takes_unseen (Fenced sign length indent) rest = unseen (Fenced sign length indent) _ refl
takes_unseen (Html ending) rest = unseen (Html ending) _ refl

drop_all : (containers : List Container) → drop (length containers) containers ≡ []
drop_all [] = refl
drop_all (c ∷ cs) = drop_all cs

going_leaf : (going : Going) (state : State) (found : Matched) → TakesUnseen state.leaf going → IsLeafBehind state (matched_line going state found)
going_leaf No state found h = begun_leaf state found
going_leaf On state found h = (refl, drop_all state.containers, h, inl refl)
going_leaf Last state found h = (refl, drop_all state.containers, h, inr refl)
going_leaf Ends state found h = refl

either_leaf : (state : State) (t : Bool) (x y : Step) → IsLeafBehind state x → IsLeafBehind state y → IsLeafBehind state (cond t x y)
either_leaf state true x y f g = f
either_leaf state false x y f g = g

-- this leaf is open behind a line
pub leaf_behind : (state : State) (text : List ℕ) → IsLeafBehind state (step state text)
unfolding step line_step
leaf_behind state text =
    let found = matched (is_bare state.leaf) state.containers (whole text) in
    either_leaf state (found.count == length state.containers) (matched_line (going_on state.leaf found.rest) state found) (begun_line state found)
    (going_leaf (going_on state.leaf found.rest) state found (takes_unseen state.leaf found.rest)) (begun_leaf state found)
