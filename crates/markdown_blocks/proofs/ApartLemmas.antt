-- A line in which a container doesn't go on, where no paragraph is open, does what the first line of a text does.
use Rattle.std.proofs.Common.{◌≡◌, ℕ, zero, suc, ◌+◌, ◌-◌, ◌==◌, Bool, true, false, cond, not, ◌&&◌, List, [], ◌∷◌, ◌++◌, length, take, Option, None, refl, ap, sym, ◌∙◌, subst, arith}
use Rattle.std.proofs.lemmas.Bool.Decides.{nat_tests}
use Rattle.markdown_marks.specs.Remaining.{Remaining, whole}
use Rattle.markdown_blocks.specs.Containers.{Matched, Opens, ends_in_item, goes_on, match_more, matched, opened}
use Rattle.markdown_blocks.specs.Leaves.{cells_after, deed_at, defining_after, going_on, is_bare, is_paragraph, is_table, joining_or_row, leaf_after, leaf_start, only_defines}
use Rattle.markdown_blocks.specs.Steps.{State, Step, begun_line, joining_after, kept_after, line_after, line_done, line_step, matched_line, step}
use Rattle.markdown_blocks.specs.declared.containers.Container.{Container}
use Rattle.markdown_blocks.specs.declared.leaves.Deed.{Deed}
use Rattle.markdown_blocks.specs.declared.leaves.Deed.TheVariants.{Blank as BlankLine, Begins, Html as HtmlLine, GoesOn, Closes, Underlines, Tabulates, Heading as HeadingLine, Rule as RuleLine}
use Rattle.markdown_blocks.specs.declared.leaves.Joining.{Joining}
use Rattle.markdown_blocks.specs.declared.leaves.Joining.TheVariants.{Apart}
use Rattle.markdown_blocks.specs.declared.leaves.Leaf.{Leaf}
use Rattle.markdown_blocks.specs.declared.leaves.Leaf.TheVariants.{Nothing}
use Rattle.markdown_blocks.specs.declared.leaves.Start.{Start}
use Rattle.markdown_blocks.specs.declared.leaves.Start.TheVariants.{Blank, Code, Heading, Fence, Html, Underline, Rule, Words}
use Rattle.markdown_blocks.proofs.WithinLemmas.{at_first, first_step, line_with, within}

-- the deed is none that goes on with the open leaf
abbrev IsApart : Deed → Type 0
IsApart GoesOn = ⊥
IsApart _ = Unit {0}

deed_apart : (cells : ℕ) (text : Remaining) (start : Start) → IsApart (deed_at Apart cells text start)
deed_apart cells text Blank = tt
deed_apart cells text Code = tt
deed_apart cells text (Heading level) = tt
deed_apart cells text (Fence sign length indent) = tt
deed_apart cells text (Html ending true) = tt
deed_apart cells text (Html ending false) = tt
deed_apart cells text (Underline level) = tt
deed_apart cells text Rule = tt
deed_apart cells text Words = tt

cells_apart : (cells : ℕ) (text : Remaining) (start : Start) → deed_at Apart cells text start ≡ deed_at Apart 0 text start
cells_apart cells text Blank = refl
cells_apart cells text Code = refl
cells_apart cells text (Heading level) = refl
cells_apart cells text (Fence sign length indent) = refl
cells_apart cells text (Html ending ends) = refl
cells_apart cells text (Underline level) = refl
cells_apart cells text Rule = refl
cells_apart cells text Words = refl

-- the first step leaves all containers and does what the other does
pub record DoesApart (outer first : Step) : Type 0 where
  pub state : outer.state ≡ first.state
  pub kept : outer.line.kept ≡ 0
  pub none : first.line.kept ≡ 0
  pub deed : outer.line.deed ≡ first.line.deed
  pub text : outer.line.text ≡ first.line.text

done_apart : (state : State) (opens : Opens) (deed : Deed) (text : Remaining) → IsApart deed → DoesApart (line_done state 0 opens deed text) (line_done at_first 0 opens deed text)
done_apart state opens BlankLine text h = record { state = refl; kept = refl; none = refl; deed = refl; text = refl }
done_apart state opens (Begins leaf) text h = record { state = refl; kept = refl; none = refl; deed = refl; text = refl }
done_apart state opens HtmlLine text h = record { state = refl; kept = refl; none = refl; deed = refl; text = refl }
done_apart state opens GoesOn text h = absurd h
done_apart state opens Closes text h = record { state = refl; kept = refl; none = refl; deed = refl; text = refl }
done_apart state opens (Underlines level) text h = record { state = refl; kept = refl; none = refl; deed = refl; text = refl }
done_apart state opens (Tabulates columns) text h = record { state = refl; kept = refl; none = refl; deed = refl; text = refl }
done_apart state opens (HeadingLine level) text h = record { state = refl; kept = refl; none = refl; deed = refl; text = refl }
done_apart state opens RuleLine text h = record { state = refl; kept = refl; none = refl; deed = refl; text = refl }

with_apart : (state : State) (opens : Opens) → DoesApart (line_with state 0 opens Apart) (line_with at_first 0 opens Apart)
with_apart state opens =
    let begun = leaf_start Apart opens.rest in
    subst (λ (d : Deed). DoesApart (line_done state 0 opens d begun.text) (line_with at_first 0 opens Apart)) (sym (cells_apart state.cells begun.text begun.start))
    (done_apart state opens (deed_at Apart 0 begun.text begun.start) begun.text (deed_apart 0 begun.text begun.start))

none_of : (n : ℕ) → (0 == suc n) ≡ false
none_of n = grind (arith, nat_tests)

no_row : (table none : Bool) → (table && none && false) ≡ false
no_row true true = refl
no_row true false = refl
no_row false none = refl

-- how a line joins
abbrev joins_of : (table none paragraph joins all : Bool) → Joining
joins_of table none paragraph joins all = joining_or_row (table && none && all) (paragraph && none && joins) all

begun_apart : (container : Container) (state : State) (rest : Remaining) → is_paragraph state.leaf ≡ false → begun_line (within container state) (record { count = 0; rest = rest }) ≡ line_with (within container state) 0 (opened 64 false rest) Apart
unfolding begun_line
begun_apart container state rest h =
    let outer = within container state in
    let opens = opened 64 false rest in
    let table = is_table state.leaf in
    let none = length opens.containers == 0 in
    let all = 0 == suc (length state.containers) in
    let joins : Bool → Bool = λ (t : Bool). not (only_defines state.defining t opens.rest) in
    ap (λ (p : Bool). line_after outer 0 (opened 64 (p && all) rest)) h
    ∙ ap (λ (t : Bool). line_with outer 0 opens (joins_of table none (is_paragraph state.leaf) (joins t) t)) (none_of (length state.containers))
    ∙ ap (λ (p : Bool). line_with outer 0 opens (joins_of table none p (joins false) false)) h
    ∙ ap (λ (r : Bool). line_with outer 0 opens (joining_or_row r false false)) (no_row table none)

line_apart : (container : Container) (state : State) (rest : Remaining) → line_step (within container state) (record { count = 0; rest = rest }) ≡ begun_line (within container state) (record { count = 0; rest = rest })
unfolding line_step
line_apart container state rest = ap (λ (t : Bool). cond t (matched_line (going_on state.leaf rest) (within container state) (record { count = 0; rest = rest })) (begun_line (within container state) (record { count = 0; rest = rest }))) (none_of (length state.containers))

-- A line in which the outermost container doesn't go on, and where no paragraph is open, does what the first line of a text does.
pub step_apart : (container : Container) (state : State) (text : List ℕ) → goes_on container (is_bare state.leaf && (length state.containers == 0)) (whole text) ≡ None → is_paragraph state.leaf ≡ false
    → DoesApart (step (within container state) text) (step at_first text)
unfolding step matched
step_apart container state text off h =
    let outer = within container state in
    let stepped : step outer text ≡ line_with outer 0 (opened 64 false (whole text)) Apart =
    ap (λ (o : Option Remaining). line_step outer (match_more o (whole text) (matched (is_bare state.leaf) state.containers))) off ∙ line_apart container state (whole text) ∙ begun_apart container state (whole text) h in
    subst (λ (s : Step). DoesApart s (step at_first text)) (sym stepped)
    (subst (λ (s : Step). DoesApart (line_with outer 0 (opened 64 false (whole text)) Apart) s) (sym (first_step text)) (with_apart outer (opened 64 false (whole text))))
