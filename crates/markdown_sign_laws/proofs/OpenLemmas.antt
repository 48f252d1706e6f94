-- Where no leaf is open, it doesn't matter what the last one was.
use Rattle.std.proofs.Common.{◌≡◌, ℕ, zero, suc, ◌-◌, Bool, true, false, cond, not, ◌||◌, ◌==◌, List, [], ◌∷◌, ◌++◌, map, length, drop, Option, Some, None, refl, ap, ◌∙◌}
use Rattle.std.proofs.lemmas.Bool.{cond_both}
use Rattle.markdown_marks.specs.Bytes.{is_blank}
use Rattle.markdown_marks.specs.Marks.{fence_start, heading_level, is_rule}
use Rattle.markdown_marks.specs.Remaining.{Remaining, columns_in_front, take_columns, whole}
use Rattle.markdown_marks.specs.declared.marks.Fence.{Fence}
use Rattle.markdown_html.specs.Ends.{ends_html}
use Rattle.markdown_html.specs.Starts.{html_start}
use Rattle.markdown_html.specs.declared.starts.Ending.{Ending}
use Rattle.markdown_blocks.specs.Containers.{Matched, Opens, ends_in_item, is_item, matched, opened}
use Rattle.markdown_blocks.specs.Events.{Event, leave, enter, line, leaves, events_from}
use Rattle.markdown_blocks.specs.Leaves.{Beginning, deed_of, going_on, is_bare, joining_of, leaf_start, mark_start, or_fence, or_html, or_underline, rule_start}
use Rattle.markdown_blocks.specs.Steps.{State, Step, begun_line, line_done as done_line, line_step, step}
use Rattle.markdown_blocks.specs.declared.containers.Container.{Container}
use Rattle.markdown_blocks.specs.declared.leaves.Deed.{Deed}
use Rattle.markdown_blocks.specs.declared.leaves.Deed.TheVariants.{Blank, Begins, Html as HtmlDeed, GoesOn, Closes, Underlines, Tabulates, Heading as HeadingDeed, Rule as RuleDeed}
use Rattle.markdown_blocks.specs.declared.leaves.Leaf.{Leaf}
use Rattle.markdown_blocks.specs.declared.leaves.Leaf.TheVariants.{Nothing as NothingLeaf, Bare, Paragraph as ParagraphLeaf, Indented as IndentedLeaf, Fenced as FencedLeaf, Html as HtmlLeaf, Table as TableLeaf}
use Rattle.markdown_leaves.specs.Gather.{Gathering, closed, line_done, passed_outside}
use Rattle.markdown_leaves.specs.Parts.{PartContent, begins, ends}
use Rattle.markdown_leaves.specs.Told.{told}
use Rattle.markdown_leaves.specs.declared.parts.Kind.TheVariants.{Nothing}
use Rattle.markdown_laws.proofs.AroundLemmas.{line_then}
use Rattle.markdown_laws.proofs.FenceLemmas.{ended}
use Rattle.markdown_laws.proofs.FlatLemmas.{flat_event}

-- ---- events that begin with a leaf of their own

-- this begins a leaf
abbrev begins_leaf : Deed → Bool
begins_leaf (Begins leaf) = true
begins_leaf HtmlDeed = true
begins_leaf (HeadingDeed level) = true
begins_leaf RuleDeed = true
begins_leaf _ = false

-- the first line of these that isn't blank begins a leaf
abbrev pub opens : List Event → Bool
opens [] = true
opens (leave ∷ events) = opens events
opens (enter container ∷ events) = opens events
opens (line Blank text ∷ events) = opens events
opens (line (Begins leaf) text ∷ events) = true
opens (line HtmlDeed text ∷ events) = true
opens (line (HeadingDeed level) text ∷ events) = true
opens (line RuleDeed text ∷ events) = true
opens (line GoesOn text ∷ events) = false
opens (line Closes text ∷ events) = false
opens (line (Underlines level) text ∷ events) = false
opens (line (Tabulates columns) text ∷ events) = false

-- no leaf is open; the last one was apart or not
abbrev pub idle : List PartContent → Bool → List Remaining → (passed fresh : Bool) → List Container → Gathering
idle parts apart lines passed fresh around = record { parts = parts; kind = Nothing; apart = apart; lines = lines; passed = passed; fresh = fresh; around = around }

-- what is told then doesn't depend on it
pub same_parts : (events : List Event) (parts : List PartContent) (apart : Bool) (lines : List Remaining) (passed fresh : Bool) (around : List Container) → opens events ≡ true
    → ended (idle parts apart lines passed fresh around) events ≡ ended (idle parts false [] passed fresh around) events
unfolding told closed line_done
same_parts [] parts apart lines passed fresh around h = refl
same_parts (leave ∷ events) parts apart lines passed fresh around h = same_parts events (parts ++ ends ∷ []) apart lines (passed_outside around passed) fresh (drop 1 around) h
same_parts (enter container ∷ events) parts apart lines passed fresh around h = same_parts events (parts ++ begins container passed ∷ []) apart lines false (fresh || is_item container) (container ∷ around) h
same_parts (line Blank text ∷ events) parts apart lines passed fresh around h = same_parts events parts apart lines (passed || not fresh) false around h
same_parts (line (Begins leaf) text ∷ events) parts apart lines passed fresh around h = refl
same_parts (line HtmlDeed text ∷ events) parts apart lines passed fresh around h = refl
same_parts (line (HeadingDeed level) text ∷ events) parts apart lines passed fresh around h = refl
same_parts (line RuleDeed text ∷ events) parts apart lines passed fresh around h = refl
same_parts (line GoesOn text ∷ events) parts apart lines passed fresh around h = let no : false ≡ true = h in absurd (cc)
same_parts (line Closes text ∷ events) parts apart lines passed fresh around h = let no : false ≡ true = h in absurd (cc)
same_parts (line (Underlines level) text ∷ events) parts apart lines passed fresh around h = let no : false ≡ true = h in absurd (cc)
same_parts (line (Tabulates columns) text ∷ events) parts apart lines passed fresh around h = let no : false ≡ true = h in absurd (cc)

-- it doesn't matter at which column lines stand
pub opens_flat : (events : List Event) → opens (map flat_event events) ≡ opens events
opens_flat [] = refl
opens_flat (leave ∷ events) = opens_flat events
opens_flat (enter container ∷ events) = opens_flat events
opens_flat (line Blank text ∷ events) = opens_flat events
opens_flat (line (Begins leaf) text ∷ events) = refl
opens_flat (line HtmlDeed text ∷ events) = refl
opens_flat (line (HeadingDeed level) text ∷ events) = refl
opens_flat (line RuleDeed text ∷ events) = refl
opens_flat (line GoesOn text ∷ events) = refl
opens_flat (line Closes text ∷ events) = refl
opens_flat (line (Underlines level) text ∷ events) = refl
opens_flat (line (Tabulates columns) text ∷ events) = refl

-- ---- a line where no leaf is open

-- no leaf is open
abbrev is_idle : Leaf → Bool
is_idle NothingLeaf = true
is_idle Bare = true
is_idle _ = false

-- the line begins a leaf, or is blank and leaves none open
data Opening (done : Step) : Type 0 where
  left_none : done.line.deed ≡ Blank → is_idle done.state.leaf ≡ true → Opening done
  begun_one : begins_leaf done.line.deed ≡ true → Opening done

-- so does a line that begins so, where these containers begin in it
record IsFine (state : State) (count : ℕ) (begun : Opens) (begins_so : Beginning) : Type 0 where
  opening : Opening (done_line state count begun (deed_of (joining_of false false) state.cells begins_so) begins_so.text)

either_idle : (t : Bool) → is_idle (cond t Bare NothingLeaf) ≡ true
either_idle true = refl
either_idle false = refl

either_leaf : (t : Bool) (next : Leaf) → begins_leaf (cond t HtmlDeed (Begins next)) ≡ true
either_leaf true next = refl
either_leaf false next = refl

rule_fine : (state : State) (count : ℕ) (begun : Opens) (rest : Remaining) → IsFine state count begun (rule_start rest)
rule_fine state count begun rest =
    cond_both (is_rule rest.bytes) _ _ (λ (b : Beginning). IsFine state count begun b) (λ e. record { opening = begun_one refl }) (λ e. record { opening = begun_one refl })

html_fine : (ending : Option Ending) (state : State) (count : ℕ) (begun : Opens) (uncut rest : Remaining) → IsFine state count begun (or_underline ending (joining_of false false) uncut rest)
html_fine None state count begun uncut rest = rule_fine state count begun rest
html_fine (Some ending) state count begun uncut rest = record { opening = begun_one (either_leaf (ends_html ending rest.bytes) (HtmlLeaf ending)) }

fence_fine : (fence : Option Fence) (indent : ℕ) (state : State) (count : ℕ) (begun : Opens) (uncut rest : Remaining) → IsFine state count begun (or_html fence (joining_of false false) indent uncut rest)
fence_fine None indent state count begun uncut rest = html_fine (html_start false rest.bytes) state count begun uncut rest
fence_fine (Some fence) indent state count begun uncut rest = record { opening = begun_one refl }

heading_fine : (level : Option ℕ) (indent : ℕ) (state : State) (count : ℕ) (begun : Opens) (uncut rest : Remaining) → IsFine state count begun (or_fence level (joining_of false false) indent uncut rest)
heading_fine None indent state count begun uncut rest = fence_fine (fence_start rest.bytes) indent state count begun uncut rest
heading_fine (Some level) indent state count begun uncut rest = record { opening = begun_one refl }

start_fine : (state : State) (count : ℕ) (begun : Opens) (rest : Remaining) → IsFine state count begun (leaf_start (joining_of false false) rest)
unfolding leaf_start mark_start
start_fine state count begun rest =
    cond_both (is_blank rest.bytes) _ _ (λ (b : Beginning). IsFine state count begun b) (λ e. record { opening = left_none refl (either_idle (ends_in_item false begun.containers)) })
    (λ e. cond_both (columns_in_front 4 rest == 4) _ _ (λ (b : Beginning). IsFine state count begun b) (λ f. record { opening = begun_one refl })
    (λ f. heading_fine (heading_level (take_columns 4 rest).bytes) (columns_in_front 4 rest) state count begun rest (take_columns 4 rest)))

either_opening : (t : Bool) (done : Step) → Opening done → Opening (cond t done done)
either_opening true done h = h
either_opening false done h = h

-- what begins in a line behind these containers, where no paragraph is open
abbrev begun_behind : Matched → Opens
begun_behind found = opened (64 - found.count) false found.rest

begun_opening : (state : State) (found : Matched) (now : Leaf) → is_idle now ≡ true → Opening (begun_line (record state { leaf = now }) found)
unfolding begun_line
begun_opening state found NothingLeaf h = (start_fine (record state { leaf = NothingLeaf }) found.count (begun_behind found) (begun_behind found).rest).opening
begun_opening state found Bare h = (start_fine (record state { leaf = Bare }) found.count (begun_behind found) (begun_behind found).rest).opening
begun_opening state found ParagraphLeaf h = let no : false ≡ true = h in absurd (cc)
begun_opening state found IndentedLeaf h = let no : false ≡ true = h in absurd (cc)
begun_opening state found (FencedLeaf sign length indent) h = let no : false ≡ true = h in absurd (cc)
begun_opening state found (HtmlLeaf ending) h = let no : false ≡ true = h in absurd (cc)
begun_opening state found TableLeaf h = let no : false ≡ true = h in absurd (cc)

found_opening : (state : State) (found : Matched) (now : Leaf) → is_idle now ≡ true → Opening (line_step (record state { leaf = now }) found)
unfolding line_step going_on
found_opening state found NothingLeaf h = either_opening (found.count == length state.containers) (begun_line (record state { leaf = NothingLeaf }) found) (begun_opening state found NothingLeaf h)
found_opening state found Bare h = either_opening (found.count == length state.containers) (begun_line (record state { leaf = Bare }) found) (begun_opening state found Bare h)
found_opening state found ParagraphLeaf h = let no : false ≡ true = h in absurd (cc)
found_opening state found IndentedLeaf h = let no : false ≡ true = h in absurd (cc)
found_opening state found (FencedLeaf sign length indent) h = let no : false ≡ true = h in absurd (cc)
found_opening state found (HtmlLeaf ending) h = let no : false ≡ true = h in absurd (cc)
found_opening state found TableLeaf h = let no : false ≡ true = h in absurd (cc)

step_opening : (state : State) (text : List ℕ) → is_idle state.leaf ≡ true → Opening (step state text)
unfolding step
step_opening state text h = found_opening state (matched (is_bare state.leaf) state.containers (whole text)) state.leaf h

-- ---- all lines

leaves_open : (n : ℕ) → opens (leaves n) ≡ true
leaves_open zero = refl
leaves_open (suc n) = leaves_open n

leaves_then : (n : ℕ) (events : List Event) → opens (leaves n ++ events) ≡ opens events
leaves_then zero events = refl
leaves_then (suc n) events = leaves_then n events

enters_then : (containers : List Container) (events : List Event) → opens (map enter containers ++ events) ≡ opens events
enters_then [] events = refl
enters_then (c ∷ cs) events = enters_then cs events

leaf_opens : (deed : Deed) (text : Remaining) (events : List Event) → begins_leaf deed ≡ true → opens (line deed text ∷ events) ≡ true
leaf_opens Blank text events h = let no : false ≡ true = h in absurd (cc)
leaf_opens (Begins leaf) text events h = refl
leaf_opens HtmlDeed text events h = refl
leaf_opens GoesOn text events h = let no : false ≡ true = h in absurd (cc)
leaf_opens Closes text events h = let no : false ≡ true = h in absurd (cc)
leaf_opens (Underlines level) text events h = let no : false ≡ true = h in absurd (cc)
leaf_opens (Tabulates columns) text events h = let no : false ≡ true = h in absurd (cc)
leaf_opens (HeadingDeed level) text events h = refl
leaf_opens RuleDeed text events h = refl

line_opens : (done : Step) (events : List Event) → (is_idle done.state.leaf ≡ true → opens events ≡ true) → Opening done → opens (line done.line.deed done.line.text ∷ events) ≡ true
line_opens done events others (left_none e h) = ap (λ (d : Deed). opens (line d done.line.text ∷ events)) e ∙ others h
line_opens done events others (begun_one h) = leaf_opens done.line.deed done.line.text events h

-- where no leaf is open, the first line that isn't blank begins one
pub opens_from : (lines : List (List ℕ)) (state : State) → is_idle state.leaf ≡ true → opens (events_from state lines) ≡ true
unfolding events_from
opens_from [] state h = leaves_open (length state.containers)
opens_from (text ∷ texts) state h =
    let done = step state text in
    let gone = length state.containers - done.line.kept in
    let begun = drop done.line.kept done.state.containers in
    let others = events_from done.state texts in
    ap opens (line_then gone begun done.line.deed done.line.text others)
    ∙ leaves_then gone (map enter begun ++ line done.line.deed done.line.text ∷ others)
    ∙ enters_then begun (line done.line.deed done.line.text ∷ others)
    ∙ line_opens done others (λ e. opens_from texts done.state e) (step_opening state text h)
