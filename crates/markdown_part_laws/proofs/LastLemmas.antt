-- A blank line at the end of a text.
use Rattle.std.proofs.Common.{◌≡◌, ℕ, zero, suc, ◌+◌, ◌-◌, ◌≤◌, ◌==◌, ◌⊎◌, inl, inr, Bool, true, false, cond, ◌||◌, List, [], ◌∷◌, ◌++◌, map, length, take, drop, replicate, refl, sym, ap, subst, ◌∙◌, append_assoc, append-nil, arith, if◌then◌else◌}
use Rattle.std.proofs.lemmas.List.{length-take-le, replicate-append-replicate}
use Rattle.markdown_marks.specs.Bytes.{is_blank}
use Rattle.markdown_marks.specs.Remaining.{Remaining, columns_in_front, take_columns, whole}
use Rattle.markdown_html.specs.Ends.{ends_html}
use Rattle.markdown_html.specs.declared.starts.Ending.{Ending}
use Rattle.markdown_blocks.specs.Containers.{Matched, matched}
use Rattle.markdown_blocks.specs.Events.{Event, enter, line, leaves, step_events, events_from}
use Rattle.markdown_blocks.specs.Leaves.{closes_fence, ends_by_blank, going_on, is_bare, margin}
use Rattle.markdown_blocks.specs.Lines.{text_lines}
use Rattle.markdown_blocks.specs.Steps.{State, Step, begun_line, line_done, line_step, matched_line, same_containers, step}
use Rattle.markdown_blocks.specs.declared.containers.Container.{Container}
use Rattle.markdown_blocks.specs.declared.leaves.Deed.{Deed}
use Rattle.markdown_blocks.specs.declared.leaves.Deed.TheVariants.{Blank as BlankLine, Begins, Html as HtmlLine, GoesOn, Closes, Underlines, Tabulates, Heading as HeadingLine, Rule as RuleLine}
use Rattle.markdown_blocks.specs.declared.leaves.Leaf.{Leaf}
use Rattle.markdown_blocks.specs.declared.leaves.Leaf.TheVariants.{Nothing as NothingLeaf, Bare, Paragraph as ParagraphLeaf, Indented as IndentedLeaf, Fenced as FencedLeaf, Html as HtmlLeaf, Table as TableLeaf}
use Rattle.markdown_blocks.proofs.DeedLemmas.{LeafBehind, is_none_leaf, leaf_behind}
use Rattle.markdown_blocks.proofs.PlaceLemmas.{matched_within}
use Rattle.markdown_blocks.proofs.WithinLemmas.{at_first}
use Rattle.markdown_leaves.specs.Gather.{Gathering, closed, closed_as, filled_from, kind_of, left, nothing_told}
use Rattle.markdown_leaves.specs.Gather as gather
use Rattle.markdown_leaves.specs.Parts.{BlockContent, PartContent, ends, block}
use Rattle.markdown_leaves.specs.Told.{told, parts_of}
use Rattle.markdown_leaves.specs.declared.parts.Kind.{Kind}
use Rattle.markdown_leaves.specs.declared.parts.Kind.TheVariants.{Nothing, Paragraph, Heading, Indented, Fenced, Html, Table, Rule, Definitions}
use Rattle.markdown_laws.proofs.FenceLemmas.{ended, read_of}
use Rattle.markdown_laws.proofs.HeldLemmas.{told_then}
use Rattle.markdown_part_laws.specs.LastBlank.{HasLineMore, LastBlankIsNothing, keeps_blanks}
use Rattle.markdown_part_laws.proofs.BlankLemmas.{blank_begun, blank_matched, blank_taken, no_opens}

-- ---- containers that end

closed_kind_as : (kind : Kind) (g : Gathering) → g.kind ≡ kind → (closed_as kind g).kind ≡ Nothing
closed_kind_as Nothing g e = e
closed_kind_as Paragraph g e = refl
closed_kind_as (Heading level) g e = refl
closed_kind_as Indented g e = refl
closed_kind_as Fenced g e = refl
closed_kind_as Html g e = refl
closed_kind_as (Table columns) g e = refl
closed_kind_as Rule g e = refl
closed_kind_as Definitions g e = refl

-- no leaf is open after one has ended
pub closed_kind : (g : Gathering) → (closed g).kind ≡ Nothing
unfolding closed
closed_kind g = closed_kind_as g.kind g refl

-- where none is open, nothing ends
pub closed_none : (g : Gathering) → g.kind ≡ Nothing → closed g ≡ g
unfolding closed
closed_none g e = ap (λ (k : Kind). closed_as k g) e

left_parts : (g : Gathering) → (closed (left g)).parts ≡ (closed g).parts ++ ends ∷ []
left_parts g = ap (λ (x : Gathering). x.parts) (closed_none (left g) (closed_kind g))

ends_more : (k : ℕ) (parts : List PartContent) → (parts ++ ends ∷ []) ++ replicate k ends ≡ parts ++ replicate (suc k) ends
ends_more k parts = append_assoc parts (ends ∷ []) (replicate k ends)

-- where containers end, the open leaf is told, and then their ends
leaves_parts : (k : ℕ) (g : Gathering) → (closed (told g (leaves k))).parts ≡ (closed g).parts ++ replicate k ends
unfolding told
leaves_parts zero g = sym (append-nil (closed g).parts)
leaves_parts (suc k) g =
    leaves_parts k (left g) ∙ ap (λ (ps : List PartContent). ps ++ replicate k ends) (left_parts g) ∙ ends_more k (closed g).parts

-- ---- the outcome of a last line

-- the same parts, or a line more
abbrev IsOutcome : (parts more : List PartContent) → Type 0
IsOutcome parts more = (more ≡ parts) ⊎ HasLineMore parts more

-- what is told where the text ends after this step
abbrev after_step : State → Gathering → Step → List PartContent
after_step state g done = ended g (step_events state done ++ leaves (length done.state.containers))

-- and where it ends before
abbrev before_step : State → Gathering → List PartContent
before_step state g = ended g (leaves (length state.containers))

abbrev EndsAlike : State → Gathering → Step → Type 0
EndsAlike state g done = IsOutcome (before_step state g) (after_step state g done)

-- what a line does
abbrev lined : Deed → Remaining → Gathering → Gathering
lined deed text g = record (gather.line_done deed text g) { fresh = false }

-- ---- a blank line that begins nothing

blanked_parts : (text : Remaining) (g : Gathering) → (closed (lined BlankLine text g)).parts ≡ (closed g).parts
unfolding gather.line_done
blanked_parts text g = ap (λ (x : Gathering). x.parts) (closed_none (lined BlankLine text g) (closed_kind g))

-- some containers end, and the others after the line
blank_between : (gone kept : ℕ) (text : Remaining) (g : Gathering)
    → ended g ((leaves gone ++ line BlankLine text ∷ []) ++ leaves kept) ≡ ended g (leaves (gone + kept))
unfolding told
blank_between gone kept text g =
    let x = told g (leaves gone) in
    ap (λ (h : Gathering). (closed h).parts) (told_then (leaves gone ++ line BlankLine text ∷ []) (leaves kept) g)
    ∙ leaves_parts kept (told g (leaves gone ++ line BlankLine text ∷ []))
    ∙ ap (λ (h : Gathering). (closed h).parts ++ replicate kept ends) (told_then (leaves gone) (line BlankLine text ∷ []) g)
    ∙ ap (λ (ps : List PartContent). ps ++ replicate kept ends) (blanked_parts text x ∙ leaves_parts gone g)
    ∙ append_assoc (closed g).parts (replicate gone ends) (replicate kept ends)
    ∙ ap (λ (ps : List PartContent). (closed g).parts ++ ps) (replicate-append-replicate gone kept ends)
    ∙ sym (leaves_parts (gone + kept) g)

none_behind : (n : ℕ) (cs : List Container) → drop n (take n cs) ≡ []
none_behind zero cs = refl
none_behind (suc n) [] = refl
none_behind (suc n) (c ∷ cs) = none_behind n cs

-- what happens in such a line, after which these containers are open
abbrev events_to : (all count : ℕ) → List Container → Remaining → List Event
events_to all count after text = (leaves (all - count) ++ (map enter (drop count after) ++ line BlankLine text ∷ [])) ++ leaves (length after)

all_of : (count all : ℕ) → count ≤ all → (all - count) + count ≡ all
all_of count all h = omega (arith, h)

blank_alike : (state : State) (count : ℕ) (rest : Remaining) (g : Gathering) → count ≤ length state.containers
    → after_step state g (line_done state count (no_opens rest) BlankLine rest) ≡ before_step state g
blank_alike state count rest g h =
    let all = length state.containers in
    let stay = take count state.containers in
    ap (λ (cs : List Container). ended g (events_to all count cs rest)) (append-nil stay)
    ∙ ap (λ (cs : List Container). ended g ((leaves (all - count) ++ (map enter cs ++ line BlankLine rest ∷ [])) ++ leaves (length stay))) (none_behind count state.containers)
    ∙ ap (λ (n : ℕ). ended g ((leaves (all - count) ++ line BlankLine rest ∷ []) ++ leaves n)) (length-take-le count state.containers h)
    ∙ blank_between (all - count) count rest g
    ∙ ap (λ (n : ℕ). ended g (leaves n)) (all_of count all h)

begun_alike : (state : State) (found : Matched) (g : Gathering) → found.count ≤ length state.containers → is_blank found.rest.bytes ≡ true → EndsAlike state g (begun_line state found)
begun_alike state found g within h =
    subst (λ (done : Step). EndsAlike state g done) (sym (blank_begun state found h)) (inl (blank_alike state found.count found.rest g within))

-- ---- a blank line that the open leaf takes

-- the leaf is gathered as its kind
abbrev IsGathered : Leaf → Kind → Type 0
IsGathered IndentedLeaf kind = kind ≡ Indented
IsGathered (FencedLeaf sign length indent) kind = kind ≡ Fenced
IsGathered (HtmlLeaf ending) kind = kind ≡ Html
IsGathered _ kind = Unit {0}

-- such a leaf takes blank lines
abbrev TakesBlanks : Kind → Type 0
TakesBlanks kind = (keeps_blanks kind ≡ true) ⊎ (kind ≡ Indented)

none_left : (n : ℕ) → n - n ≡ 0
none_left n = omega arith

drop_all : (containers : List Container) → drop (length containers) containers ≡ []
drop_all [] = refl
drop_all (c ∷ cs) = drop_all cs

-- a line in which no container ends or begins
same_events : (deed : Deed) (text : Remaining) (state : State) (g : Gathering) (leaf : Leaf)
    → after_step state g (same_containers state leaf deed text) ≡ (closed (lined deed text g)).parts ++ replicate (length state.containers) ends
unfolding told
same_events deed text state g leaf =
    let n = length state.containers in
    let cs = state.containers in
    ap (λ (m : ℕ). ended g ((leaves m ++ (map enter (drop n cs) ++ line deed text ∷ [])) ++ leaves n)) (none_left n)
    ∙ ap (λ (os : List Container). ended g ((map enter os ++ line deed text ∷ []) ++ leaves n)) (drop_all cs)
    ∙ leaves_parts n (lined deed text g)

-- a leaf with these lines
abbrev leaf_with : Gathering → List Remaining → BlockContent
leaf_with g lines = record { kind = g.kind; apart = g.apart; lines = lines }

closed_kept_as : (kind : Kind) (g : Gathering) → g.kind ≡ kind → keeps_blanks kind ≡ true → (closed_as kind g).parts ≡ g.parts ++ block (leaf_with g g.lines) ∷ []
closed_kept_as Fenced g e h = refl
closed_kept_as Html g e h = refl
closed_kept_as Nothing g e h = let no : false ≡ true = h in absurd (cc)
closed_kept_as Paragraph g e h = let no : false ≡ true = h in absurd (cc)
closed_kept_as (Heading level) g e h = let no : false ≡ true = h in absurd (cc)
closed_kept_as Indented g e h = let no : false ≡ true = h in absurd (cc)
closed_kept_as (Table columns) g e h = let no : false ≡ true = h in absurd (cc)
closed_kept_as Rule g e h = let no : false ≡ true = h in absurd (cc)
closed_kept_as Definitions g e h = let no : false ≡ true = h in absurd (cc)

closed_kept : (g : Gathering) → keeps_blanks g.kind ≡ true → (closed g).parts ≡ g.parts ++ block (leaf_with g g.lines) ∷ []
unfolding closed
closed_kept g h = closed_kept_as g.kind g refl h

-- with a line more
abbrev with_line : Remaining → Gathering → Gathering
with_line text g = lined GoesOn text g

kept_more : (text : Remaining) (g : Gathering) → keeps_blanks g.kind ≡ true → (closed (with_line text g)).parts ≡ g.parts ++ block (leaf_with g (g.lines ++ text ∷ [])) ∷ []
unfolding closed gather.line_done
kept_more text g h = closed_kept_as g.kind (with_line text g) refl h

-- blank lines at the end of indented code are left out
filled_more : (count filled : ℕ) (lines : List Remaining) (text : Remaining) → is_blank text.bytes ≡ true → filled_from count filled (lines ++ text ∷ []) ≡ filled_from count filled lines
unfolding filled_from
filled_more count filled [] text h = rw h refl
filled_more count filled (l ∷ lines) text h = filled_more (count + 1) (if is_blank l.bytes then filled else count + 1) lines text h

filled_within : (count filled : ℕ) (lines : List Remaining) → filled ≤ count → filled_from count filled lines ≤ count + length lines
unfolding filled_from
filled_within count filled [] h = omega (arith, h)
filled_within count filled (l ∷ lines) h =
    by_blank (is_blank l.bytes) (filled_within (count + 1) filled lines (omega (arith, h))) (filled_within (count + 1) (count + 1) lines (omega arith))
  where
    by_blank : (t : Bool) → filled_from (count + 1) filled lines ≤ count + 1 + length lines → filled_from (count + 1) (count + 1) lines ≤ count + 1 + length lines
        → filled_from (count + 1) (if t then filled else count + 1) lines ≤ count + suc (length lines)
    by_blank true f g = omega (arith, f)
    by_blank false f g = omega (arith, g)

take_front : (n : ℕ) (xs ys : List Remaining) → n ≤ length xs → take n (xs ++ ys) ≡ take n xs
take_front zero xs ys h = refl
take_front (suc n) [] ys h = absurd (omega (arith, h))
take_front (suc n) (x ∷ xs) ys h = ap (λ (ls : List Remaining). x ∷ ls) (take_front n xs ys (omega (arith, h)))

-- indented code of these lines
abbrev code_of : Gathering → List Remaining → List PartContent
code_of g lines = g.parts ++ block (record { kind = Indented; apart = g.apart; lines = lines }) ∷ []

indented_more : (text : Remaining) (g : Gathering) → g.kind ≡ Indented → is_blank text.bytes ≡ true → (closed (with_line text g)).parts ≡ (closed g).parts
unfolding closed gather.line_done
indented_more text g e h =
    let count = filled_from 0 0 g.lines in
    ap (λ (k : Kind). (closed_as k (with_line text g)).parts) e
    ∙ ap (λ (n : ℕ). code_of g (take n (g.lines ++ text ∷ []))) (filled_more 0 0 g.lines text h)
    ∙ ap (λ (ls : List Remaining). code_of g ls) (take_front count g.lines (text ∷ []) (omega (arith, filled_within 0 0 g.lines (omega arith))))
    ∙ ap (λ (k : Kind). (closed_as k g).parts) (sym e)

-- a leaf that goes on with a blank line has a line more, or leaves it out
goes_alike : (text : Remaining) (state : State) (g : Gathering) (leaf : Leaf) → is_blank text.bytes ≡ true → TakesBlanks g.kind → EndsAlike state g (same_containers state leaf GoesOn text)
goes_alike text state g leaf h (inl k) =
    let n = length state.containers in
    inr (record {
      before = g.parts;
      leaf = leaf_with g g.lines;
      keeps = k;
      line = text;
      blank = h;
      closing = n;
      less = leaves_parts n g ∙ ap (λ (ps : List PartContent). ps ++ replicate n ends) (closed_kept g k) ∙ append_assoc g.parts (block (leaf_with g g.lines) ∷ []) (replicate n ends);
      more = same_events GoesOn text state g leaf ∙ ap (λ (ps : List PartContent). ps ++ replicate n ends) (kept_more text g k)
          ∙ append_assoc g.parts (block (leaf_with g (g.lines ++ text ∷ [])) ∷ []) (replicate n ends);
    })
goes_alike text state g leaf h (inr e) =
    let n = length state.containers in
    inl (same_events GoesOn text state g leaf ∙ ap (λ (ps : List PartContent). ps ++ replicate n ends) (indented_more text g e h) ∙ sym (leaves_parts n g))

closed_parts : (text : Remaining) (g : Gathering) → (closed (lined Closes text g)).parts ≡ (closed g).parts
unfolding gather.line_done
closed_parts text g = ap (λ (x : Gathering). x.parts) (closed_none (lined Closes text g) (closed_kind g))

closes_alike : (text : Remaining) (state : State) (g : Gathering) (leaf : Leaf) → EndsAlike state g (same_containers state leaf Closes text)
closes_alike text state g leaf =
    let n = length state.containers in
    inl (same_events Closes text state g leaf ∙ ap (λ (ps : List PartContent). ps ++ replicate n ends) (closed_parts text g) ∙ sym (leaves_parts n g))

-- what the open leaf makes of a line in which all containers go on
abbrev taken_line : Leaf → State → Matched → Step
taken_line leaf state found = matched_line (going_on leaf found.rest) state found

-- it goes on with the line, and is this leaf then
abbrev goes_step : Leaf → State → Matched → Step
goes_step next state found = same_containers state next GoesOn (take_columns (margin state.leaf) found.rest)

indented_on : (state : State) (found : Matched) → (is_blank found.rest.bytes || (columns_in_front 4 found.rest == 4)) ≡ true → taken_line IndentedLeaf state found ≡ goes_step state.leaf state found
unfolding going_on
indented_on state found e = rw e refl

fence_on : (sign length indent : ℕ) (state : State) (found : Matched) → closes_fence sign length found.rest ≡ false → taken_line (FencedLeaf sign length indent) state found ≡ goes_step state.leaf state found
unfolding going_on
fence_on sign length indent state found e = rw e refl

fence_ends : (sign length indent : ℕ) (state : State) (found : Matched) → closes_fence sign length found.rest ≡ true → taken_line (FencedLeaf sign length indent) state found ≡ same_containers state NothingLeaf Closes found.rest
unfolding going_on
fence_ends sign length indent state found e = rw e refl

html_blank : (ending : Ending) (state : State) (found : Matched) → ends_by_blank ending ≡ true → is_blank found.rest.bytes ≡ true → taken_line (HtmlLeaf ending) state found ≡ begun_line state found
unfolding going_on
html_blank ending state found e h = rw e (rw h refl)

html_last : (ending : Ending) (state : State) (found : Matched) → ends_by_blank ending ≡ false → ends_html ending found.rest.bytes ≡ true → taken_line (HtmlLeaf ending) state found ≡ goes_step NothingLeaf state found
unfolding going_on
html_last ending state found e h = rw e (rw h refl)

html_on : (ending : Ending) (state : State) (found : Matched) → ends_by_blank ending ≡ false → ends_html ending found.rest.bytes ≡ false → taken_line (HtmlLeaf ending) state found ≡ goes_step state.leaf state found
unfolding going_on
html_on ending state found e h = rw e (rw h refl)

by_test : (t : Bool) (A : Type 0) → (t ≡ true → A) → (t ≡ false → A) → A
by_test true A f g = f refl
by_test false A f g = g refl

by_step : (state : State) (g : Gathering) (x y : Step) → x ≡ y → EndsAlike state g y → EndsAlike state g x
by_step state g x y e h = subst (λ (done : Step). EndsAlike state g done) (sym e) h

or_first : (p q : Bool) → p ≡ true → (p || q) ≡ true
or_first p q h = ap (λ t. t || q) h

taken_alike : (leaf : Leaf) (state : State) (found : Matched) (g : Gathering) → found.count ≤ length state.containers → is_blank found.rest.bytes ≡ true → IsGathered leaf g.kind → EndsAlike state g (taken_line leaf state found)
unfolding going_on
taken_alike NothingLeaf state found g within h e = begun_alike state found g within h
taken_alike Bare state found g within h e = begun_alike state found g within h
taken_alike ParagraphLeaf state found g within h e = begun_alike state found g within h
taken_alike TableLeaf state found g within h e = begun_alike state found g within h
taken_alike IndentedLeaf state found g within h e =
    by_step state g (taken_line IndentedLeaf state found) (goes_step state.leaf state found) (indented_on state found (or_first (is_blank found.rest.bytes) (columns_in_front 4 found.rest == 4) h))
    (goes_alike (take_columns (margin state.leaf) found.rest) state g state.leaf (blank_taken (margin state.leaf) found.rest h) (inr e))
taken_alike (FencedLeaf sign length indent) state found g within h e =
    let fence = FencedLeaf sign length indent in
    by_test (closes_fence sign length found.rest) (EndsAlike state g (taken_line fence state found))
    (λ c. by_step state g (taken_line fence state found) (same_containers state NothingLeaf Closes found.rest) (fence_ends sign length indent state found c) (closes_alike found.rest state g NothingLeaf))
    (λ c. by_step state g (taken_line fence state found) (goes_step state.leaf state found) (fence_on sign length indent state found c)
    (goes_alike (take_columns (margin state.leaf) found.rest) state g state.leaf (blank_taken (margin state.leaf) found.rest h) (inl (ap keeps_blanks e))))
taken_alike (HtmlLeaf ending) state found g within h e =
    let html = HtmlLeaf ending in
    let goes : (next : Leaf) → EndsAlike state g (goes_step next state found) =
    λ next. goes_alike (take_columns (margin state.leaf) found.rest) state g next (blank_taken (margin state.leaf) found.rest h) (inl (ap keeps_blanks e)) in
    by_test (ends_by_blank ending) (EndsAlike state g (taken_line html state found))
    (λ b. by_step state g (taken_line html state found) (begun_line state found) (html_blank ending state found b h) (begun_alike state found g within h))
    (λ b. by_test (ends_html ending found.rest.bytes) (EndsAlike state g (taken_line html state found))
    (λ c. by_step state g (taken_line html state found) (goes_step NothingLeaf state found) (html_last ending state found b c) (goes NothingLeaf))
    (λ c. by_step state g (taken_line html state found) (goes_step state.leaf state found) (html_on ending state found b c) (goes state.leaf)))

either_alike : (t : Bool) (state : State) (g : Gathering) (x y : Step) → EndsAlike state g x → EndsAlike state g y → EndsAlike state g (cond t x y)
either_alike true state g x y f h = f
either_alike false state g x y f h = h

-- a blank line that is the last
last_alike : (state : State) (blank : List ℕ) (g : Gathering) → is_blank blank ≡ true → IsGathered state.leaf g.kind → EndsAlike state g (step state blank)
unfolding step line_step
last_alike state blank g h e =
    let found = matched (is_bare state.leaf) state.containers (whole blank) in
    let within = matched_within (is_bare state.leaf) state.containers (whole blank) in
    let left = blank_matched (is_bare state.leaf) state.containers (whole blank) h in
    either_alike (found.count == length state.containers) state g (taken_line state.leaf state found) (begun_line state found)
    (taken_alike state.leaf state found g within left e) (begun_alike state found g within left)

-- ---- the lines before it

none_gathered : (leaf : Leaf) (kind : Kind) → is_none_leaf leaf ≡ true → IsGathered leaf kind
none_gathered NothingLeaf kind h = tt
none_gathered Bare kind h = tt
none_gathered ParagraphLeaf kind h = tt
none_gathered TableLeaf kind h = tt
none_gathered IndentedLeaf kind h = let no : false ≡ true = h in absurd (cc)
none_gathered (FencedLeaf sign length indent) kind h = let no : false ≡ true = h in absurd (cc)
none_gathered (HtmlLeaf ending) kind h = let no : false ≡ true = h in absurd (cc)

table_gathered : (leaf : Leaf) (kind : Kind) → leaf ≡ TableLeaf → IsGathered leaf kind
table_gathered leaf kind e = subst (λ (l : Leaf). IsGathered l kind) (sym e) tt

begun_gathered : (leaf : Leaf) → IsGathered leaf (kind_of leaf)
begun_gathered NothingLeaf = tt
begun_gathered Bare = tt
begun_gathered ParagraphLeaf = tt
begun_gathered TableLeaf = tt
begun_gathered IndentedLeaf = refl
begun_gathered (FencedLeaf sign length indent) = refl
begun_gathered (HtmlLeaf ending) = refl

-- what happens in a line
abbrev events_at : ℕ → List Container → Deed → Remaining → List Event
events_at gone opens deed text = leaves gone ++ (map enter opens ++ line deed text ∷ [])

lined_last : (gone : ℕ) (opens : List Container) (deed : Deed) (text : Remaining) (g : Gathering)
    → told g (events_at gone opens deed text) ≡ lined deed text (told (told g (leaves gone)) (map enter opens))
unfolding told
lined_last gone opens deed text g =
    told_then (leaves gone) (map enter opens ++ line deed text ∷ []) g ∙ told_then (map enter opens) (line deed text ∷ []) (told g (leaves gone))

begins_kind : (leaf : Leaf) (text : Remaining) (g : Gathering) → (lined (Begins leaf) text g).kind ≡ kind_of leaf
unfolding gather.line_done
begins_kind leaf text g = refl

goes_kind : (text : Remaining) (g : Gathering) → (told g (line GoesOn text ∷ [])).kind ≡ g.kind
unfolding told gather.line_done
goes_kind text g = refl

same_or_none : (leaf next : Leaf) (kind : Kind) → (next ≡ leaf) ⊎ (next ≡ NothingLeaf) → IsGathered leaf kind → IsGathered next kind
same_or_none leaf next kind (inl e) h = subst (λ (l : Leaf). IsGathered l kind) (sym e) h
same_or_none leaf next kind (inr e) h = subst (λ (l : Leaf). IsGathered l kind) (sym e) tt

gathered_by : (state : State) (done : Step) (deed : Deed) (text : Remaining) (g : Gathering) → LeafBehind state done deed → IsGathered state.leaf g.kind
    → IsGathered done.state.leaf (told g (events_at (length state.containers - done.line.kept) (drop done.line.kept done.state.containers) deed text)).kind
gathered_by state done BlankLine text g b h = none_gathered done.state.leaf _ b
gathered_by state done HtmlLine text g b h = none_gathered done.state.leaf _ b
gathered_by state done Closes text g b h = none_gathered done.state.leaf _ b
gathered_by state done (Underlines level) text g b h = none_gathered done.state.leaf _ b
gathered_by state done (HeadingLine level) text g b h = none_gathered done.state.leaf _ b
gathered_by state done RuleLine text g b h = none_gathered done.state.leaf _ b
gathered_by state done (Tabulates columns) text g b h = table_gathered done.state.leaf _ b
gathered_by state done (Begins leaf) text g b h =
    let gone = length state.containers - done.line.kept in
    let opens = drop done.line.kept done.state.containers in
    subst (λ (l : Leaf). IsGathered l (told g (events_at gone opens (Begins leaf) text)).kind) (sym b.0)
    (subst (λ (k : Kind). IsGathered leaf k) (sym (ap (λ (x : Gathering). x.kind) (lined_last gone opens (Begins leaf) text g) ∙ begins_kind leaf text _)) (begun_gathered leaf))
gathered_by state done GoesOn text g b h =
    let n = length state.containers in
    let cs = done.state.containers in
    let are : events_at (n - done.line.kept) (drop done.line.kept cs) GoesOn text ≡ line GoesOn text ∷ [] =
    ap (λ (m : ℕ). events_at (n - m) (drop m cs) GoesOn text) b.0 ∙ ap (λ (m : ℕ). events_at m (drop n cs) GoesOn text) (none_left n) ∙ ap (λ (os : List Container). events_at 0 os GoesOn text) b.1 in
    let kind : (told g (events_at (n - done.line.kept) (drop done.line.kept cs) GoesOn text)).kind ≡ g.kind =
    ap (λ (es : List Event). (told g es).kind) are ∙ goes_kind text g in
    subst (λ (k : Kind). IsGathered done.state.leaf k) (sym kind) (same_or_none state.leaf done.state.leaf g.kind b.3 h)

-- ---- the law

alike_from : (lines : List (List ℕ)) (blank : List ℕ) (state : State) (g : Gathering) → is_blank blank ≡ true → IsGathered state.leaf g.kind
    → IsOutcome (ended g (events_from state lines)) (ended g (events_from state (lines ++ blank ∷ [])))
unfolding events_from
alike_from [] blank state g h e = last_alike state blank g h e
alike_from (text ∷ texts) blank state g h e =
    let done = step state text in
    let events = step_events state done in
    let next = told g events in
    let later = alike_from texts blank done.state next h (gathered_by state done done.line.deed done.line.text g (leaf_behind state text) e) in
    subst (λ (x : Gathering). IsOutcome (closed x).parts (ended g (events ++ events_from done.state (texts ++ blank ∷ [])))) (sym (told_then events (events_from done.state texts) g))
    (subst (λ (x : Gathering). IsOutcome (ended next (events_from done.state texts)) (closed x).parts) (sym (told_then events (events_from done.state (texts ++ blank ∷ [])) g)) later)

-- a blank line at the end of a text
pub last_blank : LastBlankIsNothing
last_blank text other blank are h =
    subst (λ (ps : List PartContent). IsOutcome ps (parts_of other)) (sym (read_of text))
    (subst (λ (ps : List PartContent). IsOutcome (ended nothing_told (events_from at_first (text_lines text))) ps) (sym (read_of other ∙ ap (λ (ls : List (List ℕ)). ended nothing_told (events_from at_first ls)) are))
    (alike_from (text_lines text) blank at_first nothing_told h tt))
