-- A line that the open leaf doesn't take unseen, put together from its parts.
use Rattle.std.proofs.Common.{◌≡◌, ℕ, ◌-◌, ◌≤◌, Bool, true, false, not, ◌&&◌, ◌==◌, List, ◌++◌, length, take, drop, refl, ap, ◌∙◌, arith}
use Rattle.std.proofs.lemmas.List.{length-append, take-append-le}
use Rattle.std.proofs.Math.Seq.{drop-append_seam}
use Rattle.markdown_marks.specs.Remaining.{Remaining}
use Rattle.markdown_blocks.specs.Containers.{opened, ends_in_item}
use Rattle.markdown_blocks.specs.Leaves.{is_paragraph, is_table, Beginning, joining_or_row, leaf_start, deed_at, deed_of, leaf_after, only_defines, defining_after, cells_after}
use Rattle.markdown_blocks.specs.Steps.{State, Step, kept_after, joining_after, line_done, line_after, begun_line}
use Rattle.markdown_blocks.specs.declared.containers.Container.{Container}
use Rattle.markdown_blocks.specs.declared.leaves.Leaf.{Leaf}
use Rattle.markdown_blocks.specs.declared.leaves.Joining.{Joining}
use Rattle.markdown_blocks.specs.declared.leaves.Joining.TheVariants.{Apart}
use Rattle.markdown_blocks.specs.declared.leaves.Start.{Start}
use Rattle.markdown_blocks.specs.declared.leaves.Start.TheVariants.{Blank, Code, Heading, Fence, Html, Underline, Rule, Words}
use Rattle.markdown_blocks.specs.declared.leaves.Deed.{Deed}

-- what is no paragraph's and no table's next line keeps the containers that go on, and no other
pub apart_keeps : (start : Start) (cells : ℕ) (text : Remaining) (count all : ℕ) → kept_after (deed_at Apart cells text start) count all ≡ count
apart_keeps Blank cells text count all = refl
apart_keeps Code cells text count all = refl
apart_keeps (Heading level) cells text count all = refl
apart_keeps (Fence sign length indent) cells text count all = refl
apart_keeps (Html ending true) cells text count all = refl
apart_keeps (Html ending false) cells text count all = refl
apart_keeps (Underline level) cells text count all = refl
apart_keeps Rule cells text count all = refl
apart_keeps Words cells text count all = refl

-- how a line joins where a container begins in it or not
abbrev pub joins_where : (none table paragraph joins all : Bool) → Joining
joins_where none table paragraph joins all = joining_or_row (table && none && all) (paragraph && none && joins) all

-- a line in which a container begins joins neither a paragraph nor a table
pub not_joined : (table paragraph joins all : Bool) → joins_where false table paragraph joins all ≡ Apart
not_joined true true joins all = refl
not_joined true false joins all = refl
not_joined false true joins all = refl
not_joined false false joins all = refl

-- a line in which a container begins keeps those that go on
pub begun_keeps : (none table paragraph joins all : Bool) (start : Start) (cells : ℕ) (text : Remaining) (count len : ℕ) → none ≡ false
    → kept_after (deed_at (joins_where none table paragraph joins all) cells text start) count len ≡ count
begun_keeps none table paragraph joins all start cells text count len e =
    ap (λ (n : Bool). kept_after (deed_at (joins_where n table paragraph joins all) cells text start) count len) e
    ∙ ap (λ (j : Joining). kept_after (deed_at j cells text start) count len) (not_joined table paragraph joins all) ∙ apart_keeps start cells text count len

-- the containers that stay, and those that begin, which were put behind all
pub kept_items : (new grown old opens : List Container) (kept all : ℕ) → grown ≡ old ++ opens → all ≡ length old → kept ≤ all → new ≡ take kept grown ++ drop all grown → new ≡ take kept old ++ opens
kept_items new grown old opens kept all grown_is all_is within new_is =
    new_is ∙ ap (λ (g : List Container). take kept g ++ drop all g) grown_is
    ∙ ap (λ (front : List Container). front ++ drop all (old ++ opens)) (take-append-le kept old opens (omega (arith, within, all_is)))
    ∙ ap (λ (n : ℕ). take kept old ++ drop n (old ++ opens)) all_is
    ∙ ap (λ (back : List Container). take kept old ++ back) (drop-append_seam old opens)

-- how many of them begin
pub begun_count : (seen grown old opens : List Container) (before : ℕ) → seen ≡ grown → grown ≡ old ++ opens → before ≡ length old → length seen - before ≡ length opens
begun_count seen grown old opens before seen_is grown_is before_is = omega (arith, ap length (seen_is ∙ grown_is), length-append old opens, before_is)

-- a step with these parts
abbrev pub made : List Container → Leaf → List ℕ → ℕ → ℕ → ℕ → Deed → Remaining → Step
made items leaf defining cells kept opened deed text =
    record { state = record { containers = items; leaf = leaf; defining = defining; cells = cells }; line = record { kept = kept; opened = opened; deed = deed; text = text } }

-- a step is that of a line which begins something, where each of its parts is
pub begun_line_is : (state : State) (count : ℕ) (rest left : Remaining) (in_paragraph may_join row all defines bare : Bool) (joining : Joining) (start : Start) (text : Remaining) (deed : Deed) (leaf : Leaf) (defining : List ℕ) (cells kept begun : ℕ) (items : List Container)
    → all ≡ (count == length state.containers) → in_paragraph ≡ (is_paragraph state.leaf && all)
    → begun ≡ length (opened (64 - count) in_paragraph rest).containers → bare ≡ ends_in_item false (opened (64 - count) in_paragraph rest).containers → left ≡ (opened (64 - count) in_paragraph rest).rest
    → defines ≡ only_defines state.defining all left → may_join ≡ (is_paragraph state.leaf && (begun == 0) && not defines) → row ≡ (is_table state.leaf && (begun == 0) && all) → joining ≡ joining_or_row row may_join all → record { start = start; text = text } ≡ leaf_start joining left
    → deed ≡ deed_of joining state.cells (record { start = start; text = text }) → kept ≡ kept_after deed count (length state.containers) → leaf ≡ leaf_after bare state.leaf deed → defining ≡ defining_after deed state.defining text → cells ≡ cells_after leaf text
    → items ≡ take kept state.containers ++ (opened (64 - count) in_paragraph rest).containers
    → made items leaf defining cells kept begun deed text ≡ begun_line state (record { count = count; rest = rest })
unfolding begun_line
begun_line_is state count rest left in_paragraph may_join row all defines bare joining start text deed leaf defining cells kept begun items all_is in_is begun_is bare_is left_is defines_is may_is row_is joining_is started deed_is kept_is leaf_is defining_is cells_is items_is =
    let len = length state.containers in
    let opens = opened (64 - count) in_paragraph rest in
    let paragraph = is_paragraph state.leaf in
    let stays = kept_after deed count len in
    let after = leaf_after (ends_in_item false opens.containers) state.leaf deed in
    let keeps = defining_after deed state.defining text in
    let counts = cells_after after text in
    let none = length opens.containers == 0 in
    let items_at : ℕ → List Container = λ (n : ℕ). take n state.containers ++ opens.containers in
    let line_at : Joining → Beginning → Step = λ (j : Joining) (b : Beginning). line_done state count opens (deed_of j state.cells b) b.text in
    let defines_are : defines ≡ only_defines state.defining (count == len) opens.rest =
    defines_is ∙ ap (λ (r : Remaining). only_defines state.defining all r) left_is ∙ ap (λ (a : Bool). only_defines state.defining a opens.rest) all_is in
    let may_be : may_join ≡ (paragraph && none && not (only_defines state.defining (count == len) opens.rest)) =
    may_is ∙ ap (λ (n : ℕ). paragraph && (n == 0) && not defines) begun_is ∙ ap (λ (d : Bool). paragraph && none && not d) defines_are in
    let row_be : row ≡ (is_table state.leaf && none && (count == len)) =
    row_is ∙ ap (λ (n : ℕ). is_table state.leaf && (n == 0) && all) begun_is ∙ ap (λ (a : Bool). is_table state.leaf && none && a) all_is in
    let joins_is : joining ≡ joining_after state count opens =
    joining_is ∙ ap (λ (m : Bool). joining_or_row row m all) may_be ∙ ap (λ (r : Bool). joining_or_row r (paragraph && none && not (only_defines state.defining (count == len) opens.rest)) all) row_be
    ∙ ap (λ (a : Bool). joining_or_row (is_table state.leaf && none && (count == len)) (paragraph && none && not (only_defines state.defining (count == len) opens.rest)) a) all_is in
    ap (λ (is : List Container). made is leaf defining cells kept begun deed text) items_is
    ∙ ap (λ (k : ℕ). made (items_at k) leaf defining cells k begun deed text) kept_is
    ∙ ap (λ (n : ℕ). made (items_at stays) leaf defining n stays begun deed text) cells_is
    ∙ ap (λ (l : Leaf). made (items_at stays) l defining (cells_after l text) stays begun deed text) (leaf_is ∙ ap (λ (b : Bool). leaf_after b state.leaf deed) bare_is)
    ∙ ap (λ (d : List ℕ). made (items_at stays) after d counts stays begun deed text) defining_is
    ∙ ap (λ (n : ℕ). made (items_at stays) after keeps counts stays n deed text) begun_is
    ∙ ap (λ (d : Deed). line_done state count opens d text) deed_is
    ∙ ap (line_at joining) started
    ∙ ap (λ (r : Remaining). line_at joining (leaf_start joining r)) left_is
    ∙ ap (λ (j : Joining). line_at j (leaf_start j opens.rest)) joins_is
    ∙ ap (λ (i : Bool). line_after state count (opened (64 - count) i rest)) (in_is ∙ ap (λ (a : Bool). paragraph && a) all_is)
