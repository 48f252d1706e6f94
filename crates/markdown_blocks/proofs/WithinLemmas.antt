-- A line within one container more does what the line that the container holds does without it.
use Rattle.std.proofs.Common.{◌≡◌, ℕ, zero, suc, ◌+◌, ◌-◌, ◌<◌, ◌≤◌, ◌==◌, Bool, true, false, cond, not, ◌&&◌, List, [], ◌∷◌, ◌++◌, length, take, Option, Some, None, refl, ap, sym, ◌∙◌, subst, arith, if◌then◌else◌}
use Rattle.std.proofs.lemmas.Bool.Decides.{nat_tests}
use Rattle.markdown_marks.specs.Bytes.{first}
use Rattle.markdown_marks.specs.Remaining.{Remaining, whole, take_columns}
use Rattle.markdown_marks.specs.Tables.{cell_count}
use Rattle.markdown_blocks.specs.Containers.{Matched, Opened, Opens, container_start, ends_in_item, goes_on, is_item, match_more, matched, open_more, opened}
use Rattle.markdown_blocks.specs.Leaves.{cells_after, deed_at, deed_of, defining_after, going_on, is_bare, is_paragraph, is_table, joining_or_row, leaf_after, leaf_start, margin, only_defines}
use Rattle.markdown_blocks.specs.Steps.{State, Step, begun_line, joining_after, kept_after, line_after, line_done, line_step, matched_line, same_containers, step}
use Rattle.markdown_blocks.specs.declared.containers.Container.{Container}
use Rattle.markdown_blocks.specs.declared.leaves.Deed.{Deed}
use Rattle.markdown_blocks.specs.declared.leaves.Deed.TheVariants.{Blank, Begins, Html, GoesOn, Closes, Underlines, Tabulates, Heading, Rule}
use Rattle.markdown_blocks.specs.declared.leaves.Going.{Going}
use Rattle.markdown_blocks.specs.declared.leaves.Going.TheVariants.{No, On, Last, Ends}
use Rattle.markdown_blocks.specs.declared.leaves.Joining.{Joining}
use Rattle.markdown_blocks.specs.declared.leaves.Joining.TheVariants.{Apart}
use Rattle.markdown_blocks.specs.declared.leaves.Leaf.{Leaf}
use Rattle.markdown_blocks.specs.declared.leaves.Leaf.TheVariants.{Nothing}
use Rattle.markdown_blocks.proofs.AlikeLemmas.{Alike, AlikeMatched, AlikeOpens, deed_alike, defines_alike, going_alike, leaf_alike, matched_alike, opened_alike, take_alike}
use Rattle.markdown_blocks.proofs.PlaceLemmas.{begun_placed, matched_within}

-- with this container around all others
abbrev pub within : Container → State → State
within container state = record state { containers = container ∷ state.containers }

-- the first step does within a container what the other does without it
pub record Within (container : Container) (outer inner : Step) : Type 0 where
  pub state : outer.state ≡ within container inner.state
  pub kept : outer.line.kept ≡ suc inner.line.kept
  pub deed : outer.line.deed ≡ inner.line.deed
  pub text : Alike outer.line.text inner.line.text

-- ---- what a line does

kept_more : (deed : Deed) (n m : ℕ) → kept_after deed (suc n) (suc m) ≡ suc (kept_after deed n m)
kept_more Blank n m = refl
kept_more (Begins leaf) n m = refl
kept_more Html n m = refl
kept_more GoesOn n m = refl
kept_more Closes n m = refl
kept_more (Underlines level) n m = refl
kept_more (Tabulates columns) n m = refl
kept_more (Heading level) n m = refl
kept_more Rule n m = refl

least_kept : (deed : Deed) (n m : ℕ) → n ≤ m → n ≤ kept_after deed n m
least_kept Blank n m h = omega arith
least_kept (Begins leaf) n m h = omega arith
least_kept Html n m h = omega arith
least_kept GoesOn n m h = h
least_kept Closes n m h = omega arith
least_kept (Underlines level) n m h = omega arith
least_kept (Tabulates columns) n m h = omega arith
least_kept (Heading level) n m h = omega arith
least_kept Rule n m h = omega arith

defining_alike : (deed : Deed) (defining : List ℕ) (a b : Remaining) → a.bytes ≡ b.bytes → defining_after deed defining a ≡ defining_after deed defining b
defining_alike Blank defining a b e = refl
defining_alike (Begins leaf) defining a b e = ap (λ (bs : List ℕ). if is_paragraph leaf && (first bs == 91) then bs else []) e
defining_alike Html defining a b e = refl
defining_alike GoesOn defining a b e = ap (λ (bs : List ℕ). if length defining == 0 then [] else defining ++ 10 ∷ bs) e
defining_alike Closes defining a b e = refl
defining_alike (Underlines level) defining a b e = refl
defining_alike (Tabulates columns) defining a b e = refl
defining_alike (Heading level) defining a b e = refl
defining_alike Rule defining a b e = refl

cells_alike : (leaf : Leaf) (a b : Remaining) → a.bytes ≡ b.bytes → cells_after leaf a ≡ cells_after leaf b
cells_alike leaf a b e = ap (λ (bs : List ℕ). if is_paragraph leaf then cell_count bs else 0) e

abbrev state_of : List Container → Leaf → List ℕ → ℕ → State
state_of containers leaf defining cells = record { containers = containers; leaf = leaf; defining = defining; cells = cells }

-- the state behind a line in which these containers begin
abbrev state_behind : State → List Container → List Container → Deed → Remaining → State
state_behind state stay opens deed text =
    state_of (stay ++ opens) (leaf_after (ends_in_item false opens) state.leaf deed) (defining_after deed state.defining text) (cells_after (leaf_after (ends_in_item false opens) state.leaf deed) text)

behind_alike : (state : State) (stay xs ys : List Container) (deed : Deed) (a b : Remaining) → xs ≡ ys → a.bytes ≡ b.bytes → state_behind state stay xs deed a ≡ state_behind state stay ys deed b
behind_alike state stay xs ys deed a b e h =
    let leaf = leaf_after (ends_in_item false ys) state.leaf deed in
    ap (λ (zs : List Container). state_behind state stay zs deed a) e
    ∙ ap (λ (ds : List ℕ). state_of (stay ++ ys) leaf ds (cells_after leaf a)) (defining_alike deed state.defining a b h)
    ∙ ap (λ (n : ℕ). state_of (stay ++ ys) leaf (defining_after deed state.defining b) n) (cells_alike leaf a b h)

done_same : (container : Container) (state : State) (n : ℕ) (x y : Opens) (deed : Deed) (a b : Remaining) → x.containers ≡ y.containers → Alike a b
    → Within container (line_done (within container state) (suc n) x deed a) (line_done state n y deed b)
done_same container state n x y deed a b e h =
    let m = length state.containers in
    record {
      state = ap (λ (k : ℕ). state_behind state (take k (container ∷ state.containers)) x.containers deed a) (kept_more deed n m) ∙ behind_alike state (container ∷ take (kept_after deed n m) state.containers) x.containers y.containers deed a b e h.bytes;
      kept = kept_more deed n m;
      deed = refl;
      text = h;
    }

done_within : (container : Container) (state : State) (n : ℕ) (x y : Opens) (d f : Deed) (a b : Remaining) → x.containers ≡ y.containers → d ≡ f → Alike a b
    → Within container (line_done (within container state) (suc n) x d a) (line_done state n y f b)
done_within container state n x y d f a b e k h =
    subst (λ (g : Deed). Within container (line_done (within container state) (suc n) x d a) (line_done state n y g b)) k (done_same container state n x y d a b e h)

-- ---- a line that the open leaf doesn't take unseen

equal_more : (n m : ℕ) → (suc n == suc m) ≡ (n == m)
equal_more n m = grind (arith, nat_tests)

-- how a line joins where these containers begin
abbrev joins_after : State → List Container → (all defines : Bool) → Joining
joins_after state opens all defines = joining_or_row (is_table state.leaf && (length opens == 0) && all) (is_paragraph state.leaf && (length opens == 0) && not defines) all

joining_same : (container : Container) (state : State) (n : ℕ) (x y : Opens) → AlikeOpens x y → joining_after (within container state) (suc n) x ≡ joining_after state n y
joining_same container state n x y h =
    let all = n == length state.containers in
    ap (λ (t : Bool). joins_after state x.containers t (only_defines state.defining t x.rest)) (equal_more n (length state.containers))
    ∙ ap (λ (cs : List Container). joins_after state cs all (only_defines state.defining all x.rest)) h.containers
    ∙ ap (joins_after state y.containers all) (defines_alike state.defining all x.rest y.rest h.rest)

-- a line that joins so
abbrev pub line_with : State → ℕ → Opens → Joining → Step
line_with state n opens joining = line_done state n opens (deed_of joining state.cells (leaf_start joining opens.rest)) (leaf_start joining opens.rest).text

with_same : (container : Container) (state : State) (n : ℕ) (x y : Opens) (joining : Joining) → AlikeOpens x y → Within container (line_with (within container state) (suc n) x joining) (line_with state n y joining)
with_same container state n x y joining h =
    let a = leaf_start joining x.rest in
    let b = leaf_start joining y.rest in
    let begun = leaf_alike joining x.rest y.rest h.rest in
    done_within container state n x y (deed_at joining state.cells a.text a.start) (deed_at joining state.cells b.text b.start) a.text b.text h.containers
    (deed_alike joining state.cells a.text b.text a.start begun.text ∙ ap (deed_at joining state.cells b.text) begun.start) begun.text

after_within : (container : Container) (state : State) (n : ℕ) (x y : Opens) → AlikeOpens x y → Within container (line_after (within container state) (suc n) x) (line_after state n y)
after_within container state n x y h =
    subst (λ (j : Joining). Within container (line_after (within container state) (suc n) x) (line_with state n y j)) (joining_same container state n x y h) (with_same container state n x y (joining_after (within container state) (suc n) x) h)

-- ---- room for one container more

more_room : (o : Option Opened) (rest : Remaining) (f g : Remaining → Opens) (room : ℕ) → length (open_more o rest g).containers ≤ suc room
    → ((r : Remaining) → length (g r).containers ≤ room → f r ≡ g r) → open_more o rest f ≡ open_more o rest g
more_room None rest f g room h on = refl
more_room (Some found) rest f g room h on = ap (λ (os : Opens). record { containers = found.container ∷ os.containers; rest = os.rest }) (on found.rest (omega (arith, h)))

no_room : (o : Option Opened) (rest : Remaining) (g : Remaining → Opens) → length (open_more o rest g).containers ≤ 0 → record { containers = []; rest = rest } ≡ open_more o rest g
no_room None rest g h = refl
no_room (Some found) rest g h = absurd (omega (arith, h))

-- where no more begin than there is room for, more room changes nothing
pub roomy : (room : ℕ) (in_paragraph : Bool) (rest : Remaining) → length (opened (suc room) in_paragraph rest).containers ≤ room → opened room in_paragraph rest ≡ opened (suc room) in_paragraph rest
unfolding opened
roomy zero in_paragraph rest h = no_room (container_start in_paragraph rest) rest (opened 0 false) h
roomy (suc room) in_paragraph rest h = more_room (container_start in_paragraph rest) rest (opened room false) (opened (suc room) false) room h (λ r k. roomy room false r k)

-- one container more leaves room for as many as begin
pub opened_within : (n : ℕ) (p q : Bool) (a b : Remaining) → Alike a b → p ≡ q → n + length (opened (64 - n) q b).containers ≤ 63 → AlikeOpens (opened (64 - suc n) p a) (opened (64 - n) q b)
opened_within n p q a b h e room =
    let one : suc (64 - suc n) ≡ 64 - n = omega (arith, room) in
    let few : length (opened (suc (64 - suc n)) q b).containers ≤ 64 - suc n = subst (λ (r : ℕ). length (opened r q b).containers ≤ 64 - suc n) (sym one) (omega (arith, room)) in
    subst (λ (t : Bool). AlikeOpens (opened (64 - suc n) t a) (opened (64 - n) q b)) (sym e)
    (subst (λ (os : Opens). AlikeOpens (opened (64 - suc n) q a) os) (roomy (64 - suc n) q b few ∙ ap (λ (r : ℕ). opened r q b) one) (opened_alike (64 - suc n) q a b h))

-- so many containers go on, and this is left
abbrev found_at : ℕ → Remaining → Matched
found_at n rest = record { count = n; rest = rest }

begun_within : (container : Container) (state : State) (n : ℕ) (a b : Remaining) → Alike a b → n ≤ length state.containers → length (begun_line state (found_at n b)).state.containers ≤ 63
    → Within container (begun_line (within container state) (found_at (suc n) a)) (begun_line state (found_at n b))
unfolding begun_line
begun_within container state n a b h most few =
    let p = is_paragraph state.leaf && (suc n == suc (length state.containers)) in
    let q = is_paragraph state.leaf && (n == length state.containers) in
    let line = begun_line state (found_at n b) in
    let placed = begun_placed state (found_at n b) most in
    let kept : n ≤ line.line.kept = least_kept line.line.deed n (length state.containers) most in
    let room : n + length (opened (64 - n) q b).containers ≤ 63 = omega (arith, kept, placed.counted, few) in
    after_within container state n (opened (64 - suc n) p a) (opened (64 - n) q b)
    (opened_within n p q a b h (ap (λ (t : Bool). is_paragraph state.leaf && t) (equal_more n (length state.containers))) room)

-- ---- a line

going_within : (going : Going) (container : Container) (state : State) (n : ℕ) (a b : Remaining) → Alike a b → n ≤ length state.containers → length (matched_line going state (found_at n b)).state.containers ≤ 63
    → Within container (matched_line going (within container state) (found_at (suc n) a)) (matched_line going state (found_at n b))
going_within No container state n a b h most few = begun_within container state n a b h most few
going_within On container state n a b h most few = record { state = refl; kept = refl; deed = refl; text = take_alike (margin state.leaf) a b h }
going_within Last container state n a b h most few = record { state = refl; kept = refl; deed = refl; text = take_alike (margin state.leaf) a b h }
going_within Ends container state n a b h most few = record { state = refl; kept = refl; deed = refl; text = h }

-- what fewer than 64 containers are open behind
abbrev Few : Step → Type 0
Few done = length done.state.containers ≤ 63

either_within : (container : Container) (t u : Bool) (w x y z : Step) → t ≡ u → Few (cond u y z) → (Few y → Within container w y) → (Few z → Within container x z) → Within container (cond t w x) (cond u y z)
either_within container true true w x y z e few f g = f few
either_within container false false w x y z e few f g = g few
either_within container true false w x y z e few f g = let no : true ≡ false = e in absurd (cc)
either_within container false true w x y z e few f g = let no : false ≡ true = e in absurd (cc)

line_within : (container : Container) (state : State) (n : ℕ) (a b : Remaining) → Alike a b → n ≤ length state.containers → Few (line_step state (found_at n b))
    → Within container (line_step (within container state) (found_at (suc n) a)) (line_step state (found_at n b))
unfolding line_step
line_within container state n a b h most few =
    either_within container (suc n == suc (length state.containers)) (n == length state.containers)
    (matched_line (going_on state.leaf a) (within container state) (found_at (suc n) a)) (begun_line (within container state) (found_at (suc n) a))
    (matched_line (going_on state.leaf b) state (found_at n b)) (begun_line state (found_at n b)) (equal_more n (length state.containers)) few
    (λ k. subst (λ (g : Going). Within container (matched_line g (within container state) (found_at (suc n) a)) (matched_line (going_on state.leaf b) state (found_at n b))) (sym (going_alike state.leaf a b h))
    (going_within (going_on state.leaf b) container state n a b h most k))
    (λ k. begun_within container state n a b h most k)

one_more : (n : ℕ) → 1 + n ≡ suc n
one_more n = omega arith

-- A line in which a container goes on around all others does what the line that it holds does without it, where fewer than 64 are open behind that.
pub step_within : (container : Container) (state : State) (outer inner : List ℕ) (rest : Remaining) → goes_on container (is_bare state.leaf && (length state.containers == 0)) (whole outer) ≡ Some rest
    → Alike rest (whole inner) → Few (step state inner) → Within container (step (within container state) outer) (step state inner)
unfolding step matched
step_within container state outer inner rest on h few =
    let bare = is_bare state.leaf in
    let x = matched bare state.containers rest in
    let y = matched bare state.containers (whole inner) in
    let m = matched_alike bare state.containers rest (whole inner) h in
    let found : matched bare (container ∷ state.containers) (whole outer) ≡ found_at (suc y.count) x.rest =
    ap (λ (o : Option Remaining). match_more o (whole outer) (matched bare state.containers)) on ∙ ap (λ (n : ℕ). found_at n x.rest) (one_more x.count) ∙ ap (λ (n : ℕ). found_at (suc n) x.rest) m.count in
    subst (λ (f : Matched). Within container (line_step (within container state) f) (step state inner)) (sym found)
    (line_within container state y.count x.rest y.rest m.rest (matched_within bare state.containers (whole inner)) few)

-- ---- the first line

-- nothing is open yet
abbrev pub at_first : State
at_first = record { containers = []; leaf = Nothing; defining = []; cells = 0 }

-- the first step begins with a container, and does in it what the other does without it
pub record BeginsWithin (container : Container) (outer inner : Step) : Type 0 where
  pub state : outer.state ≡ within container inner.state
  pub kept : outer.line.kept ≡ 0
  pub none : inner.line.kept ≡ 0
  pub deed : outer.line.deed ≡ inner.line.deed
  pub text : Alike outer.line.text inner.line.text

-- where none is open none stays
pub none_kept : (deed : Deed) → kept_after deed 0 0 ≡ 0
none_kept Blank = refl
none_kept (Begins leaf) = refl
none_kept Html = refl
none_kept GoesOn = refl
none_kept Closes = refl
none_kept (Underlines level) = refl
none_kept (Tabulates columns) = refl
none_kept (Heading level) = refl
none_kept Rule = refl

-- whether an item is open whose first line was blank stays as it is with the container around those that begin
abbrev pub SameBare : Container → Step → Type 0
SameBare container done = leaf_after (ends_in_item (is_item container) done.state.containers) Nothing done.line.deed ≡ leaf_after (ends_in_item false done.state.containers) Nothing done.line.deed

first_same : (container : Container) (x z : Opens) (deed : Deed) (a b : Remaining) → x.containers ≡ container ∷ z.containers → Alike a b
    → leaf_after (ends_in_item (is_item container) z.containers) Nothing deed ≡ leaf_after (ends_in_item false z.containers) Nothing deed → BeginsWithin container (line_done at_first 0 x deed a) (line_done at_first 0 z deed b)
unfolding ends_in_item
first_same container x z deed a b e h same = record {
  state = ap (λ (k : ℕ). state_behind at_first (take k []) x.containers deed a) (none_kept deed)
      ∙ behind_alike at_first [] x.containers (container ∷ z.containers) deed a b e h.bytes
      ∙ ap (λ (l : Leaf). state_of (container ∷ z.containers) l (defining_after deed [] b) (cells_after l b)) same
      ∙ ap (λ (k : ℕ). within container (state_behind at_first (take k []) z.containers deed b)) (sym (none_kept deed));
  kept = none_kept deed;
  none = none_kept deed;
  deed = refl;
  text = h;
}

first_opens : (container : Container) (x z : Opens) → x.containers ≡ container ∷ z.containers → Alike x.rest z.rest → SameBare container (line_with at_first 0 z Apart) → BeginsWithin container (line_with at_first 0 x Apart) (line_with at_first 0 z Apart)
first_opens container x z e h same =
    let a = leaf_start Apart x.rest in
    let b = leaf_start Apart z.rest in
    let begun = leaf_alike Apart x.rest z.rest h in
    let deed = deed_at Apart 0 b.text b.start in
    let deeds : deed_at Apart 0 a.text a.start ≡ deed = deed_alike Apart 0 a.text b.text a.start begun.text ∙ ap (deed_at Apart 0 b.text) begun.start in
    let bare = subst (λ (k : ℕ). leaf_after (ends_in_item (is_item container) (take k [] ++ z.containers)) Nothing deed ≡ leaf_after (ends_in_item false (take k [] ++ z.containers)) Nothing deed) (none_kept deed) same in
    subst (λ (d : Deed). BeginsWithin container (line_done at_first 0 x d a.text) (line_done at_first 0 z deed b.text)) (sym deeds) (first_same container x z deed a.text b.text e begun.text bare)

-- the first line, by the containers that begin in it
pub first_step : (line : List ℕ) → step at_first line ≡ line_with at_first 0 (opened 64 false (whole line)) Apart
unfolding step matched line_step begun_line going_on
first_step line = refl

first_opened : (line : List ℕ) (found : Opened) → container_start false (whole line) ≡ Some found → opened 64 false (whole line) ≡ record { containers = found.container ∷ (opened 63 false found.rest).containers; rest = (opened 63 false found.rest).rest }
unfolding opened
first_opened line found e = ap (λ (o : Option Opened). open_more o (whole line) (opened 63 false)) e

-- A text's first line, in which a container begins, does what the line that it holds does without it.
pub first_within : (container : Container) (outer inner : List ℕ) (rest : Remaining) → container_start false (whole outer) ≡ Some (record { container = container; rest = rest }) → Alike rest (whole inner)
    → Few (step at_first inner) → SameBare container (step at_first inner) → BeginsWithin container (step at_first outer) (step at_first inner)
first_within container outer inner rest starts h few same =
    let y = opened 63 false rest in
    let z = opened 64 false (whole inner) in
    let line = line_with at_first 0 z Apart in
    let few_line : Few line = subst Few (first_step inner) few in
    let few_begin : length z.containers ≤ 63 = subst (λ (k : ℕ). length (take k [] ++ z.containers) ≤ 63) (none_kept line.line.deed) few_line in
    let alike = subst (λ (os : Opens). AlikeOpens y os) (roomy 63 false (whole inner) few_begin) (opened_alike 63 false rest (whole inner) h) in
    let begun = first_opens container (record { containers = container ∷ y.containers; rest = y.rest }) z (ap (λ (cs : List Container). container ∷ cs) alike.containers) alike.rest (subst (SameBare container) (first_step inner) same) in
    subst (λ (s : Step). BeginsWithin container s (step at_first inner)) (sym (first_step outer ∙ ap (λ (os : Opens). line_with at_first 0 os Apart) (first_opened outer (record { container = container; rest = rest }) starts)))
    (subst (λ (s : Step). BeginsWithin container (line_with at_first 0 (record { containers = container ∷ y.containers; rest = y.rest }) Apart) s) (sym (first_step inner)) begun)
