-- A text's first line that has more than signs > and spaces is no blank line, unless it begins an item.
use Rattle.std.proofs.Common.{◌≡◌, ℕ, zero, suc, ◌+◌, ◌==◌, Bool, true, false, cond, eqb, not, nat_lt, ◌||◌, ◌&&◌, List, [], ◌∷◌, ◌++◌, take, drop, length, Option, Some, None, is_some, refl, ap, sym, ◌∙◌, subst}
use Rattle.std.specs.List.{list_all}
use Rattle.std.proofs.lemmas.Bool.{eqb-true}
use Rattle.markdown_html.specs.Starts.{html_start}
use Rattle.markdown_html.specs.Ends.{ends_html}
use Rattle.markdown_html.specs.declared.starts.Ending.{Ending}
use Rattle.markdown_marks.specs.Bytes.{first, is_blank}
use Rattle.markdown_marks.specs.Items.{marker_start, may_interrupt}
use Rattle.markdown_marks.specs.Marks.{fence_start, heading_level, is_rule, underline_level}
use Rattle.markdown_marks.specs.Remaining.{Remaining, columns_in_front, further, one_column, skip, take_columns, whole, with_rest}
use Rattle.markdown_marks.specs.declared.items.Marker.{Marker}
use Rattle.markdown_marks.specs.declared.marks.Fence.{Fence}
use Rattle.markdown_blocks.specs.Containers.{Opened, Opens, after_quote, container_after, container_start, ends_in_item, is_item, item_before, item_of, item_start, open_more, opened}
use Rattle.markdown_blocks.specs.Leaves.{Beginning, begins, code_start, deed_at, leaf_after, leaf_start, mark_start, or_fence, or_html, or_rule, or_underline, rule_start, underline_start}
use Rattle.markdown_blocks.specs.Steps.{Step, step}
use Rattle.markdown_blocks.specs.declared.containers.Container.{Container}
use Rattle.markdown_blocks.specs.declared.containers.Container.TheVariants.{Quote, Item}
use Rattle.markdown_blocks.specs.declared.leaves.Deed.{Deed}
use Rattle.markdown_blocks.specs.declared.leaves.Deed.TheVariants.{Blank as BlankLine, Begins, Html as HtmlLine, GoesOn, Closes, Underlines, Tabulates, Heading as HeadingLine, Rule as RuleLine}
use Rattle.markdown_blocks.specs.declared.leaves.Joining.TheVariants.{Apart}
use Rattle.markdown_blocks.specs.declared.leaves.Leaf.TheVariants.{Nothing}
use Rattle.markdown_blocks.specs.declared.leaves.Start.{Start}
use Rattle.markdown_blocks.specs.declared.leaves.Start.TheVariants.{Blank, Code, Heading, Fence as FenceStart, Html as HtmlStart, Underline, Rule, Words}
use Rattle.markdown_blocks.proofs.AlikeLemmas.{Alike, NoTab, after_quote_alike, alike_at, at, take_alike}
use Rattle.markdown_blocks.proofs.WithinLemmas.{SameBare, at_first, first_step, line_with, none_kept}

-- ---- signs and spaces

-- nothing but signs > and spaces
abbrev pub are_signs : List ℕ → Bool
are_signs bytes = list_all (λ b. (b == 62) || (b == 32)) bytes

by_case : {X : Type 0} (P : X → Type 0) (t : Bool) (x y : X) → (t ≡ true → P x) → (t ≡ false → P y) → P (cond t x y)
by_case P true x y f g = f refl
by_case P false x y f g = g refl

and_with : (p q : Bool) → p ≡ true → q ≡ true → (p && q) ≡ true
and_with true q f g = g
and_with false q f g = f

or_with : (p q : Bool) → q ≡ true → (p || q) ≡ true
or_with true q h = refl
or_with false q h = h

more_signs : (sign p q rest all : Bool) → q ≡ false → ((p || q) && rest) ≡ true → (rest ≡ true → all ≡ true) → ((sign || p) && all) ≡ true
more_signs sign true q rest all e k on = and_with (sign || true) all (or_with sign true refl) (on k)
more_signs sign false true rest all e k on = let no : true ≡ false = e in absurd (cc)
more_signs sign false false rest all e k on = let no : false ≡ true = k in absurd (cc)

-- a blank line without tabs is spaces
blank_signs : (bs : List ℕ) → NoTab bs → is_blank bs ≡ true → are_signs bs ≡ true
unfolding is_blank
blank_signs [] t h = refl
blank_signs (b ∷ bs) t h = more_signs (b == 62) (b == 32) (b == 9) (is_blank bs) (are_signs bs) t.0 h (λ k. blank_signs bs t.1 k)

-- the rest has no tab, and where what is left has signs and spaces alone, so has the whole
record LeavesSigns (from left : Remaining) : Type 0 where
  plain : Alike left left
  signs : are_signs left.bytes ≡ true → are_signs from.bytes ≡ true

same_signs : (a : Remaining) → Alike a a → LeavesSigns a a
same_signs a h = record { plain = h; signs = λ s. s }

then_signs : (a b c : Remaining) → LeavesSigns a b → LeavesSigns b c → LeavesSigns a c
then_signs a b c h k = record { plain = k.plain; signs = λ s. h.signs (k.signs s) }

abbrev OptionSigns : Remaining → Option Remaining → Type 0
OptionSigns a None = Unit {0}
OptionSigns a (Some b) = LeavesSigns a b

space_signs : (c d b : ℕ) (bs : List ℕ) → NoTab bs → (b == 32) ≡ true → LeavesSigns (at c (b ∷ bs)) (at d bs)
space_signs c d b bs t e = record { plain = record { bytes = refl; first = refl; second = refl; tabs = t }; signs = λ s. and_with ((b == 62) || (b == 32)) (are_signs bs) (or_with (b == 62) (b == 32) e) s }

one_signs : (column : ℕ) (bs : List ℕ) → NoTab bs → OptionSigns (at column bs) (one_column (at column bs))
unfolding one_column
one_signs column [] t = tt
one_signs column (b ∷ bs) t =
    by_case (OptionSigns (at column (b ∷ bs))) (b == 32) _ _ (λ e. space_signs column (further 1 column) b bs t.1 e) (λ e. rw t.0 tt)

with_signs : (a : Remaining) (o : Option Remaining) (f : Remaining → Remaining) → Alike a a → OptionSigns a o → ((b : Remaining) → Alike b b → LeavesSigns b (f b)) → LeavesSigns a (with_rest o a f)
with_signs a None f h k on = same_signs a h
with_signs a (Some b) f h k on = then_signs a b (f b) k (on b k.plain)

at_column : (a : Remaining) → a.pending ≡ 0 → at a.column a.bytes ≡ a
at_column a e = ap (λ (n : ℕ). record { column = a.column; pending = n; bytes = a.bytes }) (sym e)

take_signs : (n : ℕ) (a : Remaining) → Alike a a → LeavesSigns a (take_columns n a)
unfolding take_columns
take_signs zero a h = same_signs a h
take_signs (suc n) a h = with_signs a (one_column a) (take_columns n) h (subst (λ (r : Remaining). OptionSigns r (one_column r)) (at_column a h.first) (one_signs a.column a.bytes h.tabs)) (λ b k. take_signs n b k)

skip_signs : (bs : List ℕ) → first bs ≡ 62 → are_signs (drop 1 bs) ≡ true → are_signs bs ≡ true
skip_signs [] e h = refl
skip_signs (b ∷ bs) e h = and_with ((b == 62) || (b == 32)) (are_signs bs) (ap (λ (c : ℕ). (c == 62) || (c == 32)) e) h

one_less : (bs : List ℕ) → NoTab bs → NoTab (drop 1 bs)
one_less [] t = tt
one_less (b ∷ bs) t = t.1

quote_signs : (a : Remaining) → Alike a a → first a.bytes ≡ 62 → LeavesSigns a (after_quote a)
unfolding skip
quote_signs a h e =
    let skipped = skip 1 a in
    let plain : Alike skipped skipped = record { bytes = refl; first = refl; second = refl; tabs = one_less a.bytes h.tabs } in
    then_signs a skipped (after_quote a) (record { plain = plain; signs = skip_signs a.bytes e }) (take_signs 1 skipped plain)

-- ---- containers

-- a container that is no item has only signs in front
abbrev OpenedSigns : Remaining → Option Opened → Type 0
OpenedSigns a None = Unit {0}
OpenedSigns a (Some found) = is_item found.container ≡ false → LeavesSigns a found.rest

item_signs : (a b : Remaining) (indent : ℕ) (p : Bool) (o : Option Marker) → OpenedSigns a (item_of p indent b o)
item_signs a b indent p None = tt
item_signs a b indent p (Some marker) =
    by_case (OpenedSigns a) (p && not (may_interrupt marker b.bytes)) None (Some (item_before indent marker (skip marker.length b))) (λ e. tt) (λ e other. let not_so : true ≡ false = other in absurd (cc))

after_signs : (p : Bool) (indent : ℕ) (a b : Remaining) → LeavesSigns a b → OpenedSigns a (container_after p indent b)
after_signs p indent a b h =
    by_case (OpenedSigns a) (first b.bytes == 62) (Some (record { container = Quote; rest = after_quote b })) (item_start p indent b)
    (λ e other. then_signs a b (after_quote b) h (quote_signs b h.plain (eqb-true (first b.bytes) 62 e)))
    (λ e. by_case (OpenedSigns a) (is_rule b.bytes || (p && is_some (underline_level b.bytes))) None (item_of p indent b (marker_start b.bytes)) (λ k. tt) (λ k. item_signs a b indent p (marker_start b.bytes)))

start_signs : (p : Bool) (a : Remaining) → Alike a a → OpenedSigns a (container_start p a)
unfolding container_start
start_signs p a h =
    by_case (OpenedSigns a) (columns_in_front 4 a == 4) None (container_after p (columns_in_front 4 a) (take_columns 4 a)) (λ e. tt) (λ e. after_signs p (columns_in_front 4 a) a (take_columns 4 a) (take_signs 4 a h))

-- one of these containers is an item
abbrev pub any_item : List Container → Bool
any_item [] = false
any_item (container ∷ inner) = is_item container || any_item inner

neither : (p q : Bool) → (p || q) ≡ false → (p ≡ false) × (q ≡ false)
neither true q h = let no : true ≡ false = h in absurd (cc)
neither false q h = (refl, h)

open_signs : (a : Remaining) (o : Option Opened) (f : Remaining → Opens) → Alike a a → OpenedSigns a o → ((b : Remaining) → Alike b b → any_item (f b).containers ≡ false → LeavesSigns b (f b).rest)
    → any_item (open_more o a f).containers ≡ false → LeavesSigns a (open_more o a f).rest
open_signs a None f h k on none = same_signs a h
open_signs a (Some found) f h k on none =
    let both = neither (is_item found.container) (any_item (f found.rest).containers) none in
    let front = k both.0 in
    then_signs a found.rest (f found.rest).rest front (on found.rest front.plain both.1)

opened_signs : (room : ℕ) (p : Bool) (a : Remaining) → Alike a a → any_item (opened room p a).containers ≡ false → LeavesSigns a (opened room p a).rest
unfolding opened
opened_signs zero p a h none = same_signs a h
opened_signs (suc room) p a h none = open_signs a (container_start p a) (opened room false) h (start_signs p a h) (λ b k n. opened_signs room false b k n) none

-- ---- the leaf

-- the line isn't blank
abbrev pub is_filled : Deed → Bool
is_filled BlankLine = false
is_filled _ = true

abbrev IsFilled : Beginning → Type 0
IsFilled begun = is_filled (deed_at Apart 0 begun.text begun.start) ≡ true

rule_filled : (a : Remaining) → IsFilled (rule_start a)
rule_filled a = by_case IsFilled (is_rule a.bytes) (begins Rule a) (begins Words a) (λ e. refl) (λ e. refl)

html_filled : (ending : Ending) (ends : Bool) (text : Remaining) → IsFilled (begins (HtmlStart ending ends) text)
html_filled ending true text = refl
html_filled ending false text = refl

or_underline_filled : (o : Option Ending) (u a : Remaining) → IsFilled (or_underline o Apart u a)
or_underline_filled None u a = rule_filled a
or_underline_filled (Some ending) u a = html_filled ending (ends_html ending a.bytes) u

or_html_filled : (o : Option Fence) (indent : ℕ) (u a : Remaining) → IsFilled (or_html o Apart indent u a)
or_html_filled None indent u a = or_underline_filled (html_start false a.bytes) u a
or_html_filled (Some fence) indent u a = refl

or_fence_filled : (o : Option ℕ) (indent : ℕ) (u a : Remaining) → IsFilled (or_fence o Apart indent u a)
or_fence_filled None indent u a = or_html_filled (fence_start a.bytes) indent u a
or_fence_filled (Some level) indent u a = refl

-- what isn't blank begins a leaf
leaf_filled : (a : Remaining) → is_blank a.bytes ≡ false → IsFilled (leaf_start Apart a)
unfolding leaf_start mark_start
leaf_filled a filled =
    by_case IsFilled (is_blank a.bytes) (begins Blank a) _ (λ e. let not_so : true ≡ false = sym e ∙ filled in absurd (cc))
    (λ e. by_case IsFilled (columns_in_front 4 a == 4) (code_start Apart a) (mark_start Apart (columns_in_front 4 a) a (take_columns 4 a)) (λ k. refl) (λ k. or_fence_filled (heading_level (take_columns 4 a).bytes) (columns_in_front 4 a) a (take_columns 4 a)))

-- ---- the line

filled_by : (item blank : Bool) (a : Remaining) (opens : Opens) → any_item opens.containers ≡ item → is_blank opens.rest.bytes ≡ blank → (item ≡ false → LeavesSigns a opens.rest) → are_signs a.bytes ≡ false
    → (any_item opens.containers || is_filled (line_with at_first 0 opens Apart).line.deed) ≡ true
filled_by true blank a opens e f on signs = rw e refl
filled_by false false a opens e f on signs = or_with (any_item opens.containers) _ (leaf_filled opens.rest f)
filled_by false true a opens e f on signs =
    let left = on refl in
    let all : are_signs a.bytes ≡ true = left.signs (blank_signs opens.rest.bytes left.plain.tabs f) in
    let no : true ≡ false = sym all ∙ signs in absurd (cc)

-- the line begins an item, or is no blank one
abbrev pub IsFull : Step → Type 0
IsFull done = (any_item done.state.containers || is_filled done.line.deed) ≡ true

-- so is a text's first line that has more than signs > and spaces
pub first_full : (text : List ℕ) → NoTab text → are_signs text ≡ false → IsFull (step at_first text)
first_full text t signs =
    let opens = opened 64 false (whole text) in
    let line = line_with at_first 0 opens Apart in
    subst IsFull (sym (first_step text))
    (subst (λ (k : ℕ). (any_item (take k [] ++ opens.containers) || is_filled line.line.deed) ≡ true) (sym (none_kept line.line.deed))
    (filled_by (any_item opens.containers) (is_blank opens.rest.bytes) (whole text) opens refl refl (λ e. opened_signs 64 false (whole text) (alike_at 0 0 text t) e) signs))

filled_leaf : (deed : Deed) → is_filled deed ≡ true → leaf_after true Nothing deed ≡ leaf_after false Nothing deed
filled_leaf BlankLine k = let no : false ≡ true = k in absurd (cc)
filled_leaf (Begins leaf) k = refl
filled_leaf HtmlLine k = refl
filled_leaf GoesOn k = refl
filled_leaf Closes k = refl
filled_leaf (Underlines level) k = refl
filled_leaf (Tabulates columns) k = refl
filled_leaf (HeadingLine level) k = refl
filled_leaf RuleLine k = refl

full_leaf : (containers : List Container) (deed : Deed) → (any_item containers || is_filled deed) ≡ true → leaf_after (ends_in_item true containers) Nothing deed ≡ leaf_after (ends_in_item false containers) Nothing deed
unfolding ends_in_item
full_leaf [] deed k = filled_leaf deed k
full_leaf (c ∷ cs) deed k = refl

-- an item around a line that is full changes nothing of its leaf
pub item_bare : (done : Step) (sign number content : ℕ) → IsFull done → SameBare (Item sign number content) done
item_bare done sign number content h = full_leaf done.state.containers done.line.deed h
