-- A line without tabs is read the same wherever it stands: its column doesn't matter.
use Rattle.std.proofs.Common.{◌≡◌, ℕ, zero, suc, ◌+◌, ◌==◌, Bool, true, false, cond, eqb, not, nat_lt, ◌||◌, ◌&&◌, List, [], ◌∷◌, drop, length, Option, Some, None, is_some, refl, ap, sym, ◌∙◌, subst, if◌then◌else◌}
use Rattle.std.specs.List.{prefix_len}
use Rattle.std.proofs.lemmas.Bool.Decides.{nat_tests}
use Rattle.markdown_html.specs.Ends.{ends_html}
use Rattle.markdown_html.specs.Starts.{html_start}
use Rattle.markdown_html.specs.declared.starts.Ending.{Ending}
use Rattle.markdown_marks.specs.Bytes.{first, is_blank, is_blank_byte, is_run_alone, without_blanks}
use Rattle.markdown_marks.specs.Definitions.{are_definitions}
use Rattle.markdown_marks.specs.Items.{marker_start, may_interrupt}
use Rattle.markdown_marks.specs.Marks.{fence_start, heading_level, is_rule, underline_level}
use Rattle.markdown_marks.specs.Remaining.{Remaining, blank_taken, columns_in_front, one_column, skip, take_columns, with_rest}
use Rattle.markdown_marks.specs.Tables.{delimited_columns}
use Rattle.markdown_marks.specs.declared.items.Marker.{Marker}
use Rattle.markdown_marks.specs.declared.marks.Fence.{Fence}
use Rattle.markdown_blocks.specs.Containers.{Matched, Opened, Opens, after_quote, container_after, container_start, gap_after, goes_on, item_before, item_goes_on, item_of, item_start, match_more, matched, open_more, opened, quote_goes_on}
use Rattle.markdown_blocks.specs.Leaves.{Beginning, begins, closes_fence, code_start, deed_at, ends_by_blank, going_on, html_going, joins, leaf_start, mark_start, only_defines, or_fence, or_html, or_rule, or_underline, rule_start, underline_start, underlines, unindented, words_deed}
use Rattle.markdown_blocks.specs.declared.containers.Container.{Container}
use Rattle.markdown_blocks.specs.declared.containers.Container.TheVariants.{Quote, Item}
use Rattle.markdown_blocks.specs.declared.leaves.Deed.{Deed}
use Rattle.markdown_blocks.specs.declared.leaves.Deed.TheVariants.{GoesOn, Tabulates}
use Rattle.markdown_blocks.specs.declared.leaves.Going.{Going}
use Rattle.markdown_blocks.specs.declared.leaves.Going.TheVariants.{No, On, Last, Ends}
use Rattle.markdown_blocks.specs.declared.leaves.Joining.{Joining}
use Rattle.markdown_blocks.specs.declared.leaves.Joining.TheVariants.{Apart, Lazily, Fully, InTable}
use Rattle.markdown_blocks.specs.declared.leaves.Leaf.{Leaf}
use Rattle.markdown_blocks.specs.declared.leaves.Leaf.TheVariants.{Nothing, Bare, Paragraph, Indented, Fenced, Html, Table}
use Rattle.markdown_blocks.specs.declared.leaves.Start.{Start}
use Rattle.markdown_blocks.specs.declared.leaves.Start.TheVariants.{Blank, Code, Heading, Fence as FenceStart, Html as HtmlStart, Underline, Rule, Words}

-- what holds of both choices holds of what equal conditions choose
by_both : {X Y : Type 0} (P : X → Y → Type 0) (t u : Bool) (x x' : X) (y y' : Y) → t ≡ u → P x y → P x' y' → P (cond t x x') (cond u y y')
by_both P true true x x' y y' e f g = f
by_both P false false x x' y y' e f g = g
by_both P true false x x' y y' e f g = let no : true ≡ false = e in absurd (cc)
by_both P false true x x' y y' e f g = let no : false ≡ true = e in absurd (cc)

-- ---- rests that differ in their column

-- none of these bytes is a tab
abbrev pub NoTab : List ℕ → Type 0
NoTab [] = Unit {0}
NoTab (b ∷ bs) = ((b == 9) ≡ false) × NoTab bs

-- two rests have the same bytes, and no tab among them
pub record Alike (a b : Remaining) : Type 0 where
  pub bytes : a.bytes ≡ b.bytes
  pub first : a.pending ≡ 0
  pub second : b.pending ≡ 0
  pub tabs : NoTab a.bytes

-- these bytes at this column
abbrev pub at : ℕ → List ℕ → Remaining
at column bytes = record { column = column; pending = 0; bytes = bytes }

-- these bytes at any two columns are alike
pub alike_at : (c d : ℕ) (bs : List ℕ) → NoTab bs → Alike (at c bs) (at d bs)
alike_at c d bs h = record { bytes = refl; first = refl; second = refl; tabs = h }

at_column : (a : Remaining) → a.pending ≡ 0 → a ≡ at a.column a.bytes
at_column a e = ap (λ (n : ℕ). record { column = a.column; pending = n; bytes = a.bytes }) e

-- what holds of bytes at any two columns holds of rests that are alike
lifted : (P : Remaining → Remaining → Type 0) → ((c d : ℕ) (bs : List ℕ) → NoTab bs → P (at c bs) (at d bs)) → (a b : Remaining) → Alike a b → P a b
lifted P f a b h =
    subst (λ (x : Remaining). P x b) (sym (at_column a h.first))
    (subst (λ (y : Remaining). P (at a.column a.bytes) y) (sym (at_column b h.second ∙ ap (λ (bs : List ℕ). at b.column bs) (sym h.bytes))) (f a.column b.column a.bytes h.tabs))

-- both are there and alike, or neither is
abbrev pub AlikeOption : Option Remaining → Option Remaining → Type 0
AlikeOption None None = Unit {0}
AlikeOption (Some a) (Some b) = Alike a b
AlikeOption (Some a) None = ⊥
AlikeOption None (Some b) = ⊥

drop_tabs : (n : ℕ) (bs : List ℕ) → NoTab bs → NoTab (drop n bs)
drop_tabs zero bs h = h
drop_tabs (suc n) [] h = tt
drop_tabs (suc n) (b ∷ bs) h = drop_tabs n bs h.1

blank_alike : (c d : ℕ) (bs : List ℕ) → NoTab bs → AlikeOption (blank_taken c bs) (blank_taken d bs)
blank_alike c d [] h = tt
blank_alike c d (b ∷ bs) h = by_both AlikeOption (b == 32) (b == 32) _ _ _ _ refl (record { bytes = refl; first = refl; second = refl; tabs = h.1 }) (rw h.0 tt)

one_alike : (a b : Remaining) → Alike a b → AlikeOption (one_column a) (one_column b)
unfolding one_column
one_alike a b h = lifted (λ (x y : Remaining). AlikeOption (one_column x) (one_column y)) (λ c d bs t. blank_alike c d bs t) a b h

-- what holds where both are there, and where neither is
with_both : {A : Type 0} (P : A → A → Type 0) (o p : Option Remaining) (none other : A) (f g : Remaining → A) → AlikeOption o p → P none other → ((x y : Remaining) → Alike x y → P (f x) (g y))
    → P (with_rest o none f) (with_rest p other g)
with_both P None None none other f g h k both = k
with_both P (Some x) (Some y) none other f g h k both = both x y h
with_both P (Some x) None none other f g h k both = absurd h
with_both P None (Some y) none other f g h k both = absurd h

-- columns are taken from both
pub take_alike : (n : ℕ) (a b : Remaining) → Alike a b → Alike (take_columns n a) (take_columns n b)
unfolding take_columns
take_alike zero a b h = h
take_alike (suc n) a b h = with_both Alike (one_column a) (one_column b) a b (take_columns n) (take_columns n) (one_alike a b h) h (λ x y k. take_alike n x y k)

-- both have as many columns in front
pub columns_alike : (n : ℕ) (a b : Remaining) → Alike a b → columns_in_front n a ≡ columns_in_front n b
unfolding columns_in_front
columns_alike zero a b h = refl
columns_alike (suc n) a b h =
    with_both (λ (i j : ℕ). i ≡ j) (one_column a) (one_column b) 0 0 (λ next. 1 + columns_in_front n next) (λ next. 1 + columns_in_front n next) (one_alike a b h) refl
    (λ x y k. ap (λ (m : ℕ). 1 + m) (columns_alike n x y k))

-- bytes are skipped in both
pub skip_alike : (n : ℕ) (a b : Remaining) → Alike a b → Alike (skip n a) (skip n b)
unfolding skip
skip_alike n a b h = record { bytes = ap (drop n) h.bytes; first = refl; second = refl; tabs = drop_tabs n a.bytes h.tabs }

-- ---- containers that go on

-- both are behind a sign > of a quote
pub after_quote_alike : (a b : Remaining) → Alike a b → Alike (after_quote a) (after_quote b)
after_quote_alike a b h = take_alike 1 (skip 1 a) (skip 1 b) (skip_alike 1 a b h)

quote_alike : (a b : Remaining) → Alike a b → AlikeOption (quote_goes_on a) (quote_goes_on b)
quote_alike a b h =
    let taken = take_alike 4 a b h in
    by_both AlikeOption ((columns_in_front 4 a == 4) || not (first (take_columns 4 a).bytes == 62)) ((columns_in_front 4 b == 4) || not (first (take_columns 4 b).bytes == 62)) _ _ _ _
    (ap (λ (n : ℕ). (n == 4) || not (first (take_columns 4 a).bytes == 62)) (columns_alike 4 a b h) ∙ ap (λ (bs : List ℕ). (columns_in_front 4 b == 4) || not (first bs == 62)) taken.bytes)
    tt (after_quote_alike (take_columns 4 a) (take_columns 4 b) taken)

item_alike : (content : ℕ) (bare : Bool) (a b : Remaining) → Alike a b → AlikeOption (item_goes_on content bare a) (item_goes_on content bare b)
item_alike content bare a b h =
    let taken = take_alike content a b h in
    by_both AlikeOption (is_blank a.bytes) (is_blank b.bytes) _ _ _ _ (ap is_blank h.bytes)
    (by_both AlikeOption bare bare None (Some (take_columns content a)) None (Some (take_columns content b)) refl tt taken)
    (by_both AlikeOption (columns_in_front content a == content) (columns_in_front content b == content) (Some (take_columns content a)) None (Some (take_columns content b)) None
    (ap (λ (n : ℕ). n == content) (columns_alike content a b h)) taken tt)

goes_on_alike : (container : Container) (bare : Bool) (a b : Remaining) → Alike a b → AlikeOption (goes_on container bare a) (goes_on container bare b)
unfolding goes_on
goes_on_alike Quote bare a b h = quote_alike a b h
goes_on_alike (Item sign number content) bare a b h = item_alike content bare a b h

-- as many containers go on, and what is left is alike
pub record AlikeMatched (x y : Matched) : Type 0 where
  pub count : x.count ≡ y.count
  pub rest : Alike x.rest y.rest

match_alike : (o p : Option Remaining) (a b : Remaining) (f : Remaining → Matched) → Alike a b → AlikeOption o p → ((x y : Remaining) → Alike x y → AlikeMatched (f x) (f y))
    → AlikeMatched (match_more o a f) (match_more p b f)
match_alike None None a b f h k on = record { count = refl; rest = h }
match_alike (Some x) (Some y) a b f h k on = let m = on x y k in record { count = ap (λ (n : ℕ). 1 + n) m.count; rest = m.rest }
match_alike (Some x) None a b f h k on = absurd k
match_alike None (Some y) a b f h k on = absurd k

-- as many containers go on in both
pub matched_alike : (bare : Bool) (containers : List Container) (a b : Remaining) → Alike a b → AlikeMatched (matched bare containers a) (matched bare containers b)
unfolding matched
matched_alike bare [] a b h = record { count = refl; rest = h }
matched_alike bare (container ∷ inner) a b h =
    let here = bare && (length inner == 0) in
    match_alike (goes_on container here a) (goes_on container here b) a b (matched bare inner) h (goes_on_alike container here a b h) (λ x y k. matched_alike bare inner x y k)

-- ---- containers that begin

-- the same container begins both, or none does
abbrev pub AlikeOpened : Option Opened → Option Opened → Type 0
AlikeOpened None None = Unit {0}
AlikeOpened (Some x) (Some y) = (x.container ≡ y.container) × Alike x.rest y.rest
AlikeOpened (Some x) None = ⊥
AlikeOpened None (Some y) = ⊥

gap_is : Bool → ℕ → ℕ
gap_is blank columns = if blank || nat_lt 4 columns then 1 else columns

gap_alike : (a b : Remaining) → Alike a b → gap_after a ≡ gap_after b
unfolding gap_is
gap_alike a b h = ap (λ (t : Bool). gap_is t (columns_in_front 5 a)) (ap is_blank h.bytes) ∙ ap (gap_is (is_blank b.bytes)) (columns_alike 5 a b h)

before_alike : (indent : ℕ) (marker : Marker) (a b : Remaining) → Alike a b → AlikeOpened (Some (item_before indent marker a)) (Some (item_before indent marker b))
before_alike indent marker a b h =
    let gap = gap_alike a b h in
    (ap (λ (n : ℕ). Item marker.sign marker.number (indent + marker.length + n)) gap, subst (λ (n : ℕ). Alike (take_columns (gap_after a) a) (take_columns n b)) gap (take_alike (gap_after a) a b h))

item_of_alike : (in_paragraph : Bool) (indent : ℕ) (a b : Remaining) (o p : Option Marker) → Alike a b → o ≡ p → AlikeOpened (item_of in_paragraph indent a o) (item_of in_paragraph indent b p)
item_of_alike in_paragraph indent a b o p h e = subst (λ (q : Option Marker). AlikeOpened (item_of in_paragraph indent a o) (item_of in_paragraph indent b q)) e (by_marker o)
  where
    by_marker : (q : Option Marker) → AlikeOpened (item_of in_paragraph indent a q) (item_of in_paragraph indent b q)
    by_marker None = tt
    by_marker (Some marker) =
        by_both AlikeOpened (in_paragraph && not (may_interrupt marker a.bytes)) (in_paragraph && not (may_interrupt marker b.bytes)) _ _ _ _
        (ap (λ (bs : List ℕ). in_paragraph && not (may_interrupt marker bs)) h.bytes) tt (before_alike indent marker (skip marker.length a) (skip marker.length b) (skip_alike marker.length a b h))

item_start_alike : (in_paragraph : Bool) (indent : ℕ) (a b : Remaining) → Alike a b → AlikeOpened (item_start in_paragraph indent a) (item_start in_paragraph indent b)
item_start_alike in_paragraph indent a b h =
    by_both AlikeOpened (is_rule a.bytes || (in_paragraph && is_some (underline_level a.bytes))) (is_rule b.bytes || (in_paragraph && is_some (underline_level b.bytes))) _ _ _ _
    (ap (λ (bs : List ℕ). is_rule bs || (in_paragraph && is_some (underline_level bs))) h.bytes) tt (item_of_alike in_paragraph indent a b (marker_start a.bytes) (marker_start b.bytes) h (ap marker_start h.bytes))

container_after_alike : (in_paragraph : Bool) (indent : ℕ) (a b : Remaining) → Alike a b → AlikeOpened (container_after in_paragraph indent a) (container_after in_paragraph indent b)
container_after_alike in_paragraph indent a b h =
    by_both AlikeOpened (first a.bytes == 62) (first b.bytes == 62) _ _ _ _ (ap (λ (bs : List ℕ). first bs == 62) h.bytes) (refl, after_quote_alike a b h) (item_start_alike in_paragraph indent a b h)

-- the same container begins both
pub container_alike : (in_paragraph : Bool) (a b : Remaining) → Alike a b → AlikeOpened (container_start in_paragraph a) (container_start in_paragraph b)
unfolding container_start
container_alike in_paragraph a b h =
    let columns = columns_alike 4 a b h in
    by_both AlikeOpened (columns_in_front 4 a == 4) (columns_in_front 4 b == 4) _ _ _ _ (ap (λ (n : ℕ). n == 4) columns) tt
    (subst (λ (n : ℕ). AlikeOpened (container_after in_paragraph (columns_in_front 4 a) (take_columns 4 a)) (container_after in_paragraph n (take_columns 4 b))) columns
    (container_after_alike in_paragraph (columns_in_front 4 a) (take_columns 4 a) (take_columns 4 b) (take_alike 4 a b h)))

-- the same containers begin, and what is left is alike
pub record AlikeOpens (x y : Opens) : Type 0 where
  pub containers : x.containers ≡ y.containers
  pub rest : Alike x.rest y.rest

open_alike : (o p : Option Opened) (a b : Remaining) (f : Remaining → Opens) → Alike a b → AlikeOpened o p → ((x y : Remaining) → Alike x y → AlikeOpens (f x) (f y)) → AlikeOpens (open_more o a f) (open_more p b f)
open_alike None None a b f h k on = record { containers = refl; rest = h }
open_alike (Some x) (Some y) a b f h k on =
    let m = on x.rest y.rest k.1 in
    record { containers = ap (λ (c : Container). c ∷ (f x.rest).containers) k.0 ∙ ap (λ (cs : List Container). y.container ∷ cs) m.containers; rest = m.rest }
open_alike (Some x) None a b f h k on = absurd k
open_alike None (Some y) a b f h k on = absurd k

-- the same containers begin both
pub opened_alike : (room : ℕ) (in_paragraph : Bool) (a b : Remaining) → Alike a b → AlikeOpens (opened room in_paragraph a) (opened room in_paragraph b)
unfolding opened
opened_alike zero in_paragraph a b h = record { containers = refl; rest = h }
opened_alike (suc room) in_paragraph a b h =
    open_alike (container_start in_paragraph a) (container_start in_paragraph b) a b (opened room false) h (container_alike in_paragraph a b h) (λ x y k. opened_alike room false x y k)

-- ---- the leaf that begins

-- both begin as the same, and have texts that are alike
pub record AlikeBegun (x y : Beginning) : Type 0 where
  pub start : x.start ≡ y.start
  pub text : Alike x.text y.text

rule_alike : (a b : Remaining) → Alike a b → AlikeBegun (rule_start a) (rule_start b)
rule_alike a b h = by_both AlikeBegun (is_rule a.bytes) (is_rule b.bytes) _ _ _ _ (ap is_rule h.bytes) (record { start = refl; text = h }) (record { start = refl; text = h })

or_rule_alike : (a b : Remaining) (o : Option ℕ) → Alike a b → AlikeBegun (or_rule o a) (or_rule o b)
or_rule_alike a b None h = rule_alike a b h
or_rule_alike a b (Some level) h = record { start = refl; text = h }

underline_alike : (joining : Joining) (a b : Remaining) → Alike a b → AlikeBegun (underline_start joining a) (underline_start joining b)
underline_alike Fully a b h = subst (λ (o : Option ℕ). AlikeBegun (or_rule (underline_level a.bytes) a) (or_rule o b)) (ap underline_level h.bytes) (or_rule_alike a b (underline_level a.bytes) h)
underline_alike Apart a b h = rule_alike a b h
underline_alike Lazily a b h = rule_alike a b h
underline_alike InTable a b h = rule_alike a b h

or_underline_alike : (o : Option Ending) (joining : Joining) (u v a b : Remaining) → Alike u v → Alike a b → AlikeBegun (or_underline o joining u a) (or_underline o joining v b)
or_underline_alike None joining u v a b k h = underline_alike joining a b h
or_underline_alike (Some ending) joining u v a b k h = record { start = ap (λ (bs : List ℕ). HtmlStart ending (ends_html ending bs)) h.bytes; text = k }

or_html_alike : (o : Option Fence) (joining : Joining) (indent : ℕ) (u v a b : Remaining) → Alike u v → Alike a b → AlikeBegun (or_html o joining indent u a) (or_html o joining indent v b)
or_html_alike None joining indent u v a b k h =
    subst (λ (o : Option Ending). AlikeBegun (or_underline (html_start (joins joining) a.bytes) joining u a) (or_underline o joining v b)) (ap (html_start (joins joining)) h.bytes)
    (or_underline_alike (html_start (joins joining) a.bytes) joining u v a b k h)
or_html_alike (Some fence) joining indent u v a b k h = record { start = refl; text = skip_alike fence.length a b h }

or_fence_alike : (o : Option ℕ) (joining : Joining) (indent : ℕ) (u v a b : Remaining) → Alike u v → Alike a b → AlikeBegun (or_fence o joining indent u a) (or_fence o joining indent v b)
or_fence_alike None joining indent u v a b k h =
    subst (λ (o : Option Fence). AlikeBegun (or_html (fence_start a.bytes) joining indent u a) (or_html o joining indent v b)) (ap fence_start h.bytes) (or_html_alike (fence_start a.bytes) joining indent u v a b k h)
or_fence_alike (Some level) joining indent u v a b k h = record { start = refl; text = skip_alike level a b h }

mark_alike : (joining : Joining) (i j : ℕ) (u v a b : Remaining) → i ≡ j → Alike u v → Alike a b → AlikeBegun (mark_start joining i u a) (mark_start joining j v b)
unfolding mark_start
mark_alike joining i j u v a b e k h =
    subst (λ (n : ℕ). AlikeBegun (mark_start joining i u a) (mark_start joining n v b)) e
    (subst (λ (o : Option ℕ). AlikeBegun (or_fence (heading_level a.bytes) joining i u a) (or_fence o joining i v b)) (ap heading_level h.bytes) (or_fence_alike (heading_level a.bytes) joining i u v a b k h))

blanks_tabs : (bs : List ℕ) → NoTab bs → NoTab (without_blanks bs)
unfolding without_blanks
blanks_tabs bs h = drop_tabs (prefix_len is_blank_byte bs) bs h

unindented_alike : (a b : Remaining) → Alike a b → Alike (unindented a) (unindented b)
unindented_alike a b h = record { bytes = ap without_blanks h.bytes; first = refl; second = refl; tabs = blanks_tabs a.bytes h.tabs }

code_alike : (joining : Joining) (a b : Remaining) → Alike a b → AlikeBegun (code_start joining a) (code_start joining b)
code_alike joining a b h =
    record { start = refl; text = by_both Alike (joins joining) (joins joining) (unindented a) (take_columns 4 a) (unindented b) (take_columns 4 b) refl (unindented_alike a b h) (take_alike 4 a b h) }

-- both begin as the same leaf
pub leaf_alike : (joining : Joining) (a b : Remaining) → Alike a b → AlikeBegun (leaf_start joining a) (leaf_start joining b)
unfolding leaf_start
leaf_alike joining a b h =
    let columns = columns_alike 4 a b h in
    by_both AlikeBegun (is_blank a.bytes) (is_blank b.bytes) _ _ _ _ (ap is_blank h.bytes) (record { start = refl; text = h })
    (by_both AlikeBegun (columns_in_front 4 a == 4) (columns_in_front 4 b == 4) (code_start joining a) (mark_start joining (columns_in_front 4 a) a (take_columns 4 a)) (code_start joining b) (mark_start joining (columns_in_front 4 b) b (take_columns 4 b))
    (ap (λ (n : ℕ). n == 4) columns) (code_alike joining a b h) (mark_alike joining (columns_in_front 4 a) (columns_in_front 4 b) a b (take_columns 4 a) (take_columns 4 b) columns h (take_alike 4 a b h)))

-- ---- the open leaf

closes_alike : (sign length : ℕ) (a b : Remaining) → Alike a b → closes_fence sign length a ≡ closes_fence sign length b
closes_alike sign length a b h =
    ap (λ (n : ℕ). nat_lt n 4 && is_run_alone sign length (take_columns 4 a).bytes) (columns_alike 4 a b h)
    ∙ ap (λ (bs : List ℕ). nat_lt (columns_in_front 4 b) 4 && is_run_alone sign length bs) (take_alike 4 a b h).bytes

-- the open leaf makes the same of both
pub going_alike : (leaf : Leaf) (a b : Remaining) → Alike a b → going_on leaf a ≡ going_on leaf b
unfolding going_on
going_alike (Fenced sign length indent) a b h = ap (λ (t : Bool). cond t Ends On) (closes_alike sign length a b h)
going_alike Indented a b h =
    ap (λ (bs : List ℕ). cond (is_blank bs || (columns_in_front 4 a == 4)) On No) h.bytes ∙ ap (λ (n : ℕ). cond (is_blank b.bytes || (n == 4)) On No) (columns_alike 4 a b h)
going_alike (Html ending) a b h = ap (λ (bs : List ℕ). html_going ending (at 0 bs)) h.bytes
going_alike Nothing a b h = refl
going_alike Bare a b h = refl
going_alike Paragraph a b h = refl
going_alike Table a b h = refl

-- both underline a paragraph of definitions, or neither does
pub defines_alike : (defining : List ℕ) (all : Bool) (a b : Remaining) → Alike a b → only_defines defining all a ≡ only_defines defining all b
defines_alike defining all a b h =
    let taken = take_alike 4 a b h in
    let rest_of : Bool → Bool = λ (t : Bool). cond ((length defining == 0) || not all) false (t && are_definitions (length defining) defining) in
    ap (λ (n : ℕ). rest_of (nat_lt n 4 && is_some (underline_level (take_columns 4 a).bytes))) (columns_alike 4 a b h)
    ∙ ap (λ (bs : List ℕ). rest_of (nat_lt (columns_in_front 4 b) 4 && is_some (underline_level bs))) taken.bytes

words_alike : (joining : Joining) (cells : ℕ) (a b : Remaining) → Alike a b → words_deed joining cells a ≡ words_deed joining cells b
words_alike Apart cells a b h = refl
words_alike Lazily cells a b h = refl
words_alike Fully cells a b h = ap (λ (bs : List ℕ). words_deed Fully cells (at 0 bs)) h.bytes
words_alike InTable cells a b h = refl

-- what begins the same does the same
pub deed_alike : (joining : Joining) (cells : ℕ) (a b : Remaining) (start : Start) → Alike a b → deed_at joining cells a start ≡ deed_at joining cells b start
deed_alike joining cells a b Blank h = refl
deed_alike joining cells a b Code h = refl
deed_alike joining cells a b (Heading level) h = refl
deed_alike joining cells a b (FenceStart sign length indent) h = refl
deed_alike joining cells a b (HtmlStart ending ends) h = refl
deed_alike joining cells a b (Underline level) h = refl
deed_alike joining cells a b Rule h = refl
deed_alike joining cells a b Words h = words_alike joining cells a b h
