-- The numbers of items fit 32 bits.
use Rattle.std.proofs.Common.{◌≡◌, ℕ, zero, suc, ◌+◌, ◌-◌, ◌^◌, ◌<◌, ◌≤◌, Bool, true, false, not, ◌&&◌, ◌||◌, ◌==◌, List, [], ◌∷◌, ◌++◌, map, length, take, drop, Option, Some, None, refl, sym, subst, arith, lit<, if◌then◌else◌}
use Rattle.std.specs.Prelude.{nat_lt, is_some, IfSome, slice_index}
use Rattle.std.specs.Char.{digit_value, is_ascii_digit}
use Rattle.std.specs.List.{AllByRecursion, prefix_len}
use Rattle.std.specs.Str.Parse.{AllDigits, digits_value}
use Rattle.std.proofs.Math.Nat.{pow-le-pow_right}
use Rattle.std.proofs.lemmas.Bool.Decides.{nat_tests}
use Rattle.std.proofs.lemmas.Int.Digits.{digits_value-lt}
use Rattle.mad_measure.proofs.AllLemmas.{all_joined}
use Rattle.markdown_blocks.specs.Containers.{Opened, after_quote, container_after, container_start, item_before, item_of, item_start, open_more, opened}
use Rattle.markdown_blocks.specs.Events.{Event, enter, leave, leaves, line, step_events}
use Rattle.markdown_blocks.specs.Leaves.{closes_fence, ends_by_blank, going_on, is_bare}
use Rattle.markdown_blocks.specs.Steps.{State, Step, begun_line, line_step, matched_line, step}
use Rattle.markdown_blocks.specs.Containers.{Matched, Opens, matched}
use Rattle.markdown_blocks.specs.declared.containers.Container.{Container}
use Rattle.markdown_blocks.specs.declared.containers.Container.TheVariants.{Item, Quote}
use Rattle.markdown_blocks.specs.declared.leaves.Leaf.{Leaf}
use Rattle.markdown_blocks.specs.declared.leaves.Leaf.TheVariants.{Nothing as NothingLeaf, Bare as BareLeaf, Paragraph as ParagraphLeaf, Indented as IndentedLeaf, Fenced as FencedLeaf, Html as HtmlLeaf, Table as TableLeaf}
use Rattle.markdown_pieces.proofs.TailLemmas.{by_cond}
use Rattle.markdown_html.specs.Ends.{ends_html}
use Rattle.markdown_marks.specs.Bytes.{ends_sign, first, is_blank}
use Rattle.markdown_marks.specs.Items.{is_bullet, marker_of, marker_start, may_interrupt, ordered_of}
use Rattle.markdown_marks.specs.Marks.{is_rule, underline_level}
use Rattle.markdown_marks.specs.Remaining.{Remaining, columns_in_front, skip, take_columns, whole}
use Rattle.markdown_marks.specs.declared.items.Marker.{Marker}
use Rattle.markdown_blocks.specs.declared.leaves.Deed.{Deed}
use Rattle.markdown_blocks.specs.declared.leaves.Deed.TheVariants.{Begins, Blank, Closes, GoesOn, Heading as HeadingDeed, Html as HtmlDeed, Rule as RuleDeed, Tabulates, Underlines}
use Rattle.markdown_leaves.specs.Defining.{cut_lines}
use Rattle.markdown_leaves.specs.Gather.{Gathering, add_block, add_unless_empty, add_words, closed, closed_as, heading_line, line_done}
use Rattle.markdown_leaves.specs.Parts.{PartContent, begins, block, ends}
use Rattle.markdown_leaves.specs.Told.{happened, told}
use Rattle.markdown_leaves.specs.declared.parts.Kind.{Kind}
use Rattle.markdown_leaves.specs.declared.parts.Kind.TheVariants.{Definitions, Fenced, Heading, Html, Indented, Nothing, Paragraph, Rule, Table}

-- ---- containers that begin

-- the number of an item fits
abbrev pub IsSmallContainer : Container → Type 0
IsSmallContainer Quote = Unit {0}
IsSmallContainer (Item sign number content) = number < 2 ^ 32

abbrev pub AreSmall : List Container → Type 0
AreSmall containers = AllByRecursion IsSmallContainer containers

abbrev IsSmallMarker : Marker → Type 0
IsSmallMarker marker = marker.number < 2 ^ 32

abbrev IsSmallOpened : Opened → Type 0
IsSmallOpened found = IsSmallContainer found.container

if_some : {A : Type 0} (P : A → Type 0) (t : Bool) (a b : Option A) → (t ≡ true → IfSome a P) → (t ≡ false → IfSome b P) → IfSome (if t then a else b) P
if_some P true a b h k = h refl
if_some P false a b h k = k refl

digit_is : (b : ℕ) → is_ascii_digit b ≡ true → digit_value b < 10
digit_is b e = grind (arith, nat_tests)

digits_with : (b : ℕ) (bs : List ℕ) (t : Bool) (n k : ℕ) → is_ascii_digit b ≡ t → k ≡ suc n → AllDigits 10 (take n bs) → AllDigits 10 (take (if t then k else 0) (b ∷ bs))
digits_with b bs true n k e s h = subst (λ (j : ℕ). AllDigits 10 (take j (b ∷ bs))) (sym s) (digit_is b e, h)
digits_with b bs false n k e s h = tt

digits_front : (bs : List ℕ) → AllDigits 10 (take (prefix_len is_ascii_digit bs) bs)
digits_front [] = tt
digits_front (b ∷ bs) = digits_with b bs (is_ascii_digit b) (prefix_len is_ascii_digit bs) (1 + prefix_len is_ascii_digit bs) refl (omega arith) (digits_front bs)

few_taken : (n : ℕ) (bytes : List ℕ) → length (take n bytes) ≤ n
few_taken zero bytes = omega arith
few_taken (suc n) [] = omega arith
few_taken (suc n) (b ∷ bs) = omega (arith, few_taken n bs)

number_small : (bytes : List ℕ) → prefix_len is_ascii_digit bytes ≤ 9 → digits_value 10 (take (prefix_len is_ascii_digit bytes) bytes) < 2 ^ 32
number_small bytes nine =
    let digits : List ℕ = take (prefix_len is_ascii_digit bytes) bytes in
    let below : digits_value 10 digits < 10 ^ length digits = digits_value-lt 10 digits (digits_front bytes) in
    let len : length digits ≤ 9 = omega (arith, few_taken (prefix_len is_ascii_digit bytes) bytes, nine) in
    let most : 10 ^ length digits ≤ 10 ^ 9 = pow-le-pow_right (lit< tt) len in
    omega (arith, below, most)

marker_small : (fits : Bool) (sign number len : ℕ) (bytes : List ℕ) → number < 2 ^ 32 → IfSome (marker_of fits sign number len bytes) IsSmallMarker
marker_small fits sign number len bytes h = if_some IsSmallMarker (fits && ends_sign (drop len bytes)) (Some (record { sign = sign; number = number; length = len })) None (λ e. h) (λ e. tt)

at_most_nine : (a : Bool) (n : ℕ) → (a || nat_lt 9 n) ≡ false → n ≤ 9
at_most_nine false n h = grind (arith, nat_tests, h)
at_most_nine true n h = absurd (cc)

start_small : (bytes : List ℕ) → IfSome (marker_start bytes) IsSmallMarker
start_small bytes =
    let digits : ℕ = prefix_len is_ascii_digit bytes in
    let sign : ℕ = slice_index bytes digits in
    if_some IsSmallMarker (is_bullet (first bytes)) (marker_of (is_bullet (first bytes)) (first bytes) 0 1 bytes) (ordered_of digits sign bytes) (λ e. marker_small (is_bullet (first bytes)) (first bytes) 0 1 bytes (omega arith))
    (λ e. if_some IsSmallMarker ((digits == 0) || nat_lt 9 digits) None (marker_of ((sign == 46) || (sign == 41)) sign (digits_value 10 (take digits bytes)) (digits + 1) bytes) (λ z. tt) (λ z. marker_small ((sign == 46) || (sign == 41)) sign (digits_value 10 (take digits bytes)) (digits + 1) bytes (number_small bytes (at_most_nine (digits == 0) digits z))))

item_small : (in_paragraph : Bool) (indent : ℕ) (rest : Remaining) (found : Option Marker) → IfSome found IsSmallMarker → IfSome (item_of in_paragraph indent rest found) IsSmallOpened
item_small in_paragraph indent rest None h = tt
item_small in_paragraph indent rest (Some marker) h = if_some IsSmallOpened (in_paragraph && not (may_interrupt marker rest.bytes)) None (Some (item_before indent marker (skip marker.length rest))) (λ e. tt) (λ e. h)

container_small : (in_paragraph : Bool) (rest : Remaining) → IfSome (container_start in_paragraph rest) IsSmallOpened
unfolding container_start
container_small in_paragraph rest =
    let indent : ℕ = columns_in_front 4 rest in
    let inner : Remaining = take_columns 4 rest in
    if_some IsSmallOpened (columns_in_front 4 rest == 4) None (container_after in_paragraph indent inner) (λ e. tt)
    (λ e. if_some IsSmallOpened (first inner.bytes == 62) (Some (record { container = Quote; rest = after_quote inner })) (item_start in_paragraph indent inner) (λ z. tt)
    (λ z. if_some IsSmallOpened (is_rule inner.bytes || (in_paragraph && is_some (underline_level inner.bytes))) None (item_of in_paragraph indent inner (marker_start inner.bytes)) (λ y. tt)
    (λ y. item_small in_paragraph indent inner (marker_start inner.bytes) (start_small inner.bytes))))

more_small : (found : Option Opened) (rest : Remaining) (others : Remaining → Opens) → IfSome found IsSmallOpened → ((next : Remaining) → AreSmall (others next).containers) → AreSmall (open_more found rest others).containers
more_small None rest others h k = tt
more_small (Some found) rest others h k = (h, k found.rest)

opened_small : (room : ℕ) (in_paragraph : Bool) (rest : Remaining) → AreSmall (opened room in_paragraph rest).containers
unfolding opened
opened_small zero in_paragraph rest = tt
opened_small (suc room) in_paragraph rest = more_small (container_start in_paragraph rest) rest (opened room false) (container_small in_paragraph rest) (λ next. opened_small room false next)

-- ---- lines

take_small : (n : ℕ) (containers : List Container) → AreSmall containers → AreSmall (take n containers)
take_small zero containers h = tt
take_small (suc n) [] h = tt
take_small (suc n) (container ∷ containers) h = (h.0, take_small n containers h.1)

drop_small : (n : ℕ) (containers : List Container) → AreSmall containers → AreSmall (drop n containers)
drop_small zero containers h = h
drop_small (suc n) [] h = tt
drop_small (suc n) (container ∷ containers) h = drop_small n containers h.1

begun_small : (state : State) (found : Matched) → AreSmall state.containers → AreSmall (begun_line state found).state.containers
unfolding begun_line
begun_small state found h = all_joined IsSmallContainer (take _ state.containers) _ (take_small _ state.containers h) (opened_small _ _ _)

-- whatever the open leaf makes of the line
matched_small : (leaf : Leaf) (rest : Remaining) (state : State) (found : Matched) → AreSmall state.containers → AreSmall (matched_line (going_on leaf rest) state found).state.containers
unfolding going_on
matched_small (FencedLeaf sign length indent) rest state found h =
    by_cond (λ going. AreSmall (matched_line going state found).state.containers) (closes_fence sign length rest) _ _ (λ e. h) (λ e. h)
matched_small IndentedLeaf rest state found h =
    by_cond (λ going. AreSmall (matched_line going state found).state.containers) (is_blank rest.bytes || (columns_in_front 4 rest == 4)) _ _ (λ e. h) (λ e. begun_small state found h)
matched_small (HtmlLeaf ending) rest state found h =
    by_cond (λ going. AreSmall (matched_line going state found).state.containers) (ends_by_blank ending) _ _
    (λ e. by_cond (λ going. AreSmall (matched_line going state found).state.containers) (is_blank rest.bytes) _ _ (λ k. begun_small state found h) (λ k. h))
    (λ e. by_cond (λ going. AreSmall (matched_line going state found).state.containers) (ends_html ending rest.bytes) _ _ (λ k. h) (λ k. h))
matched_small NothingLeaf rest state found h = begun_small state found h
matched_small BareLeaf rest state found h = begun_small state found h
matched_small ParagraphLeaf rest state found h = begun_small state found h
matched_small TableLeaf rest state found h = begun_small state found h

if_small : (t : Bool) (a b : Step) → AreSmall a.state.containers → AreSmall b.state.containers → AreSmall (if t then a else b).state.containers
if_small true a b h k = h
if_small false a b h k = k

line_small : (state : State) (found : Matched) → AreSmall state.containers → AreSmall (line_step state found).state.containers
unfolding line_step
line_small state found h =
    if_small (found.count == length state.containers) (matched_line (going_on state.leaf found.rest) state found) (begun_line state found) (matched_small state.leaf found.rest state found h) (begun_small state found h)

pub step_small : (state : State) (text : List ℕ) → AreSmall state.containers → AreSmall (step state text).state.containers
unfolding step
step_small state text h = line_small state (matched (is_bare state.leaf) state.containers (whole text)) h

-- ---- parts

-- a container that begins is so
abbrev pub IsSmallPart : PartContent → Type 0
IsSmallPart (begins container apart) = IsSmallContainer container
IsSmallPart _ = Unit {0}

abbrev pub AreSmallParts : List PartContent → Type 0
AreSmallParts parts = AllByRecursion IsSmallPart parts

if_parts : (t : Bool) (a b : List PartContent) → AreSmallParts a → AreSmallParts b → AreSmallParts (if t then a else b)
if_parts true a b h k = h
if_parts false a b h k = k

block_small : (kind : Kind) (apart : Bool) (lines : List Remaining) (parts : List PartContent) → AreSmallParts parts → AreSmallParts (add_block kind apart lines parts)
block_small kind apart lines parts h = all_joined IsSmallPart parts (block (record { kind = kind; apart = apart; lines = lines }) ∷ []) h (tt, tt)

unless_small : (kind : Kind) (apart : Bool) (lines : List Remaining) (parts : List PartContent) → AreSmallParts parts → AreSmallParts (add_unless_empty kind apart lines parts)
unless_small kind apart lines parts h = if_parts (length lines == 0) parts (add_block kind apart lines parts) h (block_small kind apart lines parts h)

words_small : (kind : Kind) (apart : Bool) (lines : List Remaining) (parts : List PartContent) → AreSmallParts parts → AreSmallParts (add_words kind apart lines parts)
words_small kind apart lines parts h =
    let cut : ℕ = cut_lines lines in
    unless_small kind (apart && (cut == 0)) (drop cut lines) (add_unless_empty Definitions apart (take cut lines) parts) (unless_small Definitions apart (take cut lines) parts h)

abbrev pub HasSmall : Gathering → Type 0
HasSmall g = AreSmallParts g.parts

as_small : (kind : Kind) (g : Gathering) → HasSmall g → HasSmall (closed_as kind g)
as_small Nothing g h = h
as_small Paragraph g h = words_small Paragraph g.apart g.lines g.parts h
as_small Indented g h = block_small Indented g.apart _ g.parts h
as_small (Heading level) g h = block_small g.kind g.apart g.lines g.parts h
as_small Fenced g h = block_small g.kind g.apart g.lines g.parts h
as_small Html g h = block_small g.kind g.apart g.lines g.parts h
as_small (Table columns) g h = block_small g.kind g.apart g.lines g.parts h
as_small Rule g h = block_small g.kind g.apart g.lines g.parts h
as_small Definitions g h = block_small g.kind g.apart g.lines g.parts h

pub closed_small : (g : Gathering) → HasSmall g → HasSmall (closed g)
unfolding closed
closed_small g h = as_small g.kind g h

done_small : (deed : Deed) (text : Remaining) (g : Gathering) → HasSmall g → HasSmall (line_done deed text g)
unfolding line_done
done_small Blank text g h = closed_small g h
done_small (Begins leaf) text g h = closed_small g h
done_small HtmlDeed text g h = block_small Html _ (text ∷ []) (closed g).parts (closed_small g h)
done_small GoesOn text g h = h
done_small Closes text g h = closed_small g h
done_small (Underlines level) text g h = words_small (Heading level) g.apart g.lines g.parts h
done_small (Tabulates columns) text g h = words_small Paragraph g.apart (take (length g.lines - 1) g.lines) g.parts h
done_small (HeadingDeed level) text g h = block_small (Heading level) _ (heading_line text ∷ []) (closed g).parts (closed_small g h)
done_small RuleDeed text g h = block_small Rule _ (text ∷ []) (closed g).parts (closed_small g h)

abbrev pub IsSmallEvent : Event → Type 0
IsSmallEvent (enter container) = IsSmallContainer container
IsSmallEvent _ = Unit {0}

happened_small : (event : Event) (g : Gathering) → IsSmallEvent event → HasSmall g → HasSmall (happened event g)
happened_small leave g e h = all_joined IsSmallPart (closed g).parts (ends ∷ []) (closed_small g h) (tt, tt)
happened_small (enter container) g e h = all_joined IsSmallPart (closed g).parts (begins container (closed g).passed ∷ []) (closed_small g h) (e, tt)
happened_small (line deed text) g e h = done_small deed text g h

pub told_small : (g : Gathering) (events : List Event) → AllByRecursion IsSmallEvent events → HasSmall g → HasSmall (told g events)
unfolding told
told_small g [] e h = h
told_small g (event ∷ events) e h = told_small (happened event g) events e.1 (happened_small event g e.0 h)

pub leaves_small : (n : ℕ) → AllByRecursion IsSmallEvent (leaves n)
leaves_small zero = tt
leaves_small (suc n) = (tt, leaves_small n)

enters_small : (containers : List Container) → AreSmall containers → AllByRecursion IsSmallEvent (map enter containers)
enters_small [] h = tt
enters_small (container ∷ containers) h = (h.0, enters_small containers h.1)

pub events_small : (state : State) (done : Step) → AreSmall done.state.containers → AllByRecursion IsSmallEvent (step_events state done)
events_small state done h =
    all_joined IsSmallEvent (leaves (length state.containers - done.line.kept)) (map enter (drop done.line.kept done.state.containers) ++ line done.line.deed done.line.text ∷ []) (leaves_small _)
    (all_joined IsSmallEvent (map enter (drop done.line.kept done.state.containers)) (line done.line.deed done.line.text ∷ []) (enters_small (drop done.line.kept done.state.containers) (drop_small done.line.kept done.state.containers h)) (tt, tt))
