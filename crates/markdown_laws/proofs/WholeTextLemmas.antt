-- Whatever happens in a text, its lines are told or left out.
use Rattle.std.proofs.Common.{◌≡◌, ℕ, zero, suc, ◌+◌, ◌-◌, ◌≤◌, ◌<◌, ◌==◌, ◌⊎◌, inl, inr, Bool, true, false, not, ◌&&◌, List, [], ◌∷◌, ◌++◌, map, length, take, drop, refl, sym, ap, subst, ◌∙◌, append_assoc, append-nil, arith, take-append-drop, if◌then◌else◌}
use Rattle.std.proofs.lemmas.Bool.Decides.{nat_tests}
use Rattle.std.proofs.lemmas.List.{map-append}
use Rattle.markdown_marks.specs.Bytes.{is_blank}
use Rattle.markdown_marks.specs.Remaining.{Remaining}
use Rattle.markdown_blocks.specs.Events.{Event, leave, enter, line, leaves, step_events, events_from}
use Rattle.markdown_blocks.specs.KeptLines.{IsEndOf, IsMarkupAlone}
use Rattle.markdown_blocks.specs.Lines.{text_lines}
use Rattle.markdown_blocks.specs.Steps.{State, Step, step}
use Rattle.markdown_blocks.specs.declared.containers.Container.{Container}
use Rattle.markdown_blocks.specs.declared.leaves.Deed.{Deed}
use Rattle.markdown_blocks.specs.declared.leaves.Deed.TheVariants.{Blank, Begins, Html as HtmlDeed, GoesOn, Closes, Underlines, Tabulates, Heading as HeadingDeed, Rule as RuleDeed}
use Rattle.markdown_blocks.specs.declared.leaves.Leaf.{Leaf}
use Rattle.markdown_blocks.specs.declared.leaves.Leaf.TheVariants.{Nothing as NothingLeaf, Bare, Paragraph as ParagraphLeaf, Indented as IndentedLeaf, Fenced as FencedLeaf, Html as HtmlLeaf, Table as TableLeaf}
use Rattle.markdown_blocks.proofs.DeedLemmas.{LeafBehind, is_begun_leaf, is_none_leaf, leaf_behind}
use Rattle.markdown_blocks.proofs.KeptLemmas.{nothing_lost}
use Rattle.markdown_blocks.proofs.SignLemmas.{IsClosed, SignOf, step_sign}
use Rattle.markdown_blocks.proofs.WithinLemmas.{at_first}
use Rattle.markdown_leaves.specs.Defining.{cut_lines}
use Rattle.markdown_leaves.specs.Gather.{Gathering, add_block, add_unless_empty, add_words, words_from, closed, closed_as, begun_in, entered_in, filled_from, first_text, heading_line, kind_of, left_in, line_done, nothing_told}
use Rattle.markdown_leaves.specs.Parts.{BlockContent, PartContent, begins, ends, block}
use Rattle.markdown_leaves.specs.Told.{happened, told, parts_of}
use Rattle.markdown_leaves.specs.declared.parts.Kind.{Kind}
use Rattle.markdown_leaves.specs.declared.parts.Kind.TheVariants.{Nothing, Paragraph, Heading, Indented, Fenced, Html, Table, Rule, Definitions}
use Rattle.markdown_laws.specs.Whole.{AreTold, IsToldAs, PartsTellAllLines, bytes_of, lines_told}
use Rattle.markdown_laws.proofs.FenceLemmas.{ended, read_of}
use Rattle.markdown_laws.proofs.HeldLemmas.{told_then}
use Rattle.markdown_laws.proofs.WholeLemmas.{AllBlank, left_more, out_blank, out_fence, out_underline, told_first, told_heading, told_more, told_whole, without_last}

-- ---- the lines that are told

-- the lines of leaves that are open have these bytes
abbrev texts : List Remaining → List (List ℕ)
texts lines = map bytes_of lines

told_both : (xs ys : List PartContent) → lines_told (xs ++ ys) ≡ lines_told xs ++ lines_told ys
told_both [] ys = refl
told_both (begins container apart ∷ xs) ys = told_both xs ys
told_both (ends ∷ xs) ys = told_both xs ys
told_both (block leaf ∷ xs) ys = ap (λ (ls : List (List ℕ)). texts leaf.lines ++ ls) (told_both xs ys) ∙ sym (append_assoc (texts leaf.lines) (lines_told xs) (lines_told ys))

-- one more leaf tells its lines
block_told : (kind : Kind) (apart : Bool) (lines : List Remaining) (parts : List PartContent) → lines_told (add_block kind apart lines parts) ≡ lines_told parts ++ texts lines
block_told kind apart lines parts = told_both parts (block (record { kind = kind; apart = apart; lines = lines }) ∷ []) ∙ ap (λ (ls : List (List ℕ)). lines_told parts ++ ls) (append-nil (texts lines))

no_lines : (lines : List Remaining) → (length lines == 0) ≡ true → lines ≡ []
no_lines [] h = refl
no_lines (l ∷ lines) h = absurd (grind (arith, nat_tests))

unless_by : (t : Bool) (kind : Kind) (apart : Bool) (lines : List Remaining) (parts : List PartContent) → (length lines == 0) ≡ t → lines_told (if t then parts else add_block kind apart lines parts) ≡ lines_told parts ++ texts lines
unless_by true kind apart lines parts h = sym (append-nil (lines_told parts)) ∙ ap (λ (ls : List Remaining). lines_told parts ++ texts ls) (sym (no_lines lines h))
unless_by false kind apart lines parts h = block_told kind apart lines parts

unless_told : (kind : Kind) (apart : Bool) (lines : List Remaining) (parts : List PartContent) → lines_told (add_unless_empty kind apart lines parts) ≡ lines_told parts ++ texts lines
unless_told kind apart lines parts = unless_by (length lines == 0) kind apart lines parts refl

texts_split : (n : ℕ) (lines : List Remaining) → texts (take n lines) ++ texts (drop n lines) ≡ texts lines
texts_split n lines = sym (map-append bytes_of (take n lines) (drop n lines)) ∙ ap texts (take-append-drop n lines)

-- the definitions in front and the words behind them are all lines
words_told : (kind : Kind) (apart : Bool) (lines : List Remaining) (parts : List PartContent) → lines_told (add_words kind apart lines parts) ≡ lines_told parts ++ texts lines
words_told kind apart lines parts =
    let cut = cut_lines lines in
    let front = add_unless_empty Definitions apart (take cut lines) parts in
    unless_told kind (apart && (cut == 0)) (drop cut lines) front
    ∙ ap (λ (ls : List (List ℕ)). ls ++ texts (drop cut lines)) (unless_told Definitions apart (take cut lines) parts)
    ∙ append_assoc (lines_told parts) (texts (take cut lines)) (texts (drop cut lines))
    ∙ ap (λ (ls : List (List ℕ)). lines_told parts ++ ls) (texts_split cut lines)

-- ---- indented code

filled_least : (count filled : ℕ) (lines : List Remaining) → filled ≤ count → filled ≤ filled_from count filled lines
unfolding filled_from
filled_least count filled [] h = omega arith
filled_least count filled (l ∷ lines) h = by_blank (is_blank l.bytes) (filled_least (count + 1) filled lines (omega (arith, h))) (filled_least (count + 1) (count + 1) lines (omega arith))
  where
    by_blank : (t : Bool) → filled ≤ filled_from (count + 1) filled lines → count + 1 ≤ filled_from (count + 1) (count + 1) lines → filled ≤ filled_from (count + 1) (if t then filled else count + 1) lines
    by_blank true f g = f
    by_blank false f g = omega (arith, g, h)

drop_one : (k n : ℕ) (l : Remaining) (lines : List Remaining) → k ≡ suc n → drop k (l ∷ lines) ≡ drop n lines
drop_one k n l lines e = ap (λ (m : ℕ). drop m (l ∷ lines)) e

-- a place after the first line, or this one
past : (k count : ℕ) → (k ≤ count) ⊎ (count + 1 ≤ k)
past zero count = inl (omega arith)
past (suc k) zero = inr (omega arith)
past (suc k) (suc count) = more (past k count)
  where
    more : (k ≤ count) ⊎ (count + 1 ≤ k) → (suc k ≤ suc count) ⊎ (suc count + 1 ≤ suc k)
    more (inl h) = inl (omega (arith, h))
    more (inr h) = inr (omega (arith, h))

blanks_at : (k count : ℕ) (l : Remaining) (lines : List Remaining) → is_blank l.bytes ≡ true → AllBlank (texts (drop (k - (count + 1)) lines)) → (k ≤ count) ⊎ (count + 1 ≤ k) → AllBlank (texts (drop (k - count) (l ∷ lines)))
blanks_at k count l lines b h (inl few) =
    let here : k - count ≡ 0 = omega (arith, few) in
    let next : k - (count + 1) ≡ 0 = omega (arith, few) in
    subst (λ (n : ℕ). AllBlank (texts (drop n (l ∷ lines)))) (sym here) (b, subst (λ (n : ℕ). AllBlank (texts (drop n lines))) next h)
blanks_at k count l lines b h (inr more) = subst (λ (ls : List Remaining). AllBlank (texts ls)) (sym (drop_one (k - count) (k - (count + 1)) l lines (omega (arith, more)))) h

-- the lines behind the last that isn't blank are blank
filled_blank : (count filled : ℕ) (lines : List Remaining) → filled ≤ count → AllBlank (texts (drop (filled_from count filled lines - count) lines))
unfolding filled_from
filled_blank count filled [] h = none (filled - count)
  where
    none : (n : ℕ) → AllBlank (texts (drop n []))
    none zero = tt
    none (suc n) = tt
filled_blank count filled (l ∷ lines) h =
    by_blank (is_blank l.bytes) refl (filled_blank (count + 1) filled lines (omega (arith, h))) (filled_blank (count + 1) (count + 1) lines (omega arith))
  where
    by_blank : (t : Bool) → is_blank l.bytes ≡ t → AllBlank (texts (drop (filled_from (count + 1) filled lines - (count + 1)) lines))
        → AllBlank (texts (drop (filled_from (count + 1) (count + 1) lines - (count + 1)) lines))
        → AllBlank (texts (drop (filled_from (count + 1) (if t then filled else count + 1) lines - count) (l ∷ lines)))
    by_blank true b f g = blanks_at (filled_from (count + 1) filled lines) count l lines b f (past (filled_from (count + 1) filled lines) count)
    by_blank false b f g =
        subst (λ (ls : List Remaining). AllBlank (texts ls)) (sym (drop_one (filled_from (count + 1) (count + 1) lines - count) (filled_from (count + 1) (count + 1) lines - (count + 1)) l lines (omega (arith, filled_least (count + 1) (count + 1) lines (omega arith))))) g

-- ---- a leaf ends

-- there is no leaf
abbrev is_nothing : Kind → Bool
is_nothing Nothing = true
is_nothing _ = false

-- all lines that are told so far, and those of the open leaf
abbrev all_lines : Gathering → List (List ℕ)
all_lines g = lines_told g.parts ++ texts g.lines

-- these lines are told, and where there is no leaf no line is open
record Tells (lines : List (List ℕ)) (g : Gathering) : Type 0 where
  are : AreTold lines (all_lines g)
  empty : is_nothing g.kind ≡ true → g.lines ≡ []

-- these lines are told, and none is open
record TellsAll (lines : List (List ℕ)) (g : Gathering) : Type 0 where
  are : AreTold lines (lines_told g.parts)
  none : g.lines ≡ []

none_open : (lines : List (List ℕ)) (g : Gathering) → TellsAll lines g → Tells lines g
none_open lines g h = record {
  are = subst (λ (ls : List (List ℕ)). AreTold lines ls) (sym (append-nil (lines_told g.parts)) ∙ ap (λ (ls : List Remaining). lines_told g.parts ++ texts ls) (sym h.none)) h.are;
  empty = λ e. h.none;
}

indented_told : (lines : List (List ℕ)) (g : Gathering) (count : ℕ) → AllBlank (texts (drop count g.lines)) → AreTold lines (all_lines g) → AreTold lines (lines_told (add_block Indented g.apart (take count g.lines) g.parts))
indented_told lines g count b a =
    let split : all_lines g ≡ lines_told (add_block Indented g.apart (take count g.lines) g.parts) ++ texts (drop count g.lines) =
    ap (λ (ls : List (List ℕ)). lines_told g.parts ++ ls) (sym (texts_split count g.lines)) ∙ sym (append_assoc (lines_told g.parts) (texts (take count g.lines)) (texts (drop count g.lines)))
    ∙ ap (λ (ls : List (List ℕ)). ls ++ texts (drop count g.lines)) (sym (block_told Indented g.apart (take count g.lines) g.parts)) in
    without_last lines (lines_told (add_block Indented g.apart (take count g.lines) g.parts)) (texts (drop count g.lines)) (subst (λ (ls : List (List ℕ)). AreTold lines ls) split a) b

as_it_is : (lines : List (List ℕ)) (g : Gathering) → AreTold lines (all_lines g) → AreTold lines (lines_told (add_block g.kind g.apart g.lines g.parts))
as_it_is lines g a = subst (λ (ls : List (List ℕ)). AreTold lines ls) (sym (block_told g.kind g.apart g.lines g.parts)) a

words_are : (lines : List (List ℕ)) (kind : Kind) (g : Gathering) → AreTold lines (all_lines g) → AreTold lines (lines_told (add_words kind g.apart g.lines g.parts))
words_are lines kind g a = subst (λ (ls : List (List ℕ)). AreTold lines ls) (sym (words_told kind g.apart g.lines g.parts)) a

no_more : (n : ℕ) → n - 0 ≡ n
no_more n = omega arith

closed_told_as : (lines : List (List ℕ)) (kind : Kind) (g : Gathering) → g.kind ≡ kind → Tells lines g → TellsAll lines (closed_as kind g)
closed_told_as lines Nothing g e h =
    let none = h.empty (ap is_nothing e) in
    record { are = subst (λ (ls : List (List ℕ)). AreTold lines ls) (ap (λ (ls : List Remaining). lines_told g.parts ++ texts ls) none ∙ append-nil (lines_told g.parts)) h.are; none = none }
closed_told_as lines Paragraph g e h = record { are = words_are lines Paragraph g h.are; none = refl }
closed_told_as lines (Heading level) g e h = record { are = as_it_is lines g h.are; none = refl }
closed_told_as lines Indented g e h =
    let count = filled_from 0 0 g.lines in
    record { are = indented_told lines g count (subst (λ (n : ℕ). AllBlank (texts (drop n g.lines))) (no_more count) (filled_blank 0 0 g.lines (omega arith))) h.are; none = refl }
closed_told_as lines Fenced g e h = record { are = as_it_is lines g h.are; none = refl }
closed_told_as lines Html g e h = record { are = as_it_is lines g h.are; none = refl }
closed_told_as lines (Table columns) g e h = record { are = as_it_is lines g h.are; none = refl }
closed_told_as lines Rule g e h = record { are = as_it_is lines g h.are; none = refl }
closed_told_as lines Definitions g e h = record { are = as_it_is lines g h.are; none = refl }

-- a leaf that ends is told
closed_told : (lines : List (List ℕ)) (g : Gathering) → Tells lines g → TellsAll lines (closed g)
unfolding closed
closed_told lines g h = closed_told_as lines g.kind g refl h

-- ---- containers

bare_part : (lines : List (List ℕ)) (parts : List PartContent) (part : PartContent) → lines_told (part ∷ []) ≡ [] → AreTold lines (lines_told parts) → AreTold lines (lines_told (parts ++ part ∷ []))
bare_part lines parts part e a =
    subst (λ (ls : List (List ℕ)). AreTold lines ls) (sym (told_both parts (part ∷ []) ∙ ap (λ (ls : List (List ℕ)). lines_told parts ++ ls) e ∙ append-nil (lines_told parts))) a

leaves_told : (lines : List (List ℕ)) (k : ℕ) (g : Gathering) → Tells lines g → Tells lines (told g (leaves k))
unfolding told
leaves_told lines zero g h = h
leaves_told lines (suc k) g h =
    let c = closed_told lines g h in
    leaves_told lines k (left_in (closed g)) (none_open lines (left_in (closed g)) (record { are = bare_part lines (closed g).parts ends refl c.are; none = c.none }))

enters_told : (lines : List (List ℕ)) (opens : List Container) (g : Gathering) → Tells lines g → Tells lines (told g (map enter opens))
unfolding told
enters_told lines [] g h = h
enters_told lines (container ∷ opens) g h =
    let c = closed_told lines g h in
    enters_told lines opens (entered_in container (closed g)) (none_open lines (entered_in container (closed g)) (record { are = bare_part lines (closed g).parts (begins container (closed g).passed) refl c.are; none = c.none }))

-- ---- a line

-- the line is told as its text, or left out
pub record Keeps (bytes : List ℕ) (deed : Deed) (text : Remaining) : Type 0 where
  pub last : IsEndOf bytes text.bytes
  pub alone : IsMarkupAlone deed text
  pub closed : IsClosed deed text

more_lines : (g : Gathering) (text : Remaining) → all_lines g ++ text.bytes ∷ [] ≡ lines_told g.parts ++ texts (g.lines ++ text ∷ [])
more_lines g text = append_assoc (lines_told g.parts) (texts g.lines) (text.bytes ∷ []) ∙ ap (λ (ls : List (List ℕ)). lines_told g.parts ++ ls) (sym (map-append bytes_of g.lines (text ∷ [])))

-- a leaf of one line
single_told : (lines : List (List ℕ)) (bytes : List ℕ) (kind : Kind) (text : Remaining) (apart : Bool) (g : Gathering) → TellsAll lines g → IsToldAs bytes text.bytes → AreTold (lines ++ bytes ∷ []) (lines_told (add_block kind apart (text ∷ []) g.parts))
single_told lines bytes kind text apart g h one =
    subst (λ (ls : List (List ℕ)). AreTold (lines ++ bytes ∷ []) ls) (sym (block_told kind apart (text ∷ []) g.parts)) (told_more lines (lines_told g.parts) bytes text.bytes h.are one)

begun_kind : (leaf : Leaf) → is_begun_leaf leaf ≡ true → is_nothing (kind_of leaf) ≡ false
begun_kind NothingLeaf h = let other : false ≡ true = h in absurd (cc)
begun_kind Bare h = let other : false ≡ true = h in absurd (cc)
begun_kind ParagraphLeaf h = refl
begun_kind IndentedLeaf h = refl
begun_kind (FencedLeaf sign length indent) h = refl
begun_kind (HtmlLeaf ending) h = refl
begun_kind TableLeaf h = let other : false ≡ true = h in absurd (cc)

-- a deed with which a line may come where these leaves are open
abbrev MayCome : Deed → Gathering → Type 0
MayCome GoesOn g = is_nothing g.kind ≡ false
MayCome (Begins leaf) g = is_begun_leaf leaf ≡ true
MayCome _ g = Unit {0}

never : (t : Bool) (A : Type 0) → t ≡ false → t ≡ true → A
never true A e h = let other : true ≡ false = e in absurd (cc)
never false A e h = let other : false ≡ true = h in absurd (cc)

tabulated_told : (at : ℕ) (text : Remaining) (g : Gathering) → all_lines g ++ text.bytes ∷ [] ≡ lines_told (add_words Paragraph g.apart (take at g.lines) g.parts) ++ texts (drop at g.lines ++ text ∷ [])
tabulated_told at text g =
    let front = texts (take at g.lines) in
    let back = texts (drop at g.lines) in
    append_assoc (lines_told g.parts) (texts g.lines) (text.bytes ∷ [])
    ∙ ap (λ (ls : List (List ℕ)). lines_told g.parts ++ (ls ++ text.bytes ∷ [])) (sym (texts_split at g.lines))
    ∙ ap (λ (ls : List (List ℕ)). lines_told g.parts ++ ls) (append_assoc front back (text.bytes ∷ []))
    ∙ sym (append_assoc (lines_told g.parts) front (back ++ text.bytes ∷ []))
    ∙ ap (λ (ls : List (List ℕ)). ls ++ (back ++ text.bytes ∷ [])) (sym (words_told Paragraph g.apart (take at g.lines) g.parts))
    ∙ ap (λ (ls : List (List ℕ)). lines_told (add_words Paragraph g.apart (take at g.lines) g.parts) ++ ls) (sym (map-append bytes_of (drop at g.lines) (text ∷ [])))

line_told : (lines : List (List ℕ)) (bytes : List ℕ) (deed : Deed) (text : Remaining) (g : Gathering) → Tells lines g → Keeps bytes deed text → MayCome deed g → Tells (lines ++ bytes ∷ []) (line_done deed text g)
unfolding line_done
line_told lines bytes Blank text g h k may =
    let c = closed_told lines g h in none_open (lines ++ bytes ∷ []) _ (record { are = left_more lines (lines_told (closed g).parts) bytes c.are (out_blank bytes text k.last k.alone); none = c.none })
line_told lines bytes (Begins leaf) text g h k may =
    let c = closed_told lines g h in
    record { are = told_more lines (lines_told (closed g).parts) bytes (first_text leaf text).bytes c.are (told_first leaf bytes text k.last); empty = λ e. never (is_nothing (kind_of leaf)) _ (begun_kind leaf may) e }
line_told lines bytes HtmlDeed text g h k may =
    none_open (lines ++ bytes ∷ []) _ (record { are = single_told lines bytes Html text (closed g).passed (closed g) (closed_told lines g h) (told_whole bytes text.bytes k.last); none = refl })
line_told lines bytes GoesOn text g h k may =
    record { are = subst (λ (ls : List (List ℕ)). AreTold (lines ++ bytes ∷ []) ls) (more_lines g text) (told_more lines (all_lines g) bytes text.bytes h.are (told_whole bytes text.bytes k.last)); empty = λ e. never (is_nothing g.kind) _ may e }
line_told lines bytes Closes text g h k may =
    let c = closed_told lines g h in none_open (lines ++ bytes ∷ []) _ (record { are = left_more lines (lines_told (closed g).parts) bytes c.are (out_fence bytes text k.closed.0 k.closed.1 k.last k.closed.2 k.closed.3); none = c.none })
line_told lines bytes (Underlines level) text g h k may =
    none_open (lines ++ bytes ∷ []) _ (record { are = left_more lines (lines_told (add_words (Heading level) g.apart g.lines g.parts)) bytes (words_are lines (Heading level) g h.are) (out_underline bytes text level k.last k.alone); none = refl })
line_told lines bytes (Tabulates columns) text g h k may =
    record { are = subst (λ (ls : List (List ℕ)). AreTold (lines ++ bytes ∷ []) ls) (tabulated_told (length g.lines - 1) text g) (told_more lines (all_lines g) bytes text.bytes h.are (told_whole bytes text.bytes k.last)); empty = λ e. never false _ refl e }
line_told lines bytes (HeadingDeed level) text g h k may =
    none_open (lines ++ bytes ∷ []) _ (record { are = single_told lines bytes (Heading level) (heading_line text) (closed g).passed (closed g) (closed_told lines g h) (told_heading bytes text k.last); none = refl })
line_told lines bytes RuleDeed text g h k may =
    none_open (lines ++ bytes ∷ []) _ (record { are = single_told lines bytes Rule text (closed g).passed (closed g) (closed_told lines g h) (told_whole bytes text.bytes k.last); none = refl })

-- ---- a step

-- where a leaf is open it is gathered
abbrev Together : State → Gathering → Type 0
Together state g = is_none_leaf state.leaf ≡ false → is_nothing g.kind ≡ false

record TellsStep (lines : List (List ℕ)) (state : State) (g : Gathering) : Type 0 where
  tells : Tells lines g
  together : Together state g

-- what a line does
abbrev lined : Deed → Remaining → Gathering → Gathering
lined deed text g = record (line_done deed text g) { fresh = false }

not_fresh : (lines : List (List ℕ)) (g : Gathering) → Tells lines g → Tells lines (record g { fresh = false })
not_fresh lines g h = record { are = h.are; empty = h.empty }

-- a line that isn't the next one of an open leaf
other_step : (lines : List (List ℕ)) (state : State) (done : Step) (bytes : List ℕ) (deed : Deed) (text : Remaining) (g : Gathering) (gone : ℕ) (opens : List Container) → Keeps bytes deed text → Tells lines g
    → ((x : Gathering) → MayCome deed x) → ((x : Gathering) → Together done.state (line_done deed text x))
    → TellsStep (lines ++ bytes ∷ []) done.state (told g (leaves gone ++ (map enter opens ++ line deed text ∷ [])))
unfolding told
other_step lines state done bytes deed text g gone opens k h may together =
    let left = told g (leaves gone) in
    let begun = told left (map enter opens) in
    let are : told g (leaves gone ++ (map enter opens ++ line deed text ∷ [])) ≡ lined deed text begun = told_then (leaves gone) (map enter opens ++ line deed text ∷ []) g ∙ told_then (map enter opens) (line deed text ∷ []) left in
    let tells = line_told lines bytes deed text begun (enters_told lines opens left (leaves_told lines gone g h)) k (may begun) in
    subst (λ (x : Gathering). TellsStep (lines ++ bytes ∷ []) done.state x) (sym are) (record { tells = not_fresh (lines ++ bytes ∷ []) (line_done deed text begun) tells; together = together begun })

none_left : (n : ℕ) → n - n ≡ 0
none_left n = omega arith

-- what happens in a line
abbrev events_at : ℕ → List Container → Deed → Remaining → List Event
events_at gone opens deed text = leaves gone ++ (map enter opens ++ line deed text ∷ [])

-- the next line of an open leaf
next_step : (lines : List (List ℕ)) (state : State) (done : Step) (bytes : List ℕ) (text : Remaining) (g : Gathering) → LeafBehind state done GoesOn → Keeps bytes GoesOn text → TellsStep lines state g
    → TellsStep (lines ++ bytes ∷ []) done.state (told g (events_at (length state.containers - done.line.kept) (drop done.line.kept done.state.containers) GoesOn text))
unfolding told line_done
next_step lines state done bytes text g b k h =
    let n = length state.containers in
    let cs = done.state.containers in
    let some = h.together b.2 in
    let are : events_at (n - done.line.kept) (drop done.line.kept cs) GoesOn text ≡ line GoesOn text ∷ [] =
    ap (λ (m : ℕ). events_at (n - m) (drop m cs) GoesOn text) b.0 ∙ ap (λ (m : ℕ). events_at m (drop n cs) GoesOn text) (none_left n) ∙ ap (λ (os : List Container). events_at 0 os GoesOn text) b.1 in
    subst (λ (es : List Event). TellsStep (lines ++ bytes ∷ []) done.state (told g es)) (sym are)
    (record { tells = not_fresh (lines ++ bytes ∷ []) (line_done GoesOn text g) (line_told lines bytes GoesOn text g h.tells k some); together = λ e. some })

step_by : (lines : List (List ℕ)) (state : State) (done : Step) (bytes : List ℕ) (deed : Deed) (text : Remaining) (g : Gathering) → LeafBehind state done deed → Keeps bytes deed text → TellsStep lines state g
    → TellsStep (lines ++ bytes ∷ []) done.state (told g (events_at (length state.containers - done.line.kept) (drop done.line.kept done.state.containers) deed text))
unfolding line_done
step_by lines state done bytes Blank text g b k h = other_step lines state done bytes Blank text g _ _ k h.tells (λ x. tt) (λ x e. never (is_none_leaf done.state.leaf) _ e b)
step_by lines state done bytes (Begins leaf) text g b k h = other_step lines state done bytes (Begins leaf) text g _ _ k h.tells (λ x. b.1) (λ x e. begun_kind leaf b.1)
step_by lines state done bytes HtmlDeed text g b k h = other_step lines state done bytes HtmlDeed text g _ _ k h.tells (λ x. tt) (λ x e. never (is_none_leaf done.state.leaf) _ e b)
step_by lines state done bytes GoesOn text g b k h = next_step lines state done bytes text g b k h
step_by lines state done bytes Closes text g b k h = other_step lines state done bytes Closes text g _ _ k h.tells (λ x. tt) (λ x e. never (is_none_leaf done.state.leaf) _ e b)
step_by lines state done bytes (Underlines level) text g b k h = other_step lines state done bytes (Underlines level) text g _ _ k h.tells (λ x. tt) (λ x e. never (is_none_leaf done.state.leaf) _ e b)
step_by lines state done bytes (Tabulates columns) text g b k h = other_step lines state done bytes (Tabulates columns) text g _ _ k h.tells (λ x. tt) (λ x e. refl)
step_by lines state done bytes (HeadingDeed level) text g b k h = other_step lines state done bytes (HeadingDeed level) text g _ _ k h.tells (λ x. tt) (λ x e. never (is_none_leaf done.state.leaf) _ e b)
step_by lines state done bytes RuleDeed text g b k h = other_step lines state done bytes RuleDeed text g _ _ k h.tells (λ x. tt) (λ x e. never (is_none_leaf done.state.leaf) _ e b)

-- ---- the law

whole_from : (before lines : List (List ℕ)) (state : State) (g : Gathering) → SignOf state.leaf → TellsStep before state g → AreTold (before ++ lines) (lines_told (ended g (events_from state lines)))
unfolding events_from
whole_from before [] state g sign h =
    let gone = leaves (length state.containers) in
    subst (λ (ls : List (List ℕ)). AreTold ls (lines_told (ended g gone))) (sym (append-nil before)) (closed_told before (told g gone) (leaves_told before (length state.containers) g h.tells)).are
whole_from before (text ∷ texts) state g sign h =
    let done = step state text in
    let kept = nothing_lost state text in
    let signed = step_sign state text sign in
    let events = step_events state done in
    let others = events_from done.state texts in
    let next = step_by before state done text done.line.deed done.line.text g (leaf_behind state text) (record { last = kept.text; alone = kept.alone; closed = signed.closed }) h in
    subst (λ (ls : List (List ℕ)). AreTold ls (lines_told (ended g (events ++ others)))) (append_assoc before (text ∷ []) texts)
    (subst (λ (x : Gathering). AreTold ((before ++ text ∷ []) ++ texts) (lines_told (closed x).parts)) (sym (told_then events others g)) (whole_from (before ++ text ∷ []) texts done.state (told g events) signed.leaf next))

-- the parts of a text tell all its lines
pub whole : PartsTellAllLines
whole text =
    subst (λ (ps : List PartContent). AreTold (text_lines text) (lines_told ps)) (sym (read_of text))
    (whole_from [] (text_lines text) at_first nothing_told tt (record { tells = record { are = tt; empty = λ e. refl }; together = λ e. never true _ e refl }))
