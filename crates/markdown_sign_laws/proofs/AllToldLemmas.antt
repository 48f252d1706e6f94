-- Whatever happens in a text, its lines are told behind their signs, or have no text.
use Rattle.std.proofs.Common.{◌≡◌, ◌⊎◌, inl, inr, ℕ, zero, suc, ◌+◌, ◌-◌, ◌≤◌, ◌==◌, Bool, true, false, ◌&&◌, List, [], ◌∷◌, ◌++◌, map, length, take, drop, Some, refl, sym, ap, subst, ◌∙◌, append_assoc, append-nil, arith, take-append-drop, if◌then◌else◌}
use Rattle.std.proofs.lemmas.Bool.Decides.{nat_tests}
use Rattle.std.proofs.lemmas.List.{map-append}
use Rattle.markdown_marks.specs.Bytes.{is_blank}
use Rattle.markdown_marks.specs.Remaining.{Remaining}
use Rattle.markdown_blocks.specs.Events.{Event, enter, line, leaves, step_events, events_from}
use Rattle.markdown_blocks.specs.Leaves.{is_paragraph}
use Rattle.markdown_blocks.specs.Lines.{text_lines}
use Rattle.markdown_blocks.specs.Steps.{State, Step, step}
use Rattle.markdown_blocks.specs.declared.containers.Container.{Container}
use Rattle.markdown_blocks.specs.declared.leaves.Deed.{Deed}
use Rattle.markdown_blocks.specs.declared.leaves.Deed.TheVariants.{Blank, Begins, Html as HtmlDeed, GoesOn, Closes, Underlines, Tabulates, Heading as HeadingDeed, Rule as RuleDeed}
use Rattle.markdown_blocks.specs.declared.leaves.Leaf.{Leaf}
use Rattle.markdown_blocks.specs.declared.leaves.Leaf.TheVariants.{Nothing as NothingLeaf, Bare, Paragraph as ParagraphLeaf, Indented as IndentedLeaf, Fenced as FencedLeaf, Html as HtmlLeaf, Table as TableLeaf}
use Rattle.markdown_blocks.proofs.DeedLemmas.{LeafBehind, is_begun_leaf, is_none_leaf, leaf_behind}
use Rattle.markdown_blocks.proofs.WithinLemmas.{at_first}
use Rattle.markdown_leaves.specs.Defining.{cut_lines}
use Rattle.markdown_leaves.specs.Gather.{Gathering, add_block, add_unless_empty, add_words, closed, closed_as, entered_in, filled_from, first_text, heading_line, kind_of, left_in, line_done, nothing_told}
use Rattle.markdown_leaves.specs.Parts.{PartContent, begins, ends, block}
use Rattle.markdown_leaves.specs.Told.{told}
use Rattle.markdown_leaves.specs.declared.parts.Kind.{Kind}
use Rattle.markdown_leaves.specs.declared.parts.Kind.TheVariants.{Nothing, Paragraph, Heading, Indented, Fenced, Html, Table, Rule, Definitions}
use Rattle.markdown_laws.proofs.FenceLemmas.{ended, read_of}
use Rattle.markdown_laws.proofs.HeldLemmas.{behind_lines, told_then}
use Rattle.markdown_sign_laws.specs.AllLines.{AllLinesAreTold, AreToldSo, IsToldSo, ToldLine, all_told, further, leaf_lines}
use Rattle.markdown_sign_laws.proofs.RunLemmas.{not_zero}
use Rattle.markdown_sign_laws.proofs.LineDoneLemmas.{step_says}
use Rattle.markdown_sign_laws.proofs.LineStartLemmas.{EndsFence, IsDone, OfParagraph, OpenFence}
use Rattle.markdown_sign_laws.proofs.ToldLineLemmas.{AllBlank, AllMayBe, all_may, first_may, further_may, may_both, may_same, none_blank, none_fence, none_more, none_underline, told_first, told_further, told_heading, told_more, told_single, without_last}

-- ---- the lines that are told

told_both : (xs ys : List PartContent) → all_told (xs ++ ys) ≡ all_told xs ++ all_told ys
told_both [] ys = refl
told_both (begins container apart ∷ xs) ys = told_both xs ys
told_both (ends ∷ xs) ys = told_both xs ys
told_both (block leaf ∷ xs) ys = ap (λ (ls : List ToldLine). leaf_lines leaf.kind leaf.lines ++ ls) (told_both xs ys) ∙ sym (append_assoc (leaf_lines leaf.kind leaf.lines) (all_told xs) (all_told ys))

-- one more leaf tells its lines
block_told : (kind : Kind) (apart : Bool) (lines : List Remaining) (parts : List PartContent) → all_told (add_block kind apart lines parts) ≡ all_told parts ++ leaf_lines kind lines
block_told kind apart lines parts =
    told_both parts (block (record { kind = kind; apart = apart; lines = lines }) ∷ []) ∙ ap (λ (ls : List ToldLine). all_told parts ++ ls) (append-nil (leaf_lines kind lines))

no_lines : (lines : List Remaining) → (length lines == 0) ≡ true → lines ≡ []
no_lines [] h = refl
no_lines (l ∷ lines) h = absurd (grind (arith, nat_tests))

unless_by : (t : Bool) (kind : Kind) (apart : Bool) (lines : List Remaining) (parts : List PartContent) → (length lines == 0) ≡ t
    → all_told (if t then parts else add_block kind apart lines parts) ≡ all_told parts ++ leaf_lines kind lines
unless_by true kind apart lines parts h = sym (append-nil (all_told parts)) ∙ ap (λ (ls : List Remaining). all_told parts ++ leaf_lines kind ls) (sym (no_lines lines h))
unless_by false kind apart lines parts h = block_told kind apart lines parts

unless_told : (kind : Kind) (apart : Bool) (lines : List Remaining) (parts : List PartContent) → all_told (add_unless_empty kind apart lines parts) ≡ all_told parts ++ leaf_lines kind lines
unless_told kind apart lines parts = unless_by (length lines == 0) kind apart lines parts refl

-- the definitions in front and the words behind them are all lines
words_told : (kind : Kind) (apart : Bool) (lines : List Remaining) (parts : List PartContent)
    → all_told (add_words kind apart lines parts) ≡ all_told parts ++ (leaf_lines Definitions (take (cut_lines lines) lines) ++ leaf_lines kind (drop (cut_lines lines) lines))
words_told kind apart lines parts =
    let cut = cut_lines lines in
    let front = add_unless_empty Definitions apart (take cut lines) parts in
    unless_told kind (apart && (cut == 0)) (drop cut lines) front
    ∙ ap (λ (ls : List ToldLine). ls ++ leaf_lines kind (drop cut lines)) (unless_told Definitions apart (take cut lines) parts)
    ∙ append_assoc (all_told parts) (leaf_lines Definitions (take cut lines)) (leaf_lines kind (drop cut lines))

-- ---- lines of one leaf as those of others

furthers_split : (n : ℕ) (kind : Kind) (lines : List Remaining) → AllMayBe (map further lines) (map further (take n lines) ++ leaf_lines kind (drop n lines))
furthers_split zero kind [] = tt
furthers_split zero kind (l ∷ lines) = (further_may kind l.bytes, may_same (map further lines))
furthers_split (suc n) kind [] = tt
furthers_split (suc n) kind (l ∷ lines) = ((λ line h. h), furthers_split n kind lines)

-- the first lines of a paragraph as one leaf, and the others as another
paragraph_split : (n : ℕ) (first second : Kind) (lines : List Remaining) → AllMayBe (leaf_lines Paragraph lines) (leaf_lines first (take n lines) ++ leaf_lines second (drop n lines))
paragraph_split zero first second [] = tt
paragraph_split zero first second (l ∷ lines) = (first_may second l.bytes, may_same (map further lines))
paragraph_split (suc n) first second [] = tt
paragraph_split (suc n) first second (l ∷ lines) = (first_may first l.bytes, furthers_split n second lines)

-- one more line of a leaf
one_further : (lines : List Remaining) (text : Remaining) → AllMayBe (map further lines ++ further text ∷ []) (map further (lines ++ text ∷ []))
one_further [] text = ((λ line h. h), tt)
one_further (l ∷ lines) text = ((λ line h. h), one_further lines text)

gone_may : (kind : Kind) (lines : List Remaining) (text : Remaining) → AllMayBe (leaf_lines kind lines ++ further text ∷ []) (leaf_lines kind (lines ++ text ∷ []))
gone_may kind [] text = (further_may kind text.bytes, tt)
gone_may kind (l ∷ lines) text = ((λ line h. h), one_further lines text)

furthers_and : (n : ℕ) (kind : Kind) (lines : List Remaining) (text : Remaining) → AllMayBe (map further lines ++ further text ∷ []) (map further (take n lines) ++ leaf_lines kind (drop n lines ++ text ∷ []))
furthers_and zero kind [] text = (further_may kind text.bytes, tt)
furthers_and zero kind (l ∷ lines) text = (further_may kind l.bytes, one_further lines text)
furthers_and (suc n) kind [] text = (further_may kind text.bytes, tt)
furthers_and (suc n) kind (l ∷ lines) text = ((λ line h. h), furthers_and n kind lines text)

-- the first lines of a paragraph, and the others and one more as another leaf
table_may : (n : ℕ) (kind : Kind) (lines : List Remaining) (text : Remaining) → AllMayBe (leaf_lines Paragraph lines ++ further text ∷ []) (leaf_lines Paragraph (take n lines) ++ leaf_lines kind (drop n lines ++ text ∷ []))
table_may zero kind [] text = (further_may kind text.bytes, tt)
table_may zero kind (l ∷ lines) text = (first_may kind l.bytes, one_further lines text)
table_may (suc n) kind [] text = (further_may kind text.bytes, tt)
table_may (suc n) kind (l ∷ lines) text = ((λ line h. h), furthers_and n kind lines text)

words_may : (kind : Kind) (apart : Bool) (lines : List Remaining) (parts : List PartContent) → AllMayBe (all_told parts ++ leaf_lines Paragraph lines) (all_told (add_words kind apart lines parts))
words_may kind apart lines parts =
    let cut = cut_lines lines in
    let behind = leaf_lines Definitions (take cut lines) ++ leaf_lines kind (drop cut lines) in
    subst (λ (ls : List ToldLine). AllMayBe (all_told parts ++ leaf_lines Paragraph lines) ls) (sym (words_told kind apart lines parts))
    (may_both (all_told parts) (all_told parts) (leaf_lines Paragraph lines) behind (may_same (all_told parts)) (paragraph_split cut Definitions kind lines))

-- ---- indented code

-- these lines are blank
abbrev AreBlank : List Remaining → Type 0
AreBlank [] = Unit {0}
AreBlank (l ∷ lines) = (is_blank l.bytes ≡ true) × AreBlank lines

filled_least : (count filled : ℕ) (lines : List Remaining) → filled ≤ count → filled ≤ filled_from count filled lines
unfolding filled_from
filled_least count filled [] h = omega arith
filled_least count filled (l ∷ lines) h = by_blank (is_blank l.bytes) (filled_least (count + 1) filled lines (omega (arith, h))) (filled_least (count + 1) (count + 1) lines (omega arith))
  where
    by_blank : (t : Bool) → filled ≤ filled_from (count + 1) filled lines → count + 1 ≤ filled_from (count + 1) (count + 1) lines → filled ≤ filled_from (count + 1) (if t then filled else count + 1) lines
    by_blank true f g = f
    by_blank false f g = omega (arith, g, h)

drop_one : (k n : ℕ) (l : Remaining) (lines : List Remaining) → k ≡ suc n → drop k (l ∷ lines) ≡ drop n lines
drop_one k n l lines e = ap (λ (m : ℕ). drop m (l ∷ lines)) e

-- a place after the first line, or this one
past : (k count : ℕ) → (k ≤ count) ⊎ (count + 1 ≤ k)
past zero count = inl (omega arith)
past (suc k) zero = inr (omega arith)
past (suc k) (suc count) = more (past k count)
  where
    more : (k ≤ count) ⊎ (count + 1 ≤ k) → (suc k ≤ suc count) ⊎ (suc count + 1 ≤ suc k)
    more (inl h) = inl (omega (arith, h))
    more (inr h) = inr (omega (arith, h))

blanks_at : (k count : ℕ) (l : Remaining) (lines : List Remaining) → is_blank l.bytes ≡ true → AreBlank (drop (k - (count + 1)) lines) → (k ≤ count) ⊎ (count + 1 ≤ k) → AreBlank (drop (k - count) (l ∷ lines))
blanks_at k count l lines b h (inl few) =
    let here : k - count ≡ 0 = omega (arith, few) in
    let next : k - (count + 1) ≡ 0 = omega (arith, few) in
    subst (λ (n : ℕ). AreBlank (drop n (l ∷ lines))) (sym here) (b, subst (λ (n : ℕ). AreBlank (drop n lines)) next h)
blanks_at k count l lines b h (inr more) = subst (λ (ls : List Remaining). AreBlank ls) (sym (drop_one (k - count) (k - (count + 1)) l lines (omega (arith, more)))) h

-- the lines behind the last that isn't blank are blank
filled_blank : (count filled : ℕ) (lines : List Remaining) → filled ≤ count → AreBlank (drop (filled_from count filled lines - count) lines)
unfolding filled_from
filled_blank count filled [] h = none (filled - count)
  where
    none : (n : ℕ) → AreBlank (drop n [])
    none zero = tt
    none (suc n) = tt
filled_blank count filled (l ∷ lines) h =
    by_blank (is_blank l.bytes) refl (filled_blank (count + 1) filled lines (omega (arith, h))) (filled_blank (count + 1) (count + 1) lines (omega arith))
  where
    by_blank : (t : Bool) → is_blank l.bytes ≡ t → AreBlank (drop (filled_from (count + 1) filled lines - (count + 1)) lines)
        → AreBlank (drop (filled_from (count + 1) (count + 1) lines - (count + 1)) lines)
        → AreBlank (drop (filled_from (count + 1) (if t then filled else count + 1) lines - count) (l ∷ lines))
    by_blank true b f g = blanks_at (filled_from (count + 1) filled lines) count l lines b f (past (filled_from (count + 1) filled lines) count)
    by_blank false b f g =
        subst (λ (ls : List Remaining). AreBlank ls) (sym (drop_one (filled_from (count + 1) (count + 1) lines - count) (filled_from (count + 1) (count + 1) lines - (count + 1)) l lines (omega (arith, filled_least (count + 1) (count + 1) lines (omega arith))))) g

blank_furthers : (lines : List Remaining) → AreBlank lines → AllBlank (map further lines)
blank_furthers [] h = tt
blank_furthers (l ∷ lines) h = (tt, h.0, blank_furthers lines h.1)

-- the lines of code behind some are blank
record CodeEnds (n : ℕ) (lines : List Remaining) : Type 0 where
  last : List ToldLine
  whole : leaf_lines Indented lines ≡ leaf_lines Indented (take n lines) ++ last
  blank : AllBlank last

code_ends : (n : ℕ) (lines : List Remaining) → AreBlank (drop n lines) → CodeEnds n lines
code_ends zero [] h = record { last = []; whole = refl; blank = tt }
code_ends zero (l ∷ lines) h = record { last = leaf_lines Indented (l ∷ lines); whole = refl; blank = (tt, h.0, blank_furthers lines h.1) }
code_ends (suc n) [] h = record { last = []; whole = refl; blank = tt }
code_ends (suc n) (l ∷ lines) h = record {
  last = map further (drop n lines);
  whole = ap (λ (ls : List ToldLine). record { first = Some Indented; text = l.bytes } ∷ ls) (ap (λ (ls : List Remaining). map further ls) (sym (take-append-drop n lines)) ∙ map-append further (take n lines) (drop n lines));
  blank = blank_furthers (drop n lines) h;
}

-- ---- a leaf ends

-- there is no leaf
abbrev is_nothing : Kind → Bool
is_nothing Nothing = true
is_nothing _ = false

-- all lines that are told so far, and those of the open leaf
abbrev all_lines : Gathering → List ToldLine
all_lines g = all_told g.parts ++ leaf_lines g.kind g.lines

-- these lines are told, and where there is no leaf no line is open
record Tells (lines : List (List ℕ)) (g : Gathering) : Type 0 where
  are : AreToldSo lines (all_lines g)
  empty : is_nothing g.kind ≡ true → g.lines ≡ []

-- these lines are told, and none is open
record TellsAll (lines : List (List ℕ)) (g : Gathering) : Type 0 where
  are : AreToldSo lines (all_told g.parts)
  none : g.lines ≡ []

none_open : (lines : List (List ℕ)) (g : Gathering) → TellsAll lines g → Tells lines g
none_open lines g h = record {
  are = subst (λ (ls : List ToldLine). AreToldSo lines ls) (sym (append-nil (all_told g.parts)) ∙ ap (λ (ls : List Remaining). all_told g.parts ++ leaf_lines g.kind ls) (sym h.none)) h.are;
  empty = λ e. h.none;
}

indented_told : (lines : List (List ℕ)) (g : Gathering) (count : ℕ) → g.kind ≡ Indented → AreBlank (drop count g.lines) → AreToldSo lines (all_lines g) → AreToldSo lines (all_told (add_block Indented g.apart (take count g.lines) g.parts))
indented_told lines g count e b a =
    let c = code_ends count g.lines b in
    let split : all_lines g ≡ all_told (add_block Indented g.apart (take count g.lines) g.parts) ++ c.last =
    ap (λ (kind : Kind). all_told g.parts ++ leaf_lines kind g.lines) e ∙ ap (λ (ls : List ToldLine). all_told g.parts ++ ls) c.whole
    ∙ sym (append_assoc (all_told g.parts) (leaf_lines Indented (take count g.lines)) c.last)
    ∙ ap (λ (ls : List ToldLine). ls ++ c.last) (sym (block_told Indented g.apart (take count g.lines) g.parts)) in
    without_last lines (all_told (add_block Indented g.apart (take count g.lines) g.parts)) c.last (subst (λ (ls : List ToldLine). AreToldSo lines ls) split a) c.blank

as_it_is : (lines : List (List ℕ)) (g : Gathering) → AreToldSo lines (all_lines g) → AreToldSo lines (all_told (add_block g.kind g.apart g.lines g.parts))
as_it_is lines g a = subst (λ (ls : List ToldLine). AreToldSo lines ls) (sym (block_told g.kind g.apart g.lines g.parts)) a

-- a paragraph is open, or no line is
abbrev UnderParagraph : Gathering → Type 0
UnderParagraph g = (g.kind ≡ Paragraph) ⊎ (g.lines ≡ [])

paragraph_lines : (g : Gathering) → UnderParagraph g → leaf_lines g.kind g.lines ≡ leaf_lines Paragraph g.lines
paragraph_lines g (inl e) = ap (λ (kind : Kind). leaf_lines kind g.lines) e
paragraph_lines g (inr e) = ap (λ (ls : List Remaining). leaf_lines g.kind ls) e ∙ ap (λ (ls : List Remaining). leaf_lines Paragraph ls) (sym e)

words_are : (lines : List (List ℕ)) (kind : Kind) (g : Gathering) → UnderParagraph g → AreToldSo lines (all_lines g) → AreToldSo lines (all_told (add_words kind g.apart g.lines g.parts))
words_are lines kind g under a =
    all_may lines (all_told g.parts ++ leaf_lines Paragraph g.lines) (all_told (add_words kind g.apart g.lines g.parts)) (words_may kind g.apart g.lines g.parts)
    (subst (λ (ls : List ToldLine). AreToldSo lines (all_told g.parts ++ ls)) (paragraph_lines g under) a)

no_more : (n : ℕ) → n - 0 ≡ n
no_more n = omega arith

closed_told_as : (lines : List (List ℕ)) (kind : Kind) (g : Gathering) → g.kind ≡ kind → Tells lines g → TellsAll lines (closed_as kind g)
closed_told_as lines Nothing g e h =
    let none = h.empty (ap is_nothing e) in
    record { are = subst (λ (ls : List ToldLine). AreToldSo lines ls) (ap (λ (ls : List Remaining). all_told g.parts ++ leaf_lines g.kind ls) none ∙ append-nil (all_told g.parts)) h.are; none = none }
closed_told_as lines Paragraph g e h = record { are = words_are lines Paragraph g (inl e) h.are; none = refl }
closed_told_as lines (Heading level) g e h = record { are = as_it_is lines g h.are; none = refl }
closed_told_as lines Indented g e h =
    let count = filled_from 0 0 g.lines in
    record { are = indented_told lines g count e (subst (λ (n : ℕ). AreBlank (drop n g.lines)) (no_more count) (filled_blank 0 0 g.lines (omega arith))) h.are; none = refl }
closed_told_as lines Fenced g e h = record { are = as_it_is lines g h.are; none = refl }
closed_told_as lines Html g e h = record { are = as_it_is lines g h.are; none = refl }
closed_told_as lines (Table columns) g e h = record { are = as_it_is lines g h.are; none = refl }
closed_told_as lines Rule g e h = record { are = as_it_is lines g h.are; none = refl }
closed_told_as lines Definitions g e h = record { are = as_it_is lines g h.are; none = refl }

-- a leaf that ends is told
closed_told : (lines : List (List ℕ)) (g : Gathering) → Tells lines g → TellsAll lines (closed g)
unfolding closed
closed_told lines g h = closed_told_as lines g.kind g refl h

-- ---- containers

bare_part : (lines : List (List ℕ)) (parts : List PartContent) (part : PartContent) → all_told (part ∷ []) ≡ [] → AreToldSo lines (all_told parts) → AreToldSo lines (all_told (parts ++ part ∷ []))
bare_part lines parts part e a =
    subst (λ (ls : List ToldLine). AreToldSo lines ls) (sym (told_both parts (part ∷ []) ∙ ap (λ (ls : List ToldLine). all_told parts ++ ls) e ∙ append-nil (all_told parts))) a

-- what is told of these lines, with a paragraph or no line open
record TellsUnder (lines : List (List ℕ)) (g before : Gathering) : Type 0 where
  tells : Tells lines g
  under : UnderParagraph before → UnderParagraph g

same_under : (lines : List (List ℕ)) (g : Gathering) → Tells lines g → TellsUnder lines g g
same_under lines g h = record { tells = h; under = λ u. u }

leaves_told : (lines : List (List ℕ)) (k : ℕ) (g : Gathering) → Tells lines g → TellsUnder lines (told g (leaves k)) g
unfolding told
leaves_told lines zero g h = same_under lines g h
leaves_told lines (suc k) g h =
    let c = closed_told lines g h in
    let next = left_in (closed g) in
    let more = leaves_told lines k next (none_open lines next (record { are = bare_part lines (closed g).parts ends refl c.are; none = c.none })) in
    record { tells = more.tells; under = λ u. more.under (inr c.none) }

enters_told : (lines : List (List ℕ)) (opens : List Container) (g : Gathering) → Tells lines g → TellsUnder lines (told g (map enter opens)) g
unfolding told
enters_told lines [] g h = same_under lines g h
enters_told lines (container ∷ opens) g h =
    let c = closed_told lines g h in
    let next = entered_in container (closed g) in
    let more = enters_told lines opens next (none_open lines next (record { are = bare_part lines (closed g).parts (begins container (closed g).passed) refl c.are; none = c.none })) in
    record { tells = more.tells; under = λ u. more.under (inr c.none) }

-- ---- a line

more_lines : (g : Gathering) (text : Remaining) → all_lines g ++ further text ∷ [] ≡ all_told g.parts ++ (leaf_lines g.kind g.lines ++ further text ∷ [])
more_lines g text = append_assoc (all_told g.parts) (leaf_lines g.kind g.lines) (further text ∷ [])

-- a leaf of one line
single_told : (lines : List (List ℕ)) (bytes : List ℕ) (kind : Kind) (text : Remaining) (apart : Bool) (g : Gathering) → TellsAll lines g → IsToldSo bytes (record { first = Some kind; text = text.bytes })
    → AreToldSo (lines ++ bytes ∷ []) (all_told (add_block kind apart (text ∷ []) g.parts))
single_told lines bytes kind text apart g h one =
    subst (λ (ls : List ToldLine). AreToldSo (lines ++ bytes ∷ []) ls) (sym (block_told kind apart (text ∷ []) g.parts)) (told_more lines (all_told g.parts) bytes (record { first = Some kind; text = text.bytes }) h.are one)

begun_kind : (leaf : Leaf) → is_begun_leaf leaf ≡ true → is_nothing (kind_of leaf) ≡ false
begun_kind NothingLeaf h = let other : false ≡ true = h in absurd (cc)
begun_kind Bare h = let other : false ≡ true = h in absurd (cc)
begun_kind ParagraphLeaf h = refl
begun_kind IndentedLeaf h = refl
begun_kind (FencedLeaf sign length indent) h = refl
begun_kind (HtmlLeaf ending) h = refl
begun_kind TableLeaf h = let other : false ≡ true = h in absurd (cc)

-- a deed with which a line may come where these leaves are open
abbrev MayCome : Deed → Gathering → Type 0
MayCome GoesOn g = is_nothing g.kind ≡ false
MayCome (Begins leaf) g = is_begun_leaf leaf ≡ true
MayCome (Underlines level) g = UnderParagraph g
MayCome (Tabulates columns) g = UnderParagraph g
MayCome _ g = Unit {0}

never : (t : Bool) (A : Type 0) → t ≡ false → t ≡ true → A
never true A e h = let other : true ≡ false = e in absurd (cc)
never false A e h = let other : false ≡ true = h in absurd (cc)

gone_told : (lines : List (List ℕ)) (bytes : List ℕ) (text : Remaining) (g : Gathering) → AreToldSo lines (all_lines g) → IsToldSo bytes (further text) → AreToldSo (lines ++ bytes ∷ []) (all_told g.parts ++ leaf_lines g.kind (g.lines ++ text ∷ []))
gone_told lines bytes text g a one =
    let parts = all_told g.parts in
    let now = leaf_lines g.kind g.lines ++ further text ∷ [] in
    let next = leaf_lines g.kind (g.lines ++ text ∷ []) in
    all_may (lines ++ bytes ∷ []) (parts ++ now) (parts ++ next) (may_both parts parts now next (may_same parts) (gone_may g.kind g.lines text))
    (subst (λ (ls : List ToldLine). AreToldSo (lines ++ bytes ∷ []) ls) (more_lines g text) (told_more lines (all_lines g) bytes (further text) a one))

tabulated_told : (lines : List (List ℕ)) (bytes : List ℕ) (at columns : ℕ) (text : Remaining) (g : Gathering) → UnderParagraph g → AreToldSo lines (all_lines g) → IsToldSo bytes (further text)
    → AreToldSo (lines ++ bytes ∷ []) (all_told (add_words Paragraph g.apart (take at g.lines) g.parts) ++ leaf_lines (Table columns) (drop at g.lines ++ text ∷ []))
tabulated_told lines bytes at columns text g under a one =
    let all = lines ++ bytes ∷ [] in
    let parts = all_told g.parts in
    let now = leaf_lines Paragraph g.lines ++ further text ∷ [] in
    let front = leaf_lines Paragraph (take at g.lines) in
    let table = leaf_lines (Table columns) (drop at g.lines ++ text ∷ []) in
    let words = all_told (add_words Paragraph g.apart (take at g.lines) g.parts) in
    let here : all_lines g ++ further text ∷ [] ≡ parts ++ now = more_lines g text ∙ ap (λ (ls : List ToldLine). parts ++ (ls ++ further text ∷ [])) (paragraph_lines g under) in
    let first = subst (λ (ls : List ToldLine). AreToldSo all ls) here (told_more lines (all_lines g) bytes (further text) a one) in
    let second = all_may all (parts ++ now) (parts ++ (front ++ table)) (may_both parts parts now (front ++ table) (may_same parts) (table_may at (Table columns) g.lines text)) first in
    all_may all ((parts ++ front) ++ table) (words ++ table) (may_both (parts ++ front) words table table (words_may Paragraph g.apart (take at g.lines) g.parts) (may_same table))
    (subst (λ (ls : List ToldLine). AreToldSo all ls) (sym (append_assoc parts front table)) second)

line_told : (lines : List (List ℕ)) (bytes : List ℕ) (deed : Deed) (text : Remaining) (g : Gathering) → Tells lines g → IsDone deed bytes text → EndsFence deed text → MayCome deed g
    → Tells (lines ++ bytes ∷ []) (line_done deed text g)
unfolding line_done
line_told lines bytes Blank text g h k closing may =
    let c = closed_told lines g h in none_open (lines ++ bytes ∷ []) _ (record { are = none_more lines (all_told (closed g).parts) bytes c.are (none_blank bytes text.bytes k.0 k.1); none = c.none })
line_told lines bytes (Begins begun) text g h k closing may =
    let c = closed_told lines g h in
    let one : ToldLine = record { first = Some (kind_of begun); text = (first_text begun text).bytes } in
    record { are = told_more lines (all_told (closed g).parts) bytes one c.are (told_first begun bytes text k); empty = λ e. never (is_nothing (kind_of begun)) _ (begun_kind begun may) e }
line_told lines bytes HtmlDeed text g h k closing may =
    none_open (lines ++ bytes ∷ []) _ (record { are = single_told lines bytes Html text (closed g).passed (closed g) (closed_told lines g h) (told_single Html bytes text k); none = refl })
line_told lines bytes GoesOn text g h k closing may =
    record { are = gone_told lines bytes text g h.are (told_further bytes text k); empty = λ e. never (is_nothing g.kind) _ may e }
line_told lines bytes Closes text g h k closing may =
    let c = closed_told lines g h in none_open (lines ++ bytes ∷ []) _ (record { are = none_more lines (all_told (closed g).parts) bytes c.are (none_fence bytes text closing.0 closing.1 k closing.2 closing.3); none = c.none })
line_told lines bytes (Underlines level) text g h k closing may =
    none_open (lines ++ bytes ∷ []) _ (record { are = none_more lines (all_told (add_words (Heading level) g.apart g.lines g.parts)) bytes (words_are lines (Heading level) g may h.are) (none_underline bytes text.bytes level k.0 k.1); none = refl })
line_told lines bytes (Tabulates columns) text g h k closing may =
    record { are = tabulated_told lines bytes (length g.lines - 1) columns text g may h.are (told_further bytes text k); empty = λ e. never false _ refl e }
line_told lines bytes (HeadingDeed level) text g h k closing may =
    none_open (lines ++ bytes ∷ []) _ (record { are = single_told lines bytes (Heading level) (heading_line text) (closed g).passed (closed g) (closed_told lines g h) (told_heading level bytes text k); none = refl })
line_told lines bytes RuleDeed text g h k closing may =
    none_open (lines ++ bytes ∷ []) _ (record { are = single_told lines bytes Rule text (closed g).passed (closed g) (closed_told lines g h) (told_single Rule bytes text k); none = refl })

-- ---- a step

-- where a leaf is open it is gathered, and a paragraph as such, with its lines
record Together (leaf : Leaf) (g : Gathering) : Type 0 where
  some : is_none_leaf leaf ≡ false → is_nothing g.kind ≡ false
  words : is_paragraph leaf ≡ true → (g.kind ≡ Paragraph) × ((length g.lines == 0) ≡ false)

some_lines : (lines : List Remaining) (text : Remaining) → (length (lines ++ text ∷ []) == 0) ≡ false
some_lines [] text = not_zero 0
some_lines (l ∷ lines) text = not_zero (length (lines ++ text ∷ []))

no_paragraph : (leaf : Leaf) → is_none_leaf leaf ≡ true → is_paragraph leaf ≡ true → ⊥
no_paragraph NothingLeaf e k = let other : false ≡ true = k in absurd (cc)
no_paragraph Bare e k = let other : false ≡ true = k in absurd (cc)
no_paragraph ParagraphLeaf e k = let other : false ≡ true = e in absurd (cc)
no_paragraph IndentedLeaf e k = let other : false ≡ true = e in absurd (cc)
no_paragraph (FencedLeaf sign length indent) e k = let other : false ≡ true = e in absurd (cc)
no_paragraph (HtmlLeaf ending) e k = let other : false ≡ true = e in absurd (cc)
no_paragraph TableLeaf e k = let other : false ≡ true = e in absurd (cc)

together_none : (leaf : Leaf) (g : Gathering) → is_none_leaf leaf ≡ true → Together leaf g
together_none leaf g e = record { some = λ k. never (is_none_leaf leaf) _ k e; words = λ k. absurd (no_paragraph leaf e k) }

paragraph_kind : (leaf : Leaf) → is_paragraph leaf ≡ true → kind_of leaf ≡ Paragraph
paragraph_kind ParagraphLeaf e = refl
paragraph_kind NothingLeaf e = let other : false ≡ true = e in absurd (cc)
paragraph_kind Bare e = let other : false ≡ true = e in absurd (cc)
paragraph_kind IndentedLeaf e = let other : false ≡ true = e in absurd (cc)
paragraph_kind (FencedLeaf sign length indent) e = let other : false ≡ true = e in absurd (cc)
paragraph_kind (HtmlLeaf ending) e = let other : false ≡ true = e in absurd (cc)
paragraph_kind TableLeaf e = let other : false ≡ true = e in absurd (cc)

together_begun : (leaf begun : Leaf) (g : Gathering) → leaf ≡ begun → is_begun_leaf begun ≡ true → g.kind ≡ kind_of begun → (length g.lines == 0) ≡ false → Together leaf g
together_begun leaf begun g e b k some =
    record { some = λ f. ap is_nothing k ∙ begun_kind begun b; words = λ f. (k ∙ paragraph_kind begun (sym (ap is_paragraph e) ∙ f), some) }

together_table : (leaf : Leaf) (g : Gathering) (columns : ℕ) → leaf ≡ TableLeaf → g.kind ≡ Table columns → Together leaf g
together_table leaf g columns e k = record { some = λ f. ap is_nothing k; words = λ f. let other : false ≡ true = sym (ap is_paragraph e) ∙ f in absurd (cc) }

together_gone : (leaf before : Leaf) (g : Gathering) → (leaf ≡ before) ⊎ (leaf ≡ NothingLeaf) → is_nothing g.kind ≡ false → (length g.lines == 0) ≡ false → (is_paragraph before ≡ true → g.kind ≡ Paragraph) → Together leaf g
together_gone leaf before g (inl e) some long words = record { some = λ f. some; words = λ f. (words (sym (ap is_paragraph e) ∙ f), long) }
together_gone leaf before g (inr e) some long words = record { some = λ f. some; words = λ f. let other : false ≡ true = sym (ap is_paragraph e) ∙ f in absurd (cc) }

record TellsStep (lines : List (List ℕ)) (leaf : Leaf) (g : Gathering) : Type 0 where
  tells : Tells lines g
  together : Together leaf g

-- what a line does
abbrev lined : Deed → Remaining → Gathering → Gathering
lined deed text g = record (line_done deed text g) { fresh = false }

not_fresh : (lines : List (List ℕ)) (leaf : Leaf) (g : Gathering) → Tells lines g → Together leaf g → TellsStep lines leaf (record g { fresh = false })
not_fresh lines leaf g h t = record { tells = record { are = h.are; empty = h.empty }; together = record { some = t.some; words = t.words } }

-- a line that isn't the next one of an open leaf
other_step : (lines : List (List ℕ)) (leaf : Leaf) (bytes : List ℕ) (deed : Deed) (text : Remaining) (g : Gathering) (gone : ℕ) (opens : List Container) → IsDone deed bytes text → EndsFence deed text → Tells lines g
    → ((x : Gathering) → (UnderParagraph g → UnderParagraph x) → MayCome deed x) → ((x : Gathering) → Together leaf (line_done deed text x))
    → TellsStep (lines ++ bytes ∷ []) leaf (told g (leaves gone ++ (map enter opens ++ line deed text ∷ [])))
unfolding told
other_step lines leaf bytes deed text g gone opens k closing h may together =
    let left = told g (leaves gone) in
    let begun = told left (map enter opens) in
    let are : told g (leaves gone ++ (map enter opens ++ line deed text ∷ [])) ≡ lined deed text begun = told_then (leaves gone) (map enter opens ++ line deed text ∷ []) g ∙ told_then (map enter opens) (line deed text ∷ []) left in
    let a = leaves_told lines gone g h in
    let b = enters_told lines opens left a.tells in
    let tells = line_told lines bytes deed text begun b.tells k closing (may begun (λ u. b.under (a.under u))) in
    subst (λ (x : Gathering). TellsStep (lines ++ bytes ∷ []) leaf x) (sym are) (not_fresh (lines ++ bytes ∷ []) leaf (line_done deed text begun) tells (together begun))

none_left : (n : ℕ) → n - n ≡ 0
none_left n = omega arith

-- what happens in a line
abbrev events_at : ℕ → List Container → Deed → Remaining → List Event
events_at gone opens deed text = leaves gone ++ (map enter opens ++ line deed text ∷ [])

-- the next line of an open leaf
next_step : (lines : List (List ℕ)) (state : State) (done : Step) (bytes : List ℕ) (text : Remaining) (g : Gathering) → LeafBehind state done GoesOn → IsDone GoesOn bytes text → TellsStep lines state.leaf g
    → TellsStep (lines ++ bytes ∷ []) done.state.leaf (told g (events_at (length state.containers - done.line.kept) (drop done.line.kept done.state.containers) GoesOn text))
unfolding told line_done
next_step lines state done bytes text g b k h =
    let n = length state.containers in
    let cs = done.state.containers in
    let some = h.together.some b.2 in
    let are : events_at (n - done.line.kept) (drop done.line.kept cs) GoesOn text ≡ line GoesOn text ∷ [] =
    ap (λ (m : ℕ). events_at (n - m) (drop m cs) GoesOn text) b.0 ∙ ap (λ (m : ℕ). events_at m (drop n cs) GoesOn text) (none_left n) ∙ ap (λ (os : List Container). events_at 0 os GoesOn text) b.1 in
    subst (λ (es : List Event). TellsStep (lines ++ bytes ∷ []) done.state.leaf (told g es)) (sym are)
    (not_fresh (lines ++ bytes ∷ []) done.state.leaf (line_done GoesOn text g) (line_told lines bytes GoesOn text g h.tells k tt some) (together_gone done.state.leaf state.leaf (line_done GoesOn text g) b.3 some (some_lines g.lines text) (λ e. (h.together.words e).0)))

step_by : (lines : List (List ℕ)) (state : State) (done : Step) (bytes : List ℕ) (deed : Deed) (text : Remaining) (g : Gathering) → LeafBehind state done deed → IsDone deed bytes text → EndsFence deed text → OfParagraph state.leaf deed
    → TellsStep lines state.leaf g
    → TellsStep (lines ++ bytes ∷ []) done.state.leaf (told g (events_at (length state.containers - done.line.kept) (drop done.line.kept done.state.containers) deed text))
unfolding line_done
step_by lines state done bytes Blank text g b k closing under h = other_step lines done.state.leaf bytes Blank text g _ _ k closing h.tells (λ x f. tt) (λ x. together_none done.state.leaf _ b)
step_by lines state done bytes (Begins leaf) text g b k closing under h =
    other_step lines done.state.leaf bytes (Begins leaf) text g _ _ k closing h.tells (λ x f. b.1) (λ x. together_begun done.state.leaf leaf (line_done (Begins leaf) text x) b.0 b.1 refl (not_zero 0))
step_by lines state done bytes HtmlDeed text g b k closing under h = other_step lines done.state.leaf bytes HtmlDeed text g _ _ k closing h.tells (λ x f. tt) (λ x. together_none done.state.leaf _ b)
step_by lines state done bytes GoesOn text g b k closing under h = next_step lines state done bytes text g b k h
step_by lines state done bytes Closes text g b k closing under h = other_step lines done.state.leaf bytes Closes text g _ _ k closing h.tells (λ x f. tt) (λ x. together_none done.state.leaf _ b)
step_by lines state done bytes (Underlines level) text g b k closing under h =
    other_step lines done.state.leaf bytes (Underlines level) text g _ _ k closing h.tells (λ x f. f (inl (h.together.words under).0)) (λ x. together_none done.state.leaf _ b)
step_by lines state done bytes (Tabulates columns) text g b k closing under h =
    other_step lines done.state.leaf bytes (Tabulates columns) text g _ _ k closing h.tells (λ x f. f (inl (h.together.words under).0)) (λ x. together_table done.state.leaf (line_done (Tabulates columns) text x) columns b refl)
step_by lines state done bytes (HeadingDeed level) text g b k closing under h = other_step lines done.state.leaf bytes (HeadingDeed level) text g _ _ k closing h.tells (λ x f. tt) (λ x. together_none done.state.leaf _ b)
step_by lines state done bytes RuleDeed text g b k closing under h = other_step lines done.state.leaf bytes RuleDeed text g _ _ k closing h.tells (λ x f. tt) (λ x. together_none done.state.leaf _ b)

-- ---- the law

all_from : (before lines : List (List ℕ)) (state : State) (g : Gathering) → OpenFence state.leaf → TellsStep before state.leaf g → AreToldSo (before ++ lines) (all_told (ended g (events_from state lines)))
unfolding events_from
all_from before [] state g fenced h =
    let gone = leaves (length state.containers) in
    subst (λ (ls : List (List ℕ)). AreToldSo ls (all_told (ended g gone))) (sym (append-nil before)) (closed_told before (told g gone) (leaves_told before (length state.containers) g h.tells).tells).are
all_from before (text ∷ texts) state g fenced h =
    let done = step state text in
    let says = step_says state text fenced in
    let events = step_events state done in
    let others = events_from done.state texts in
    let next = step_by before state done text done.line.deed done.line.text g (leaf_behind state text) says.says.front says.says.ends says.says.under h in
    subst (λ (ls : List (List ℕ)). AreToldSo ls (all_told (ended g (events ++ others)))) (append_assoc before (text ∷ []) texts)
    (subst (λ (x : Gathering). AreToldSo ((before ++ text ∷ []) ++ texts) (all_told (closed x).parts)) (sym (told_then events others g)) (all_from (before ++ text ∷ []) texts done.state (told g events) says.fenced next))

-- What is gathered of some lines where a paragraph is open behind them: its leaf, and so many containers that end.
pub record GatheredFrom (state : State) (g : Gathering) (lines : List (List ℕ)) : Type 0 where
  pub last : Gathering
  pub count : ℕ
  pub parts : ended g (events_from state lines) ≡ (closed (told last (leaves count))).parts
  pub words : is_paragraph (behind_lines state lines).leaf ≡ true → (last.kind ≡ Paragraph) × ((length last.lines == 0) ≡ false)

gathered_from : (before lines : List (List ℕ)) (state : State) (g : Gathering) → OpenFence state.leaf → TellsStep before state.leaf g → GatheredFrom state g lines
unfolding events_from
gathered_from before [] state g fenced h = record { last = g; count = length state.containers; parts = refl; words = h.together.words }
gathered_from before (text ∷ texts) state g fenced h =
    let done = step state text in
    let says = step_says state text fenced in
    let events = step_events state done in
    let others = events_from done.state texts in
    let next = step_by before state done text done.line.deed done.line.text g (leaf_behind state text) says.says.front says.says.ends says.says.under h in
    let more = gathered_from (before ++ text ∷ []) texts done.state (told g events) says.fenced next in
    record { last = more.last; count = more.count; parts = ap (λ (x : Gathering). (closed x).parts) (told_then events others g) ∙ more.parts; words = more.words }

first_step : TellsStep [] NothingLeaf nothing_told
first_step = record { tells = record { are = tt; empty = λ e. refl }; together = together_none NothingLeaf nothing_told refl }

abbrev pub Gathered : List (List ℕ) → Type 0
Gathered lines = GatheredFrom at_first nothing_told lines

pub gathered : (lines : List (List ℕ)) → Gathered lines
gathered lines = gathered_from [] lines at_first nothing_told tt first_step

-- the parts of a text tell all its lines
pub all_lines_told : AllLinesAreTold
all_lines_told text = subst (λ (ps : List PartContent). AreToldSo (text_lines text) (all_told ps)) (sym (read_of text)) (all_from [] (text_lines text) at_first nothing_told tt first_step)
