-- What a text is told as doesn't depend on the columns that its lines stand at.
use Rattle.std.proofs.Common.{◌≡◌, ℕ, ◌+◌, ◌-◌, Bool, true, false, ◌&&◌, ◌==◌, nat_lt, List, [], ◌∷◌, ◌++◌, map, length, take, drop, refl, sym, ap, ◌∙◌, if◌then◌else◌}
use Rattle.std.proofs.lemmas.List.{map-append, length-map, take-map, drop-map}
use Rattle.markdown_marks.specs.Bytes.{is_blank}
use Rattle.markdown_marks.specs.Remaining.{Remaining, whole}
use Rattle.markdown_blocks.specs.Events.{Event, leave, enter, line}
use Rattle.markdown_blocks.specs.declared.leaves.Deed.{Deed}
use Rattle.markdown_blocks.specs.declared.leaves.Deed.TheVariants.{Blank, Begins, Html as HtmlDeed, GoesOn, Closes, Underlines, Tabulates, Heading as HeadingDeed, Rule as RuleDeed}
use Rattle.markdown_blocks.specs.declared.leaves.Leaf.{Leaf}
use Rattle.markdown_blocks.specs.declared.leaves.Leaf.TheVariants.{Nothing as NothingLeaf, Bare, Paragraph as ParagraphLeaf, Indented as IndentedLeaf, Fenced as FencedLeaf, Html as HtmlLeaf, Table as TableLeaf}
use Rattle.markdown_blocks.proofs.AlikeLemmas.{Alike}
use Rattle.markdown_leaves.specs.Defining.{add_line, joined, after_definitions, begins_with_bracket, lines_in, kept_lines, cut_lines}
use Rattle.markdown_leaves.specs.Gather.{Gathering, add_block, add_unless_empty, add_words, words_from, words_closed, filled_from, indented_to, closed_as, closed_as_it_is, closed, begun_in, begun, blank_in, gone_on, tabulated_at, entered_in, left_in, kind_of, first_text, line_done}
use Rattle.markdown_leaves.specs.Parts.{BlockContent, PartContent, begins, ends, block}
use Rattle.markdown_leaves.specs.Told.{happened, told}
use Rattle.markdown_leaves.specs.declared.parts.Kind.{Kind}
use Rattle.markdown_leaves.specs.declared.parts.Kind.TheVariants.{Nothing, Paragraph, Heading, Indented, Fenced, Html, Table, Rule, Definitions}
use Rattle.markdown_laws.specs.Fences.{text_of}
use Rattle.markdown_laws.specs.Quotes.{spelled}

-- a rest at the first column
abbrev pub flat : Remaining → Remaining
flat rest = record { column = 0; pending = rest.pending; bytes = rest.bytes }

-- rests that are alike are the same there
pub flat_alike : (a b : Remaining) → Alike a b → flat a ≡ flat b
flat_alike a b h =
    ap (λ (n : ℕ). record { column = 0; pending = n; bytes = a.bytes }) (h.first ∙ sym h.second) ∙ ap (λ (bs : List ℕ). record { column = 0; pending = b.pending; bytes = bs }) h.bytes

-- an event with the text of its line there
abbrev pub flat_event : Event → Event
flat_event leave = leave
flat_event (enter container) = enter container
flat_event (line deed text) = line deed (flat text)

-- a part with its lines there
abbrev pub flat_part : PartContent → PartContent
flat_part (begins container apart) = begins container apart
flat_part ends = ends
flat_part (block leaf) = block (record leaf { lines = map flat leaf.lines })

-- what was gathered, with all lines there
abbrev pub flat_told : Gathering → Gathering
flat_told g = record g { parts = map flat_part g.parts; lines = map flat g.lines }

-- ---- a leaf ends

block_flat : (kind : Kind) (apart : Bool) (lines : List Remaining) (parts : List PartContent) → add_block kind apart (map flat lines) (map flat_part parts) ≡ map flat_part (add_block kind apart lines parts)
block_flat kind apart lines parts = sym (map-append flat_part parts (block (record { kind = kind; apart = apart; lines = lines }) ∷ []))

one_flat : (part : PartContent) (parts : List PartContent) → map flat_part parts ++ flat_part part ∷ [] ≡ map flat_part (parts ++ part ∷ [])
one_flat part parts = sym (map-append flat_part parts (part ∷ []))

chosen : (t : Bool) (xs ys : List PartContent) → (if t then map flat_part xs else map flat_part ys) ≡ map flat_part (if t then xs else ys)
chosen true xs ys = refl
chosen false xs ys = refl

unless_flat : (kind : Kind) (apart : Bool) (lines : List Remaining) (parts : List PartContent)
    → add_unless_empty kind apart (map flat lines) (map flat_part parts) ≡ map flat_part (add_unless_empty kind apart lines parts)
unless_flat kind apart lines parts =
    ap (λ (n : ℕ). if n == 0 then map flat_part parts else add_block kind apart (map flat lines) (map flat_part parts)) (length-map lines flat)
    ∙ ap (λ (ps : List PartContent). if length lines == 0 then map flat_part parts else ps) (block_flat kind apart lines parts)
    ∙ chosen (length lines == 0) parts (add_block kind apart lines parts)

joined_flat : (text : List ℕ) (lines : List Remaining) → joined text (map flat lines) ≡ joined text lines
unfolding joined
joined_flat text [] = refl
joined_flat text (l ∷ lines) = joined_flat (add_line text l.bytes) lines

bracket_flat : (lines : List Remaining) → begins_with_bracket (map flat lines) ≡ begins_with_bracket lines
bracket_flat [] = refl
bracket_flat (l ∷ lines) = refl

-- how many lines are kept, of these
abbrev kept_of : Bool → ℕ → List ℕ → ℕ
kept_of bracket count text = if bracket then lines_in count (after_definitions (length text) text) else count

cut_flat : (lines : List Remaining) → cut_lines (map flat lines) ≡ cut_lines lines
unfolding kept_lines
cut_flat lines =
    ap (λ (n : ℕ). n - kept_of (begins_with_bracket (map flat lines)) n (joined [] (map flat lines))) (length-map lines flat)
    ∙ ap (λ (t : Bool). length lines - kept_of t (length lines) (joined [] (map flat lines))) (bracket_flat lines)
    ∙ ap (λ (text : List ℕ). length lines - kept_of (begins_with_bracket lines) (length lines) text) (joined_flat [] lines)

words_flat_from : (cut : ℕ) (kind : Kind) (apart : Bool) (lines : List Remaining) (parts : List PartContent)
    → words_from cut kind apart (map flat lines) (map flat_part parts) ≡ map flat_part (words_from cut kind apart lines parts)
words_flat_from cut kind apart lines parts =
    let front = add_unless_empty Definitions apart (take cut lines) parts in
    ap (λ (ls : List Remaining). add_unless_empty kind (apart && (cut == 0)) (drop cut (map flat lines)) (add_unless_empty Definitions apart ls (map flat_part parts))) (take-map flat cut lines)
    ∙ ap (λ (ls : List Remaining). add_unless_empty kind (apart && (cut == 0)) ls (add_unless_empty Definitions apart (map flat (take cut lines)) (map flat_part parts))) (drop-map flat cut lines)
    ∙ ap (λ (ps : List PartContent). add_unless_empty kind (apart && (cut == 0)) (map flat (drop cut lines)) ps) (unless_flat Definitions apart (take cut lines) parts)
    ∙ unless_flat kind (apart && (cut == 0)) (drop cut lines) front

words_flat : (kind : Kind) (apart : Bool) (lines : List Remaining) (parts : List PartContent) → add_words kind apart (map flat lines) (map flat_part parts) ≡ map flat_part (add_words kind apart lines parts)
words_flat kind apart lines parts = ap (λ (n : ℕ). words_from n kind apart (map flat lines) (map flat_part parts)) (cut_flat lines) ∙ words_flat_from (cut_lines lines) kind apart lines parts

-- with other parts, and nothing else
abbrev with_parts : Gathering → List PartContent → Gathering
with_parts g parts = record g { parts = parts }

filled_flat : (count filled : ℕ) (lines : List Remaining) → filled_from count filled (map flat lines) ≡ filled_from count filled lines
unfolding filled_from
filled_flat count filled [] = refl
filled_flat count filled (l ∷ lines) = filled_flat (count + 1) (if is_blank l.bytes then filled else count + 1) lines

indented_flat : (count : ℕ) (g : Gathering) → indented_to count (flat_told g) ≡ flat_told (indented_to count g)
indented_flat count g =
    ap (λ (ls : List Remaining). with_parts (indented_to count (flat_told g)) (add_block Indented g.apart ls (map flat_part g.parts))) (take-map flat count g.lines)
    ∙ ap (λ (ps : List PartContent). with_parts (indented_to count (flat_told g)) ps) (block_flat Indented g.apart (take count g.lines) g.parts)
    ∙ ap (λ (n : ℕ). record (flat_told (indented_to count g)) { passed = nat_lt count n }) (length-map g.lines flat)

-- the open leaf is told with all its lines
as_it_is : (g : Gathering) → closed_as_it_is (flat_told g) ≡ flat_told (closed_as_it_is g)
as_it_is g = ap (λ (ps : List PartContent). with_parts (flat_told (closed_as_it_is g)) ps) (block_flat g.kind g.apart g.lines g.parts)

words_closed_flat : (kind : Kind) (g : Gathering) → words_closed kind (flat_told g) ≡ flat_told (words_closed kind g)
words_closed_flat kind g = ap (λ (ps : List PartContent). with_parts (flat_told (words_closed kind g)) ps) (words_flat kind g.apart g.lines g.parts)

closed_flat_as : (kind : Kind) (g : Gathering) → closed_as kind (flat_told g) ≡ flat_told (closed_as kind g)
closed_flat_as Nothing g = refl
closed_flat_as Paragraph g = words_closed_flat Paragraph g
closed_flat_as (Heading level) g = as_it_is g
closed_flat_as Indented g = ap (λ (n : ℕ). indented_to n (flat_told g)) (filled_flat 0 0 g.lines) ∙ indented_flat (filled_from 0 0 g.lines) g
closed_flat_as Fenced g = as_it_is g
closed_flat_as Html g = as_it_is g
closed_flat_as (Table columns) g = as_it_is g
closed_flat_as Rule g = as_it_is g
closed_flat_as Definitions g = as_it_is g

-- a leaf ends the same way
pub closed_flat : (g : Gathering) → closed (flat_told g) ≡ flat_told (closed g)
unfolding closed
closed_flat g = closed_flat_as g.kind g

-- ---- a line

first_flat : (leaf : Leaf) (text : Remaining) → first_text leaf (flat text) ≡ flat (first_text leaf text)
first_flat NothingLeaf text = refl
first_flat Bare text = refl
first_flat ParagraphLeaf text = refl
first_flat IndentedLeaf text = refl
first_flat (FencedLeaf sign length indent) text = refl
first_flat (HtmlLeaf ending) text = refl
first_flat TableLeaf text = refl

single_flat : (kind : Kind) (text : Remaining) (g : Gathering) → closed_as_it_is (begun kind (flat text) (flat_told g)) ≡ flat_told (closed_as_it_is (begun kind text g))
single_flat kind text g = ap (λ (h : Gathering). closed_as_it_is (begun_in kind (flat text) h)) (closed_flat g) ∙ as_it_is (begun kind text g)

lines_flat : (text : Remaining) (lines : List Remaining) → map flat lines ++ flat text ∷ [] ≡ map flat (lines ++ text ∷ [])
lines_flat text lines = sym (map-append flat lines (text ∷ []))

tabulated_flat : (at columns : ℕ) (text : Remaining) (g : Gathering) → tabulated_at at columns (flat text) (flat_told g) ≡ flat_told (tabulated_at at columns text g)
tabulated_flat at columns text g =
    let done = tabulated_at at columns text g in
    ap (λ (ls : List Remaining). with_parts (tabulated_at at columns (flat text) (flat_told g)) (add_words Paragraph g.apart ls (map flat_part g.parts))) (take-map flat at g.lines)
    ∙ ap (λ (ps : List PartContent). with_parts (tabulated_at at columns (flat text) (flat_told g)) ps) (words_flat Paragraph g.apart (take at g.lines) g.parts)
    ∙ ap (λ (ls : List Remaining). record (flat_told done) { lines = ls ++ flat text ∷ [] }) (drop-map flat at g.lines)
    ∙ ap (λ (ls : List Remaining). record (flat_told done) { lines = ls }) (lines_flat text (drop at g.lines))

line_flat : (deed : Deed) (text : Remaining) (g : Gathering) → line_done deed (flat text) (flat_told g) ≡ flat_told (line_done deed text g)
unfolding line_done
line_flat Blank text g = ap blank_in (closed_flat g)
line_flat (Begins leaf) text g =
    ap (λ (h : Gathering). begun_in (kind_of leaf) (first_text leaf (flat text)) h) (closed_flat g) ∙ ap (λ (t : Remaining). begun_in (kind_of leaf) t (flat_told (closed g))) (first_flat leaf text)
line_flat HtmlDeed text g = single_flat Html text g
line_flat GoesOn text g = ap (λ (ls : List Remaining). record (flat_told g) { lines = ls }) (lines_flat text g.lines)
line_flat Closes text g = closed_flat g
line_flat (Underlines level) text g = words_closed_flat (Heading level) g
line_flat (Tabulates columns) text g = ap (λ (n : ℕ). tabulated_at (n - 1) columns (flat text) (flat_told g)) (length-map g.lines flat) ∙ tabulated_flat (length g.lines - 1) columns text g
line_flat (HeadingDeed level) text g = single_flat (Heading level) _ g
line_flat RuleDeed text g = single_flat Rule text g

happened_flat : (event : Event) (g : Gathering) → happened (flat_event event) (flat_told g) ≡ flat_told (happened event g)
happened_flat leave g = ap left_in (closed_flat g) ∙ ap (λ (ps : List PartContent). with_parts (flat_told (left_in (closed g))) ps) (one_flat ends (closed g).parts)
happened_flat (enter container) g =
    ap (entered_in container) (closed_flat g) ∙ ap (λ (ps : List PartContent). with_parts (flat_told (entered_in container (closed g))) ps) (one_flat (begins container (closed g).passed) (closed g).parts)
happened_flat (line deed text) g = ap (λ (h : Gathering). record h { fresh = false }) (line_flat deed text g)

-- events tell the same
pub told_flat : (events : List Event) (g : Gathering) → told (flat_told g) (map flat_event events) ≡ flat_told (told g events)
unfolding told
told_flat [] g = refl
told_flat (event ∷ events) g = ap (λ (h : Gathering). told h (map flat_event events)) (happened_flat event g) ∙ told_flat events (happened event g)

-- ---- what parts spell

spelled_line : (lines : List Remaining) → map (λ (l : Remaining). whole (text_of l)) (map flat lines) ≡ map (λ (l : Remaining). whole (text_of l)) lines
spelled_line [] = refl
spelled_line (l ∷ lines) = ap (λ (ls : List Remaining). whole (text_of l) ∷ ls) (spelled_line lines)

spelled_part : (part : PartContent) → spelled (flat_part part) ≡ spelled part
spelled_part (begins container apart) = refl
spelled_part ends = refl
spelled_part (block leaf) = ap (λ (ls : List Remaining). block (record leaf { lines = ls })) (spelled_line leaf.lines)

-- parts spell the same whatever column their lines stand at
pub spelled_flat : (parts : List PartContent) → map spelled (map flat_part parts) ≡ map spelled parts
spelled_flat [] = refl
spelled_flat (part ∷ parts) = ap (λ (p : PartContent). p ∷ map spelled (map flat_part parts)) (spelled_part part) ∙ ap (λ (ps : List PartContent). spelled part ∷ ps) (spelled_flat parts)
