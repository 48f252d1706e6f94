-- The lines of the open leaf, gathered up to its end.
use Rattle.std.specs.Prelude.{ℕ, ◌+◌, ◌-◌, Bool, false, not, ◌&&◌, ◌||◌, ◌==◌, nat_lt, List, [], ◌∷◌, ◌++◌, map, length, reverse, take, drop, if◌then◌else◌}
use Rattle.markdown_marks.specs.Bytes.{is_blank, without_blanks}
use Rattle.markdown_marks.specs.Headings.{heading_text, without_end}
use Rattle.markdown_marks.specs.Remaining.{Remaining, remaining}
use Rattle.markdown_blocks.specs.Containers.{is_item}
use Rattle.markdown_blocks.specs.declared.containers.Container.{Container}
use Rattle.markdown_blocks.specs.declared.leaves.Leaf.{Leaf}
use Rattle.markdown_blocks.specs.declared.leaves.Leaf.TheVariants.{Paragraph as ParagraphLeaf, Indented as IndentedLeaf, Fenced as FencedLeaf, Html as HtmlLeaf}
use Rattle.markdown_blocks.specs.declared.leaves.Deed.{Deed}
use Rattle.markdown_blocks.specs.declared.leaves.Deed.TheVariants.{Blank, Begins, Html as HtmlDeed, GoesOn, Closes, Underlines, Tabulates, Heading as HeadingDeed, Rule as RuleDeed}
use Rattle.markdown_leaves.specs.Defining.{cut_lines}
use Rattle.markdown_leaves.specs.Parts.{PartContent, begins, ends, block, part_of}
use Rattle.markdown_leaves.specs.declared.gather.Gatherer.{Gatherer}
use Rattle.markdown_leaves.specs.declared.parts.Kind.{Kind}
use Rattle.markdown_leaves.specs.declared.parts.Kind.TheVariants.{Nothing, Paragraph, Heading, Indented, Fenced, Html, Table, Rule, Definitions}

-- The parts so far, and the leaf that is open: what it is, whether blank lines are before it, its lines. Then whether blank lines passed since
-- the last leaf ended, the last container began or a quote ended, and whether an item began in this line. And the containers that are open, the
-- innermost first.
pub record Gathering : Type 0 where
  pub parts : List PartContent
  pub kind : Kind
  pub apart : Bool
  pub lines : List Remaining
  pub passed : Bool
  pub fresh : Bool
  pub around : List Container

-- what the code has gathered
abbrev pub gathering_of : Gatherer → Gathering
gathering_of g = record {
  parts = map part_of g.parts.items;
  kind = g.kind;
  apart = g.apart;
  lines = map remaining g.lines.items;
  passed = g.passed;
  fresh = g.fresh;
  around = reverse g.around.items;
}

-- before a text no leaf is open, and there are no parts
abbrev pub nothing_told : Gathering
nothing_told = record { parts = []; kind = Nothing; apart = false; lines = []; passed = false; fresh = false; around = [] }

-- ---- a leaf ends

-- one more leaf is told
abbrev pub add_block : Kind → Bool → List Remaining → List PartContent → List PartContent
add_block kind apart lines parts = parts ++ block (record { kind = kind; apart = apart; lines = lines }) ∷ []

-- one more leaf is told, if it has lines
abbrev pub add_unless_empty : Kind → Bool → List Remaining → List PartContent → List PartContent
add_unless_empty kind apart lines parts = if length lines == 0 then parts else add_block kind apart lines parts

-- so many lines are told as definitions, and the others as a leaf of this kind
abbrev pub words_from : ℕ → Kind → Bool → List Remaining → List PartContent → List PartContent
words_from cut kind apart lines parts = add_unless_empty kind (apart && (cut == 0)) (drop cut lines) (add_unless_empty Definitions apart (take cut lines) parts)

-- the definitions that a paragraph begins with, and the rest of it as this kind
abbrev pub add_words : Kind → Bool → List Remaining → List PartContent → List PartContent
add_words kind apart lines parts = words_from (cut_lines lines) kind apart lines parts

-- no leaf is open now
abbrev pub emptied : Gathering → Gathering
emptied g = record g { kind = Nothing; lines = [] }

-- the open paragraph ends, and is told as this kind
abbrev pub words_closed : Kind → Gathering → Gathering
words_closed kind g = emptied (record g { parts = add_words kind g.apart g.lines g.parts })

-- the number of the last line that isn't blank, with those counted before
unfoldable pub filled_from : (count filled : ℕ) → List Remaining → ℕ
filled_from count filled [] = filled
filled_from count filled (line ∷ lines) = filled_from (count + 1) (if is_blank line.bytes then filled else count + 1) lines

-- indented code ends after so many lines; those behind them are blank
abbrev pub indented_to : ℕ → Gathering → Gathering
indented_to count g = emptied (record g { parts = add_block Indented g.apart (take count g.lines) g.parts; passed = nat_lt count (length g.lines) })

-- indented code has no blank lines at its end
abbrev pub indented_closed : Gathering → Gathering
indented_closed g = indented_to (filled_from 0 0 g.lines) g

-- the open leaf is told with all its lines
abbrev pub closed_as_it_is : Gathering → Gathering
closed_as_it_is g = emptied (record g { parts = add_block g.kind g.apart g.lines g.parts })

-- a leaf of this kind ends; of none nothing is told
abbrev pub closed_as : Kind → Gathering → Gathering
closed_as Nothing g = g
closed_as Paragraph g = words_closed Paragraph g
closed_as Indented g = indented_closed g
closed_as _ g = closed_as_it_is g

-- the open leaf ends
unfoldable pub closed : Gathering → Gathering
closed g = closed_as g.kind g

-- ---- a line

-- how a leaf is told
abbrev pub kind_of : Leaf → Kind
kind_of ParagraphLeaf = Paragraph
kind_of IndentedLeaf = Indented
kind_of (FencedLeaf sign length indent) = Fenced
kind_of (HtmlLeaf ending) = Html
kind_of _ = Nothing

-- without blanks at both ends
abbrev pub trimmed : Remaining → Remaining
trimmed text = record text { pending = 0; bytes = without_end 32 9 (without_blanks text.bytes) }

-- the text of a heading, without the signs that close it
abbrev pub heading_line : Remaining → Remaining
heading_line text = record text { pending = 0; bytes = heading_text text.bytes }

-- the first line of a leaf: of a fence what stands behind it
abbrev pub first_text : Leaf → Remaining → Remaining
first_text (FencedLeaf sign length indent) text = trimmed text
first_text _ text = text

-- a leaf begins with this line, where none is open
abbrev pub begun_in : Kind → Remaining → Gathering → Gathering
begun_in kind text g = record g { kind = kind; apart = g.passed; lines = text ∷ []; passed = false }

-- a leaf begins with this line
abbrev pub begun : Kind → Remaining → Gathering → Gathering
begun kind text g = begun_in kind text (closed g)

-- a leaf of one line
abbrev pub single : Kind → Remaining → Gathering → Gathering
single kind text g = closed_as_it_is (begun kind text g)

-- A blank line passes. A line in which an item begins isn't blank.
abbrev pub blank_in : Gathering → Gathering
blank_in g = record g { passed = g.passed || not g.fresh }

-- A blank line ends the open leaf.
abbrev pub blank : Gathering → Gathering
blank g = blank_in (closed g)

-- the open leaf goes on with this line
abbrev pub gone_on : Remaining → Gathering → Gathering
gone_on text g = record g { lines = g.lines ++ text ∷ [] }

-- the lines before this place stay a paragraph, and a table begins with those from there on
abbrev pub tabulated_at : ℕ → ℕ → Remaining → Gathering → Gathering
tabulated_at at columns text g = record g {
  parts = add_words Paragraph g.apart (take at g.lines) g.parts;
  kind = Table columns;
  apart = g.apart && (at == 0);
  lines = drop at g.lines ++ text ∷ [];
}

-- the last line of the open paragraph is a table's head, and this the row of delimiters
abbrev pub tabulated : ℕ → Remaining → Gathering → Gathering
tabulated columns text g = tabulated_at (length g.lines - 1) columns text g

-- a line does this to the leaves
unfoldable pub line_done : Deed → Remaining → Gathering → Gathering
line_done Blank text g = blank g
line_done (Begins leaf) text g = begun (kind_of leaf) (first_text leaf text) g
line_done HtmlDeed text g = single Html text g
line_done GoesOn text g = gone_on text g
line_done Closes text g = closed g
line_done (Underlines level) text g = words_closed (Heading level) g
line_done (Tabulates columns) text g = tabulated columns text g
line_done (HeadingDeed level) text g = single (Heading level) (heading_line text) g
line_done RuleDeed text g = single Rule text g

-- ---- containers

-- a container begins, where no leaf is open
abbrev pub entered_in : Container → Gathering → Gathering
entered_in container g = record g { parts = g.parts ++ begins container g.passed ∷ []; passed = false; fresh = g.fresh || is_item container; around = container ∷ g.around }

-- a container begins
abbrev pub entered : Container → Gathering → Gathering
entered container g = entered_in container (closed g)

-- The first of these containers ends. Blank lines in a quote aren't between the quote and what comes after it.
abbrev pub passed_outside : List Container → Bool → Bool
passed_outside [] passed = passed
passed_outside (container ∷ outer) passed = passed && is_item container

-- the last container ends, where no leaf is open
abbrev pub left_in : Gathering → Gathering
left_in g = record g { parts = g.parts ++ ends ∷ []; passed = passed_outside g.around g.passed; around = drop 1 g.around }

-- the last container ends
abbrev pub left : Gathering → Gathering
left g = left_in (closed g)
