-- What a line does to the leaves.
use Rattle.std.specs.Prelude.{ℕ, Bool, true, false, not, ◌||◌, ◌&&◌, ◌==◌, nat_lt, List, [], ◌∷◌, ◌++◌, length, Option, Some, None, is_some, if◌then◌else◌}
use Rattle.markdown_html.specs.Ends.{ends_html}
use Rattle.markdown_html.specs.Starts.{html_start}
use Rattle.markdown_html.specs.declared.starts.Ending.{Ending}
use Rattle.markdown_html.specs.declared.starts.Ending.TheVariants.{BlankLine as BlankEnding}
use Rattle.markdown_marks.specs.Bytes.{first, is_blank, is_run_alone, without_blanks}
use Rattle.markdown_marks.specs.Definitions.{are_definitions}
use Rattle.markdown_marks.specs.Marks.{heading_level, fence_start, underline_level, is_rule}
use Rattle.markdown_marks.specs.Remaining.{Remaining, remaining, take_columns, columns_in_front, skip}
use Rattle.markdown_marks.specs.Tables.{cell_count, delimited_columns}
use Rattle.markdown_marks.specs.declared.marks.Fence.{Fence}
use Rattle.markdown_blocks.specs.declared.leaves.Leaf.{Leaf}
use Rattle.markdown_blocks.specs.declared.leaves.Leaf.TheVariants.{Nothing, Bare, Paragraph, Indented, Fenced, Html, Table}
use Rattle.markdown_blocks.specs.declared.leaves.Joining.{Joining}
use Rattle.markdown_blocks.specs.declared.leaves.Joining.TheVariants.{Apart, Lazily, Fully, InTable}
use Rattle.markdown_blocks.specs.declared.leaves.Start.{Start}
use Rattle.markdown_blocks.specs.declared.leaves.Start.TheVariants.{Blank, Code, Heading, Fence as FenceStart, Html as HtmlStart, Underline, Rule, Words}
use Rattle.markdown_blocks.specs.declared.leaves.Begun.{Begun}
use Rattle.markdown_blocks.specs.declared.leaves.Going.{Going}
use Rattle.markdown_blocks.specs.declared.leaves.Going.TheVariants.{No, On, Last, Ends}
use Rattle.markdown_blocks.specs.declared.leaves.Deed.{Deed}
use Rattle.markdown_blocks.specs.declared.leaves.Deed.TheVariants.{Blank as BlankLine, Begins, Html as HtmlLine, GoesOn, Underlines, Tabulates, Heading as HeadingLine, Rule as RuleLine}

-- ---- the open leaf

-- the leaf is a paragraph
abbrev pub is_paragraph : Leaf → Bool
is_paragraph Paragraph = true
is_paragraph _ = false

-- the leaf is a table
abbrev pub is_table : Leaf → Bool
is_table Table = true
is_table _ = false

-- no leaf is open, and an item began whose first line was blank
abbrev pub is_bare : Leaf → Bool
is_bare Bare = true
is_bare _ = false

-- A fence ends with at least as many of its signs alone, after at most three columns.
abbrev pub closes_fence : ℕ → ℕ → Remaining → Bool
closes_fence sign length rest = nat_lt (columns_in_front 4 rest) 4 && is_run_alone sign length (take_columns 4 rest).bytes

-- whether a block of html ends before blank lines
abbrev pub ends_by_blank : Ending → Bool
ends_by_blank BlankEnding = true
ends_by_blank _ = false

-- A block of html takes all lines up to the one that has its end, or up to a blank one.
abbrev pub html_going : Ending → Remaining → Going
html_going ending rest =
    if ends_by_blank ending then (if is_blank rest.bytes then No else On)
    else if ends_html ending rest.bytes then Last else On

-- Whether the open leaf takes a line, whatever the line begins with. A fence takes all lines up to its end. Indented code takes blank
-- lines, and those with four columns in front. No other leaf takes lines unseen.
unfoldable pub going_on : Leaf → Remaining → Going
going_on (Fenced sign length indent) rest = if closes_fence sign length rest then Ends else On
going_on Indented rest = if is_blank rest.bytes || (columns_in_front 4 rest == 4) then On else No
going_on (Html ending) rest = html_going ending rest
going_on _ rest = No

-- the columns in front of a line that are no part of the leaf's text, where they are blank
abbrev pub margin : Leaf → ℕ
margin (Fenced sign length indent) = indent
margin Indented = 4
margin _ = 0

-- ---- what begins

-- whether a line may be a paragraph's next one, and whether all containers go on in it
abbrev pub joining_of : Bool → Bool → Joining
joining_of false all = Apart
joining_of true false = Lazily
joining_of true true = Fully

-- a line may be a table's next one only where all containers go on
abbrev pub joining_or_row : (row may_join all : Bool) → Joining
joining_or_row row may_join all = if row then InTable else joining_of may_join all

-- whether this line would underline a paragraph
abbrev pub underlines : Remaining → Bool
underlines rest = nat_lt (columns_in_front 4 rest) 4 && is_some (underline_level (take_columns 4 rest).bytes)

-- A line that would underline a paragraph of definitions alone isn't its next one. This is the paragraph's text so far, if it begins with a bracket.
abbrev pub only_defines : List ℕ → Bool → Remaining → Bool
only_defines defining all rest = if (length defining == 0) || not all then false else underlines rest && are_definitions (length defining) defining

-- the line may be a paragraph's next one
abbrev pub joins : Joining → Bool
joins Apart = false
joins Lazily = true
joins Fully = true
joins InTable = false

-- what a rest of a line begins as, and the text that it has then
pub record Beginning : Type 0 where
  pub start : Start
  pub text : Remaining

-- what the code says a rest of a line begins as
abbrev pub beginning : Begun → Beginning
beginning begun = record { start = begun.start; text = remaining begun.text }

-- a rest of a line begins as this, and then has this text
abbrev pub begins : Start → Remaining → Beginning
begins start text = record { start = start; text = text }

-- without all blanks in front
abbrev pub unindented : Remaining → Remaining
unindented rest = record rest { pending = 0; bytes = without_blanks rest.bytes }

-- a line with four columns in front
abbrev pub code_start : Joining → Remaining → Beginning
code_start joining rest = begins Code (if joins joining then unindented rest else take_columns 4 rest)

-- a thematic break, or else text
abbrev pub rule_start : Remaining → Beginning
rule_start rest = if is_rule rest.bytes then begins Rule rest else begins Words rest

-- a rest begins an underline of this level, or else is a thematic break or text
abbrev pub or_rule : Option ℕ → Remaining → Beginning
or_rule None rest = rule_start rest
or_rule (Some level) rest = begins (Underline level) rest

-- Only a line in which all containers go on underlines a paragraph.
abbrev pub underline_start : Joining → Remaining → Beginning
underline_start Fully rest = or_rule (underline_level rest.bytes) rest
underline_start _ rest = rule_start rest

-- The text of a block of html has the blanks in front of it.
abbrev pub or_underline : Option Ending → Joining → Remaining → Remaining → Beginning
or_underline None joining uncut rest = underline_start joining rest
or_underline (Some ending) joining uncut rest = begins (HtmlStart ending (ends_html ending rest.bytes)) uncut

-- a rest begins a fence, or else html, an underline, a thematic break or text
abbrev pub or_html : Option Fence → Joining → ℕ → Remaining → Remaining → Beginning
or_html None joining indent uncut rest = or_underline (html_start (joins joining) rest.bytes) joining uncut rest
or_html (Some fence) joining indent uncut rest = begins (FenceStart fence.sign fence.length indent) (skip fence.length rest)

-- a rest begins a heading of this level, or else what the others say
abbrev pub or_fence : Option ℕ → Joining → ℕ → Remaining → Remaining → Beginning
or_fence None joining indent uncut rest = or_html (fence_start rest.bytes) joining indent uncut rest
or_fence (Some level) joining indent uncut rest = begins (Heading level) (skip level rest)

-- what a rest begins as after at most three columns: a heading, a fence, html, an underline, a thematic break or text
unfoldable pub mark_start : Joining → ℕ → Remaining → Remaining → Beginning
mark_start joining indent uncut rest = or_fence (heading_level rest.bytes) joining indent uncut rest

-- what the rest of a line begins as
unfoldable pub leaf_start : Joining → Remaining → Beginning
leaf_start joining rest =
    if is_blank rest.bytes then begins Blank rest
    else if columns_in_front 4 rest == 4 then code_start joining rest
    else mark_start joining (columns_in_front 4 rest) rest (take_columns 4 rest)

-- ---- what is done

-- a paragraph goes on, or this leaf begins
abbrev pub joins_or : Joining → Leaf → Deed
joins_or joining leaf = if joins joining then GoesOn else Begins leaf

-- Words are the next line of a paragraph or a table, or the row below a table's head, which the paragraph's last line is: that has
-- so many cells. Else a paragraph begins.
abbrev pub words_deed : Joining → ℕ → Remaining → Deed
words_deed Apart cells text = Begins Paragraph
words_deed Lazily cells text = GoesOn
words_deed Fully cells text = if not (cells == 0) && (delimited_columns text.bytes == cells) then Tabulates cells else GoesOn
words_deed InTable cells text = GoesOn

-- what a line does that begins so, with this text
abbrev pub deed_at : Joining → ℕ → Remaining → Start → Deed
deed_at joining cells text Blank = BlankLine
deed_at joining cells text Code = joins_or joining Indented
deed_at joining cells text (Heading level) = HeadingLine level
deed_at joining cells text (FenceStart sign length indent) = Begins (Fenced sign length indent)
deed_at joining cells text (HtmlStart ending ends) = if ends then HtmlLine else Begins (Html ending)
deed_at joining cells text (Underline level) = Underlines level
deed_at joining cells text Rule = RuleLine
deed_at joining cells text Words = words_deed joining cells text

-- what a line with this beginning does
abbrev pub deed_of : Joining → ℕ → Beginning → Deed
deed_of joining cells begun = deed_at joining cells begun.text begun.start

-- the leaf that is open after it; bare where the last container is an item that began in this line
abbrev pub leaf_after : Bool → Leaf → Deed → Leaf
leaf_after bare leaf BlankLine = if bare then Bare else Nothing
leaf_after bare leaf (Begins next) = next
leaf_after bare leaf GoesOn = leaf
leaf_after bare leaf (Tabulates columns) = Table
leaf_after bare leaf _ = Nothing

-- how many cells the last line of the open paragraph has; this is the leaf that the line left open, and its text
abbrev pub cells_after : Leaf → Remaining → ℕ
cells_after leaf text = if is_paragraph leaf then cell_count text.bytes else 0

-- The text of the open paragraph, its lines joined by newlines, if it begins with a bracket: it may be definitions alone. Else nothing.
abbrev pub defining_after : Deed → List ℕ → Remaining → List ℕ
defining_after (Begins leaf) defining text = if is_paragraph leaf && (first text.bytes == 91) then text.bytes else []
defining_after GoesOn defining text = if length defining == 0 then [] else defining ++ 10 ∷ text.bytes
defining_after _ defining text = []
