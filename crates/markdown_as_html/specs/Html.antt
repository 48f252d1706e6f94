-- A text as the html that CommonMark's specification prints for it.
use Rattle.std.specs.Prelude.{ℕ, Bool, true, false, ◌||◌, ◌&&◌, ◌==◌, List, [], ◌∷◌, ◌++◌, drop, replicate, flat_map, take_while, decimal, codes, not, Option, Some, None, if◌then◌else◌}
use Rattle.markdown_marks.specs.Definitions.{is_space_byte}
use Rattle.markdown_marks.specs.Remaining.{Remaining}
use Rattle.markdown_spans.specs.Decoded.{decoded}
use Rattle.markdown_blocks.specs.declared.containers.Container.TheVariants.{Quote, Item}
use Rattle.markdown_leaves.specs.Defining.{joined}
use Rattle.markdown_leaves.specs.Parts.{PartContent}
use Rattle.markdown_leaves.specs.Told.{parts_of}
use Rattle.markdown_leaves.specs.declared.parts.Kind.{Kind}
use Rattle.markdown_leaves.specs.declared.parts.Kind.TheVariants.{Nothing, Paragraph, Heading, Indented, Fenced, Html, Table, Rule, Definitions}
use Rattle.mad_md.specs.declared.alignment.Alignment.{Alignment}
use Rattle.mad_md.specs.declared.alignment.Alignment.TheVariants.{Unspecified, Left, Center, Right}
use Rattle.markdown_cells.specs.Cells.{cell_text, after_cell, alignments}
use Rattle.markdown_marks.specs.Tables.{row_of}
use Rattle.markdown_reader.specs.Mapping.{text_of}
use Rattle.markdown_as_html.specs.Blocks.{Blocks, no_more, leaf, holds, tree_of}
use Rattle.markdown_as_html.specs.Defined.{Defined, definitions_of}
use Rattle.markdown_as_html.specs.Escaped.{escaped, end_tag, within, attribute}
use Rattle.markdown_as_html.specs.Inlines.{inline_html}
use Rattle.markdown_as_html.specs.Lists.{Listing, is_in, list_of, are_seen, begins_line}

-- the newline that ends a line
abbrev pub line_end : List ℕ
line_end = 10 ∷ []

-- ---- leaves

-- the html of a leaf's lines, which are one text
abbrev pub words_html : Defined → List Remaining → List ℕ
words_html defined lines = inline_html defined (text_of (joined [] lines))

-- A paragraph of a tight list stands by itself. A line ends behind it where something follows.
abbrev pub paragraph_html : (tight more : Bool) → List ℕ → List ℕ
paragraph_html tight more words = if tight then words ++ (if more then line_end else []) else within (codes "p") words ++ line_end

-- the name of a heading's element, which has its level
abbrev pub heading_name : ℕ → List ℕ
heading_name level = 104 ∷ decimal level

-- a line, with a blank for each column of a tab that was taken in part
abbrev pub line_bytes : Remaining → List ℕ
line_bytes line = replicate line.pending 32 ++ line.bytes

-- a line of code, in which some bytes are entities
abbrev pub code_line : Remaining → List ℕ
code_line line = escaped (line_bytes line) ++ line_end

-- a block of code, whose language is an attribute
abbrev pub html_of_code : (language lines : List ℕ) → List ℕ
html_of_code language lines = codes "<pre><code" ++ (language ++ (codes ">" ++ (lines ++ codes "</code></pre>\n")))

-- a block of code that has these lines
abbrev pub code_html : List ℕ → List Remaining → List ℕ
code_html language lines = html_of_code language (flat_map code_line lines)

-- the first word behind a fence names a language
abbrev pub language_in : List ℕ → List ℕ
language_in info = take_while (λ b. not (is_space_byte b)) (decoded true info)

-- a language is an attribute; without one there is none
abbrev pub language_html : List ℕ → List ℕ
language_html [] = []
language_html (b ∷ bs) = attribute (codes "class") (codes "language-" ++ escaped (b ∷ bs))

-- the attribute of the language that is named behind a fence
abbrev pub fence_language : List Remaining → List ℕ
fence_language [] = []
fence_language (info ∷ lines) = language_html (language_in info.bytes)

-- a line of html, which stays as it is
abbrev pub raw_line : Remaining → List ℕ
raw_line line = line_bytes line ++ line_end

-- ---- tables, as GitHub's specification prints them

-- what html calls an alignment; it has no name where none is said
abbrev pub alignment_name : Alignment → List ℕ
alignment_name Unspecified = []
alignment_name Left = codes "left"
alignment_name Center = codes "center"
alignment_name Right = codes "right"

-- an alignment is an attribute; without one there is none
abbrev pub alignment_html : List ℕ → List ℕ
alignment_html [] = []
alignment_html (b ∷ bs) = attribute (codes "align") (b ∷ bs)

-- a cell of this element, which says how it is aligned
abbrev pub cell_html : List ℕ → Alignment → List ℕ → List ℕ
cell_html name alignment words = 60 ∷ (name ++ (alignment_html (alignment_name alignment) ++ (62 ∷ (words ++ (end_tag name ++ line_end)))))

-- a cell for each column
unfoldable pub cells_html : Defined → List ℕ → List Alignment → List ℕ → List ℕ
cells_html defined name [] row = []
cells_html defined name (alignment ∷ others) row = cell_html name alignment (inline_html defined (cell_text row)) ++ cells_html defined name others (after_cell row)

-- a row that has a cell for each column
abbrev pub row_html : Defined → List ℕ → List Alignment → Remaining → List ℕ
row_html defined name columns line = codes "<tr>\n" ++ (cells_html defined name columns (row_of line.bytes) ++ codes "</tr>\n")

-- the rows below a table's head; where there are none, there is no body
abbrev pub body_html : Defined → List Alignment → List Remaining → List ℕ
body_html defined columns [] = []
body_html defined columns (row ∷ rows) = codes "<tbody>\n" ++ (flat_map (row_html defined (codes "td") columns) (row ∷ rows) ++ codes "</tbody>\n")

-- a table that has this head and these rows
abbrev pub table_of : Defined → List Alignment → Remaining → List Remaining → List ℕ
table_of defined columns head rows =
    codes "<table>\n<thead>\n" ++ (row_html defined (codes "th") columns head ++ (codes "</thead>\n" ++ (body_html defined columns rows ++ codes "</table>\n")))

-- the table that these lines are: a head, delimiters and rows
abbrev pub table_html : Defined → ℕ → List Remaining → List ℕ
table_html defined columns (head ∷ (delimiters ∷ rows)) = table_of defined (alignments columns (row_of delimiters.bytes)) head rows
table_html defined columns _ = []

-- of a leaf; more is seen after it in its container, or not
abbrev pub leaf_html : Defined → (tight more : Bool) → Kind → List Remaining → List ℕ
leaf_html defined tight more Nothing lines = []
leaf_html defined tight more Paragraph lines = paragraph_html tight more (words_html defined lines)
leaf_html defined tight more (Heading level) lines = within (heading_name level) (words_html defined lines) ++ line_end
leaf_html defined tight more Indented lines = code_html [] lines
leaf_html defined tight more Fenced lines = code_html (fence_language lines) (drop 1 lines)
leaf_html defined tight more Html lines = flat_map raw_line lines
leaf_html defined tight more (Table columns) lines = table_html defined columns lines
leaf_html defined tight more Rule lines = codes "<hr />\n"
leaf_html defined tight more Definitions lines = []

-- ---- containers

-- a list whose items have this sign is one of numbers
abbrev pub is_number : ℕ → Bool
is_number sign = (sign == 46) || (sign == 41)

-- the name of a list's element, by whether it has numbers
abbrev pub list_name : ℕ → List ℕ
list_name sign = if is_number sign then codes "ol" else codes "ul"

-- the number that a list begins with, where that isn't 1
abbrev pub start_html : ℕ → ℕ → List ℕ
start_html sign number = if is_number sign && not (number == 1) then attribute (codes "start") (decimal number) else []

-- a list begins, and says its first number where that isn't 1
abbrev pub list_begin : ℕ → ℕ → List ℕ
list_begin sign number = 60 ∷ (list_name sign ++ (start_html sign number ++ (62 ∷ line_end)))

-- a list that has begun ends
abbrev pub list_end : Option Listing → List ℕ
list_end None = []
list_end (Some list) = end_tag (list_name list.sign) ++ line_end

-- a list goes on with an item, or one ends and another begins
abbrev pub before_item : Option Listing → ℕ → ℕ → List ℕ
before_item list sign number = if is_in list sign then [] else list_end list ++ list_begin sign number

-- an item around its blocks, which begin a line of their own or don't
abbrev pub item_html : Bool → List ℕ → List ℕ
item_html own_line inner = codes "<li>" ++ ((if own_line then line_end else []) ++ (inner ++ codes "</li>\n"))

-- a quote's element, which is around its blocks
abbrev pub quote_html : List ℕ → List ℕ
quote_html inner = codes "<blockquote>\n" ++ (inner ++ codes "</blockquote>\n")

-- Blocks of a container, of a tight list's item or another, where maybe a list has begun: a block that is no item ends it.
unfoldable pub blocks_html : Defined → (tight : Bool) → Option Listing → Blocks → List ℕ
blocks_html defined tight list no_more = list_end list
blocks_html defined tight list (leaf b after) =
    list_end list ++ (leaf_html defined tight (are_seen after) b.kind b.lines ++ blocks_html defined tight None after)
blocks_html defined tight list (holds Quote apart inner after) =
    list_end list ++ (quote_html (blocks_html defined false None inner) ++ blocks_html defined tight None after)
blocks_html defined tight list (holds (Item sign number content) apart inner after) =
    let its = list_of list sign inner after in
    before_item list sign number ++ (item_html (begins_line its.tight inner) (blocks_html defined its.tight None inner) ++ blocks_html defined tight (Some its) after)

-- ---- a text

-- the html that these parts are
abbrev pub parts_html : List PartContent → List ℕ
parts_html parts = blocks_html (definitions_of parts) false None (tree_of parts)

-- the html of a text, both in UTF-8
unfoldable pub html_of : List ℕ → List ℕ
html_of text = parts_html (parts_of text)
