-- The names of the parts of a skin.
use Rattle.std.specs.Prelude.{ℕ, ◌||◌, List, Option, Some, None, codes, if◌then◌else◌}
use Rattle.std.specs.Str.{bytes_eq}
use Rattle.std.specs.Option.{option_or}
use Rattle.mad_json.specs.declared.fields.Field.{Field}
use Rattle.mad_json.specs.declared.fields.Field.TheVariants.{Bold, Italic, Strikeout, InlineCode, Ellipsis, Bullet, QuoteMark, HorizontalRule, ScrollBar, Paragraph, CodeBlock, Table, Headers, OrderedItems, TableBorders, IndentationMode}

-- what text adds to its line
abbrev pub addition_named : List ℕ → Option Field
addition_named key =
    if bytes_eq key (codes "bold") then Some Bold
    else if bytes_eq key (codes "italic") then Some Italic
    else if bytes_eq key (codes "strikeout") then Some Strikeout
    else if bytes_eq key (codes "inline_code") || bytes_eq key (codes "inline-code") then Some InlineCode
    else if bytes_eq key (codes "ellipsis") then Some Ellipsis
    else None

-- characters that are drawn
abbrev pub char_named : List ℕ → Option Field
char_named key =
    if bytes_eq key (codes "bullet") then Some Bullet
    else if bytes_eq key (codes "quote") || (bytes_eq key (codes "quote_mark") || bytes_eq key (codes "quote-mark")) then Some QuoteMark
    else if bytes_eq key (codes "horizontal_rule") || (bytes_eq key (codes "horizontal-rule") || bytes_eq key (codes "rule")) then Some HorizontalRule
    else if bytes_eq key (codes "scrollbar") then Some ScrollBar
    else None

-- lines
abbrev pub line_named : List ℕ → Option Field
line_named key =
    if bytes_eq key (codes "paragraph") then Some Paragraph
    else if bytes_eq key (codes "code_block") || bytes_eq key (codes "code-block") then Some CodeBlock
    else if bytes_eq key (codes "table") then Some Table
    else if bytes_eq key (codes "headers") then Some Headers
    else None

-- items of lists, and the borders of tables
abbrev pub form_named : List ℕ → Option Field
form_named key =
    if bytes_eq key (codes "ordered_items") || bytes_eq key (codes "ordered-items") then Some OrderedItems
    else if bytes_eq key (codes "table_border_chars") || bytes_eq key (codes "table-border-chars") then Some TableBorders
    else if bytes_eq key (codes "list_items_indentation_mode") || bytes_eq key (codes "list-items-indentation-mode") then Some IndentationMode
    else None

-- the part that a key names, byte for byte
abbrev pub field_named : List ℕ → Option Field
field_named key = option_or (addition_named key) (option_or (char_named key) (option_or (line_named key) (form_named key)))

-- the parts are numbered
abbrev pub field_index : Field → ℕ
field_index Bold = 0
field_index Italic = 1
field_index Strikeout = 2
field_index InlineCode = 3
field_index Ellipsis = 4
field_index Bullet = 5
field_index QuoteMark = 6
field_index HorizontalRule = 7
field_index ScrollBar = 8
field_index Paragraph = 9
field_index CodeBlock = 10
field_index Table = 11
field_index Headers = 12
field_index OrderedItems = 13
field_index TableBorders = 14
field_index IndentationMode = 15
