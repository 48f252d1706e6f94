-- The rows of a line that is of no table, drawn across some columns.
use Rattle.std.specs.Prelude.{ℕ, ◌+◌, ◌-◌, min, List, [], ◌∷◌, ◌++◌, map, replicate, Some, decimal, encode_utf8, if◌then◌else◌}
use Rattle.std.specs.Str.{chars}
use Rattle.mad_md.specs.Flagged.{FlaggedChar, flagged}
use Rattle.mad_md.specs.Lines.{StyledRuns, LineContent, normal}
use Rattle.mad_style.specs.Kinds.{kind_of}
use Rattle.mad_style.specs.LineStyles.{margins_at}
use Rattle.mad_style.specs.StyledChars.{char_alone}
use Rattle.mad_style.specs.declared.kinds.CompositeKind.{CompositeKind}
use Rattle.mad_style.specs.declared.kinds.CompositeKind.TheVariants.{ListItem, OrderedListItem, Quote}
use Rattle.mad_measure.specs.TextColumns.{width_of}
use Rattle.mad_measure.specs.Completions.{left_completion}
use Rattle.mad_format.specs.Indents.{indent, follow_up}
use Rattle.mad_format.specs.Lists.{most}
use Rattle.mad_blocks.specs.LayoutParts.{is_code_kind}
use Rattle.mad_layout.specs.LineTexts.{inner_width, runs_text}
use Rattle.mad_rows.specs.RowStyles.{line_style, index_suffix}
use Rattle.mad_rows.specs.declared.row_skin.RowSkin.{RowSkin}

-- a line between its marks: parts of characters with the same flags
abbrev pub marked_parts : StyledRuns → List (List FlaggedChar)
marked_parts line = map (λ r. flagged r.flags (chars r.text)) line.runs

-- the columns of what a line says between its marks, none of a line of a table or a rule
abbrev pub columns_said : LineContent → ℕ
columns_said (normal line) = width_of (runs_text line.runs)
columns_said _ = 0

-- the columns of a part's widest line
abbrev pub widest_in : List LineContent → ℕ
widest_in = most columns_said

-- a character of the skin, as it is written
abbrev pub skin_char : ℕ → List ℕ
skin_char c = chars (encode_utf8 c)

-- the characters in front of a row of this kind: an item's bullet or number after the spaces of its depth, a quote's mark; on the rows
-- that follow an item's first one, the spaces of its indent
abbrev pub front_of : RowSkin → CompositeKind → List ℕ
front_of skin (ListItem depth) = replicate depth 32 ++ (skin_char (char_alone skin.bullet) ++ 32 ∷ [])
front_of skin (OrderedListItem level index) = replicate level 32 ++ (decimal index ++ (skin_char (index_suffix skin level) ++ 32 ∷ []))
front_of skin Quote = skin_char (char_alone skin.quote_mark) ++ 32 ∷ []
front_of skin kind = replicate (indent skin.list_items_indentation_mode kind) 32

-- the columns of a row with those in front of it, or of its block, if it is one of code, in a layout of this width
abbrev pub placed_columns : RowSkin → ℕ → List LineContent → StyledRuns → CompositeKind → List FlaggedChar → ℕ
placed_columns skin width part line kind row =
    if is_code_kind kind then min (widest_in part) (inner_width skin width line) else indent skin.list_items_indentation_mode kind + width_of row

-- the columns left of it among those that are drawn: its margin in the layout, and what its alignment leaves there
abbrev pub left_columns : RowSkin → ℕ → ℕ → CompositeKind → ℕ → ℕ
left_columns skin width drawn kind columns =
    let style = line_style skin kind in
    let margins = margins_at style (Some width) in
    left_completion style.align (drawn - (columns + margins.0 + margins.1)) + margins.0

-- a row's characters across the columns that are drawn, after those in front of it and filled up with spaces
abbrev pub row_across : RowSkin → ℕ → ℕ → List LineContent → StyledRuns → CompositeKind → List FlaggedChar → List ℕ
row_across skin width drawn part line kind row =
    let left = left_columns skin width drawn kind (placed_columns skin width part line kind row) in
    replicate left 32 ++ (front_of skin kind ++ (map (λ x. x.char) row ++ replicate (drawn - left - (indent skin.list_items_indentation_mode kind + width_of row)) 32))

-- the rows of a line across them; those after the first are of the kind that follows
abbrev pub rows_across : RowSkin → ℕ → ℕ → List LineContent → StyledRuns → List (List FlaggedChar) → List (List ℕ)
rows_across skin width drawn part line [] = []
rows_across skin width drawn part line (row ∷ rows) =
    row_across skin width drawn part line (kind_of line.style) row ∷ map (row_across skin width drawn part line (follow_up (kind_of line.style))) rows
