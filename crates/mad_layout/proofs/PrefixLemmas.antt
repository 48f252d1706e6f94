-- What is in front of a line: it is shown, and takes the columns of its indent.
use Rattle.std.proofs.Common.{◌≡◌, ℕ, zero, suc, ◌+◌, ◌/◌, ◌%◌, ◌^◌, ◌<◌, ◌≤◌, ◌⊎◌, inl, inr, List, [], ◌∷◌, ◌++◌, length, refl, ap, sym, ◌∙◌, subst, arith}
use Rattle.std.specs.Prelude.{decimal}
use Rattle.std.specs.List.{AllByRecursion}
use Rattle.std.specs.Str.{chars, IsAscii}
use Rattle.std.proofs.lemmas.Bool.{cases_lt}
use Rattle.std.proofs.lemmas.Fmt.{IsAscii-decimal, decimal_digit, decimal_step}
use Rattle.std.proofs.lemmas.Str.{IsUtf8-from_ascii, chars-IsAscii}
use Rattle.mad_characters.specs.Columns.{char_columns}
use Rattle.mad_characters.proofs.CharColumns.{char_columns-ascii}
use Rattle.mad_screen.specs.Painting.{IsPrinted, IsWhole, IsShown}
use Rattle.mad_style.specs.declared.compound_styles.CompoundStyle.{CompoundStyle}
use Rattle.mad_style.specs.declared.kinds.CompositeKind.{CompositeKind}
use Rattle.mad_style.specs.declared.kinds.CompositeKind.TheVariants.{ListItem, ListItemFollowUp, OrderedListItem, OrderedListItemFollowUp, Quote}
use Rattle.mad_measure.specs.TextColumns.{columns}
use Rattle.mad_measure.proofs.AllLemmas.{all_push, all_joined}
use Rattle.mad_draw.specs.Pieces.{RowPiece, IsShownPiece, AreShownPieces, char_piece, pieces_columns, single_spaces}
use Rattle.mad_draw.proofs.PieceLemmas.{columns-both, spaces_columns, shown_spaces}
use Rattle.mad_style.specs.OrderedItems.{ordered_indent}
use Rattle.mad_format.specs.Indents.{follow_up, indent, later_indent}
use Rattle.mad_rows.specs.Rows.{number_piece, prefix_space, prefix_pieces}
use Rattle.mad_rows.specs.RowStyles.{ordered_item_style}
use Rattle.mad_rows.specs.declared.row_skin.RowSkin.{RowSkin}
use Rattle.mad_layout.proofs.ColumnChars.{printed_char, column_piece, column_suffix}
use Rattle.mad_layout.proofs.SoundLines.{IsSoundPrefix}

-- ---- digits

abbrev IsDigit : ℕ → Type 0
IsDigit c = (48 ≤ c) × (c < 58)

digits_by : (k n : ℕ) → n < k → n < 2 ^ 64 → (n < 10) ⊎ (10 ≤ n) → AllByRecursion IsDigit (decimal n)
digits_by zero n less fits cases = absurd (omega (arith, less))
digits_by (suc k) n less fits (inl low) = subst (AllByRecursion IsDigit) (sym (decimal_digit n low)) ((omega arith, omega (arith, low)), tt)
digits_by (suc k) n less fits (inr high) =
    subst (AllByRecursion IsDigit) (sym (decimal_step n high fits))
    (all_push IsDigit (decimal (n / 10)) (48 + n % 10) (digits_by k (n / 10) (omega (arith, less, high)) (omega (arith, fits)) (cases_lt (n / 10) 10)) (omega arith, omega arith))

digits_printed : (cs : List ℕ) → AllByRecursion IsDigit cs → IsPrinted cs
digits_printed [] h = tt
digits_printed (c ∷ cs) h = (printed_char c (char_columns-ascii c (omega (arith, h.0.0)) (omega (arith, h.0.1))), digits_printed cs h.1)

digits_whole : (cs : List ℕ) → AllByRecursion IsDigit cs → IsWhole cs
digits_whole [] h = tt
digits_whole (c ∷ cs) h = let one : char_columns c ≡ 1 = char_columns-ascii c (omega (arith, h.0.0)) (omega (arith, h.0.1)) in omega (arith, one)

digits_columns : (cs : List ℕ) → AllByRecursion IsDigit cs → columns cs ≡ length cs
digits_columns [] h = refl
digits_columns (c ∷ cs) h =
    let one : char_columns c ≡ 1 = char_columns-ascii c (omega (arith, h.0.0)) (omega (arith, h.0.1)) in
    let rest : columns cs ≡ length cs = digits_columns cs h.1 in
    omega (arith, one, rest)

number_digits : (n : ℕ) → n < 2 ^ 32 → AllByRecursion IsDigit (decimal n)
number_digits n fits = digits_by (suc n) n (omega arith) (omega (arith, fits)) (cases_lt n 10)

-- a number is shown
pub number_shown : (style : CompoundStyle) (n : ℕ) → n < 2 ^ 32 → IsShownPiece (number_piece style n)
number_shown style n fits =
    let ascii : IsAscii (decimal n) = IsAscii-decimal n (omega (arith, fits)) in
    let digits : AllByRecursion IsDigit (decimal n) = number_digits n fits in
    record {
      utf8 = IsUtf8-from_ascii (decimal n) ascii;
      shown = subst IsShown (sym (chars-IsAscii (decimal n) ascii)) (record { printed = digits_printed (decimal n) digits; whole = digits_whole (decimal n) digits });
    }

-- it takes a column for each digit
pub number_columns : (n : ℕ) → n < 2 ^ 32 → columns (chars (decimal n)) ≡ length (decimal n)
number_columns n fits = ap columns (chars-IsAscii (decimal n) (IsAscii-decimal n (omega (arith, fits)))) ∙ digits_columns (decimal n) (number_digits n fits)

-- ---- spaces

singles_shown : (style : CompoundStyle) (n : ℕ) → AreShownPieces (single_spaces style n)
singles_shown style zero = tt
singles_shown style (suc n) = ((shown_spaces style 1).0, singles_shown style n)

singles_columns : (style : CompoundStyle) (n : ℕ) → pieces_columns (single_spaces style n) ≡ n
singles_columns style zero = refl
singles_columns style (suc n) =
    let one : columns (chars (32 ∷ [])) + 0 ≡ 1 = spaces_columns style 1 in
    let rest : pieces_columns (single_spaces style n) ≡ n = singles_columns style n in
    omega (arith, one, rest)

-- ---- in front of a line

-- what is in front of a line shows cells of its own
pub prefix_shown : (skin : RowSkin) (kind : CompositeKind) → IsSoundPrefix skin kind → AreShownPieces (prefix_pieces skin kind)
prefix_shown skin (ListItem depth) h = all_joined IsShownPiece (single_spaces skin.paragraph.compound_style depth) _ (singles_shown skin.paragraph.compound_style depth) ((column_piece skin.bullet h).shown, ((shown_spaces skin.paragraph.compound_style 1).0, tt))
prefix_shown skin (ListItemFollowUp depth) h = singles_shown skin.paragraph.compound_style _
prefix_shown skin (OrderedListItem level index) h =
    all_joined IsShownPiece (single_spaces skin.paragraph.compound_style level) _ (singles_shown skin.paragraph.compound_style level)
    (number_shown (ordered_item_style skin level).index_style index h.0, ((column_suffix skin level h.1).shown, ((shown_spaces skin.paragraph.compound_style 1).0, tt)))
prefix_shown skin (OrderedListItemFollowUp level index) h = singles_shown skin.paragraph.compound_style _
prefix_shown skin Quote h = ((column_piece skin.quote_mark h).shown, ((shown_spaces skin.paragraph.compound_style 1).0, tt))
prefix_shown skin _ h = tt

-- it takes the columns of the line's indent
pub prefix_columns : (skin : RowSkin) (kind : CompositeKind) → IsSoundPrefix skin kind → pieces_columns (prefix_pieces skin kind) ≡ indent skin.list_items_indentation_mode kind
prefix_columns skin (ListItem depth) h =
    let blank : CompoundStyle = skin.paragraph.compound_style in
    let after : List RowPiece = char_piece skin.bullet ∷ prefix_space skin ∷ [] in
    let both : pieces_columns (single_spaces blank depth ++ after) ≡ pieces_columns (single_spaces blank depth) + pieces_columns after = columns-both (single_spaces blank depth) after in
    let before : pieces_columns (single_spaces blank depth) ≡ depth = singles_columns blank depth in
    let one : columns (chars (32 ∷ [])) + 0 ≡ 1 = spaces_columns blank 1 in
    omega (arith, both, before, one, (column_piece skin.bullet h).one)
prefix_columns skin (ListItemFollowUp depth) h = singles_columns skin.paragraph.compound_style (later_indent skin.list_items_indentation_mode (2 + depth))
prefix_columns skin (OrderedListItem level index) h =
    let blank : CompoundStyle = skin.paragraph.compound_style in
    let style = ordered_item_style skin level in
    let after : List RowPiece = number_piece style.index_style index ∷ char_piece style.index_suffix ∷ prefix_space skin ∷ [] in
    let both : pieces_columns (single_spaces blank level ++ after) ≡ pieces_columns (single_spaces blank level) + pieces_columns after = columns-both (single_spaces blank level) after in
    let before : pieces_columns (single_spaces blank level) ≡ level = singles_columns blank level in
    let one : columns (chars (32 ∷ [])) + 0 ≡ 1 = spaces_columns blank 1 in
    omega (arith, both, before, one, (column_suffix skin level h.1).one, number_columns index h.0)
prefix_columns skin (OrderedListItemFollowUp level index) h = singles_columns skin.paragraph.compound_style (later_indent skin.list_items_indentation_mode (ordered_indent level index))
prefix_columns skin Quote h = let one : columns (chars (32 ∷ [])) + 0 ≡ 1 = spaces_columns skin.paragraph.compound_style 1 in omega (arith, one, (column_piece skin.quote_mark h).one)
prefix_columns skin _ h = refl

-- the lines that follow have a printable prefix too
pub follow_up_printable : (skin : RowSkin) (kind : CompositeKind) → IsSoundPrefix skin kind → IsSoundPrefix skin (follow_up kind)
follow_up_printable skin Quote h = h
follow_up_printable skin _ h = tt
