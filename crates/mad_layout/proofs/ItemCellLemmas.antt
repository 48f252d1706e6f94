-- An item in a cell keeps the premises of what an area shows.
use Rattle.std.proofs.Common.{◌≡◌, ℕ, ◌+◌, ◌<◌, ◌≤◌, Bool, true, false, List, [], ◌∷◌, ◌++◌, map, refl, ap, sym, ◌∙◌, subst, arith}
use Rattle.std.specs.List.{AllByRecursion}
use Rattle.std.specs.Str.{chars, trim_start, trim_end, IsAscii}
use Rattle.std.proofs.Math.Utf8.{encode}
use Rattle.std.proofs.lemmas.Str.{IsUtf8-from_ascii, chars-IsAscii}
use Rattle.std.proofs.lemmas.Str.Ascii.{IsAscii-cons}
use Rattle.mad_characters.specs.Columns.{char_columns}
use Rattle.mad_characters.proofs.CharColumns.{char_columns-ascii}
use Rattle.mad_md.specs.Flagged.{unflagged, flagged}
use Rattle.mad_md.specs.Lines.{StyledRuns, LineContent, table_row}
use Rattle.mad_md.specs.Cells.{AreCells, IsCell, part_says}
use Rattle.mad_md.specs.Inline.{byte}
use Rattle.mad_md.specs.Parts.{HasNoNewline}
use Rattle.mad_md.specs.Spans.{StyledSpans, LineSpans, table_row_at, content_at}
use Rattle.mad_md.specs.Reading.{IsReading, IsRead, unread_text}
use Rattle.mad_md.specs.declared.composite.CompositeStyle.TheVariants.{ListItem}
use Rattle.mad_style.specs.Kinds.{kind_of}
use Rattle.mad_widths.specs.ColumnWidths.{needs_of, column_widths}
use Rattle.mad_measure.specs.TextColumns.{width_of}
use Rattle.mad_layout.specs.ItemCells.{item_in_a_cell, hanging_skin, ItemInACellKeepsPremises}
use Rattle.mad_layout.specs.Premises.{IsColumnChar, AreRuleChars, IsPrintableText, AreBordersShown, ArePrintableIn, KeepsPremises, runs_text}
use Rattle.mad_rows.specs.Rows.{rule_chars}
use Rattle.mad_layout.specs.Sources.{TakesColumns}
use Rattle.mad_layout.specs.TableColumns.{cell_columns, kept_widths}
use Rattle.mad_blocks.specs.TextParts.{lines_in_parts}
use Rattle.mad_format.specs.declared.table.RelativePosition.{RelativePosition}
use Rattle.mad_format.specs.declared.table.RelativePosition.TheVariants.{Top, Other, Bottom}
use Rattle.mad_layout.proofs.KindLemmas.{no_newline, letter_ascii}
use Rattle.mad_layout.proofs.ColumnChars.{ascii_column}
use Rattle.mad_layout.proofs.SourceLemmas.{printable_run}

-- ---- what is read

abbrev letters : List ℕ
letters = 97 ∷ 98 ∷ 99 ∷ 100 ∷ []

abbrev item : StyledRuns
item = record { style = ListItem 0; runs = record { flags = unflagged; text = letters } ∷ [] }

abbrev item_read : List LineContent
item_read = table_row (item ∷ []) ∷ []

-- where it is
abbrev item_span : StyledSpans
item_span = record { style = ListItem 0; spans = record { flags = unflagged; start = 3; end = 7 } ∷ [] }

abbrev item_spans : List LineSpans
item_spans = table_row_at (item_span ∷ []) ∷ []

abbrev cell_text : List ℕ
cell_text = 42 ∷ 32 ∷ letters

item_unbroken : HasNoNewline item_in_a_cell
item_unbroken = no_newline item_in_a_cell (omega arith, (omega arith, (omega arith, (omega arith, (omega arith, (omega arith, (omega arith, tt)))))))

no_bar : (odd : Bool) (b : ℕ) → b < 124 → b ≡ 124 → odd ≡ true
no_bar odd b low is = absurd (omega (arith, low, is))

text_cut : AreCells cell_text (cell_text ∷ [])
text_cut = record {
  some = omega arith;
  joined = refl;
  kept = (
    (no_bar _ 42 (omega arith), (no_bar _ 32 (omega arith), (no_bar _ 97 (omega arith), (no_bar _ 98 (omega arith), (no_bar _ 99 (omega arith), (no_bar _ 100 (omega arith), tt)))))),
    tt,
  );
  closed = tt;
}

cell_read : IsCell item_in_a_cell 1 cell_text item_span
unfolding trim_start trim_end chars encode
cell_read = record {
  reading = byte 97 ∷ byte 98 ∷ byte 99 ∷ byte 100 ∷ [];
  reads = record { spells = refl; marked = (refl, (refl, (refl, (refl, tt)))) };
  says = refl;
}

row_said : table_row_at (item_span ∷ []) ≡ part_says (cell_text ∷ []) (item_span ∷ [])
unfolding trim_start trim_end chars encode
row_said = refl

item_reading : IsReading (unread_text false item_in_a_cell) item_spans
item_reading = record {
  parts = item_in_a_cell ∷ [];
  cut = record { some = omega arith; joined = refl; cut = (item_unbroken, tt) };
  are = (table_row_at (item_span ∷ []), unflagged, [], refl, (record { texts = cell_text ∷ []; cut = text_cut; cells = item_span ∷ []; read = (cell_read, tt); says = row_said }, refl), refl);
}

lines_are_item : (lines : List LineContent) → IsRead (unread_text false item_in_a_cell) lines → lines ≡ item_read
lines_are_item lines h = h.says ∙ ap (map (content_at item_in_a_cell)) (sym (h.only item_spans item_reading))

-- ---- its characters

letters_ascii : IsAscii letters
letters_ascii = IsAscii-cons 97 (98 ∷ 99 ∷ 100 ∷ []) (omega arith) (IsAscii-cons 98 (99 ∷ 100 ∷ []) (omega arith) (IsAscii-cons 99 (100 ∷ []) (omega arith) (letter_ascii 100 (omega arith))))

one : (c : ℕ) → 32 ≤ c → c < 127 → char_columns c ≡ 1
one c low high = char_columns-ascii c low high

letters_columns : TakesColumns letters
letters_columns = record {
  utf8 = IsUtf8-from_ascii letters letters_ascii;
  columns = subst (AllByRecursion (λ c. 0 < char_columns c)) (sym (chars-IsAscii letters letters_ascii))
      (omega (arith, one 97 (omega arith) (omega arith)), (omega (arith, one 98 (omega arith) (omega arith)), (omega (arith, one 99 (omega arith) (omega arith)), (omega (arith, one 100 (omega arith) (omega arith)), tt))));
}

four : width_of (runs_text item.runs) ≡ 4
four =
    let text : width_of (runs_text item.runs) ≡ char_columns 97 + (char_columns 98 + (char_columns 99 + (char_columns 100 + 0))) = ap (λ (cs : List ℕ). width_of (flagged unflagged cs ++ [])) (chars-IsAscii letters letters_ascii) in
    omega (arith, text, one 97 (omega arith) (omega arith), one 98 (omega arith) (omega arith), one 99 (omega arith) (omega arith), one 100 (omega arith) (omega arith))

-- ---- borders

plus_and_hyphens : AreRuleChars (record { left = 43; horizontal = 45; between = 43; right = 43 })
plus_and_hyphens =
    let plus : IsColumnChar 43 = ascii_column 43 refl (omega arith) (omega arith) in record { left = plus; horizontal = ascii_column 45 refl (omega arith) (omega arith); between = plus; right = plus }

rules : (position : RelativePosition) → AreRuleChars (rule_chars hanging_skin.table_border_chars position)
rules Top = plus_and_hyphens
rules Other = plus_and_hyphens
rules Bottom = plus_and_hyphens

borders : AreBordersShown hanging_skin
borders = record { vertical = ascii_column 124 refl (omega arith) (omega arith); rules = rules }

-- ---- its column

-- the cell takes six columns
six : cell_columns hanging_skin item ≡ 6
six = omega (arith, four)

computed : column_widths 5 (needs_of (6 ∷ []) ∷ []) ≡ 5 ∷ []
unfolding column_widths
computed = refl

five : kept_widths hanging_skin 7 item_read ≡ 5 ∷ []
five = ap (λ (n : ℕ). column_widths 5 (needs_of (n ∷ []) ∷ [])) six ∙ computed

printable_item : IsPrintableText hanging_skin 5 (kind_of item.style) item.runs
printable_item = record {
  prefix = ascii_column 42 refl (omega arith) (omega arith);
  printable = (printable_run unflagged letters letters_columns, tt);
  room = λ wide. record {
    indent = omega arith;
    each = subst (λ (cs : List ℕ). AllByRecursion (λ x. 4 + char_columns x.char ≤ 5) (flagged unflagged cs ++ [])) (sym (chars-IsAscii letters letters_ascii))
        (omega (arith, one 97 (omega arith) (omega arith)), (omega (arith, one 98 (omega arith) (omega arith)), (omega (arith, one 99 (omega arith) (omega arith)), (omega (arith, one 100 (omega arith) (omega arith)), tt))));
  };
}

-- an item in a cell keeps the premises at a width of seven columns
pub item_in_a_cell_keeps_premises : ItemInACellKeepsPremises
item_in_a_cell_keeps_premises lines h =
    subst (λ (ls : List LineContent). KeepsPremises hanging_skin 7 (lines_in_parts ls)) (sym (lines_are_item lines h))
    ((omega arith, borders, subst (λ (vs : List ℕ). ArePrintableIn hanging_skin vs (item ∷ [])) (sym five) (printable_item, tt)), tt)
