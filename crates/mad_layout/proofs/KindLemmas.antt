-- A text with lines of several kinds keeps the premises of the headline.
use Rattle.std.proofs.Common.{◌≡◌, ℕ, ◌+◌, ◌<◌, ◌≤◌, false, List, [], ◌∷◌, ◌++◌, map, refl, ap, sym, ◌∙◌, subst, arith}
use Rattle.std.specs.List.{AllByRecursion}
use Rattle.std.specs.Str.{chars, IsAscii}
use Rattle.std.proofs.lemmas.Str.{IsUtf8-from_ascii, chars-IsAscii}
use Rattle.std.proofs.lemmas.Fmt.{length-decimal-le_succ}
use Rattle.std.proofs.lemmas.Str.Ascii.{IsAscii-nil, IsAscii-cons}
use Rattle.mad_characters.specs.Columns.{char_columns}
use Rattle.mad_characters.proofs.CharColumns.{char_columns-ascii}
use Rattle.mad_md.specs.Flagged.{unflagged, flagged}
use Rattle.mad_md.specs.Lines.{StyledRuns, LineContent, normal, horizontal_rule}
use Rattle.mad_md.specs.Spans.{LineSpans, normal_at, horizontal_rule_at, content_at}
use Rattle.mad_md.specs.Reading.{IsReading, AreLines, unread_text}
use Rattle.mad_md.specs.Inline.{byte}
use Rattle.mad_md.specs.Parts.{AreParts, HasNoNewline, line_spans}
use Rattle.mad_md.specs.declared.composite.CompositeStyle.{CompositeStyle}
use Rattle.mad_md.specs.declared.composite.CompositeStyle.TheVariants.{Header, Paragraph, ListItem, OrderedListItem, Code, Quote}
use Rattle.mad_style.specs.Kinds.{kind_of}
use Rattle.mad_measure.specs.TextColumns.{width_of}
use Rattle.mad_format.specs.Indents.{indent}
use Rattle.mad_layout.specs.Premises.{IsPrintablePrefix, IsPrintableText, KeepsPremises, inner_width, runs_text}
use Rattle.mad_layout.specs.SeveralKinds.{ascii_skin, several_kinds, SeveralKindsKeepPremises}
use Rattle.mad_layout.specs.Sources.{TakesColumns}
use Rattle.mad_blocks.specs.TextParts.{lines_in_parts}
use Rattle.mad_layout.proofs.SourceLemmas.{printable_run}
use Rattle.mad_layout.proofs.ColumnChars.{ascii_column}

-- a line of one letter
abbrev letter_line : CompositeStyle → ℕ → StyledRuns
letter_line style c = record { style = style; runs = record { flags = unflagged; text = c ∷ [] } ∷ [] }

abbrev kinds_read : List LineContent
kinds_read =
    normal (letter_line (Header 1) 97) ∷ normal (letter_line Paragraph 98) ∷ normal (letter_line (ListItem 0) 99) ∷ normal (letter_line (OrderedListItem 0 1) 100)
    ∷ normal (letter_line Quote 101) ∷ horizontal_rule ∷ normal (letter_line Code 102) ∷ []

-- where they are
abbrev at_span : CompositeStyle → ℕ → ℕ → LineSpans
at_span style start end = normal_at (record { style = style; spans = record { flags = unflagged; start = start; end = end } ∷ [] })

-- from each line on
abbrev from_code : List LineSpans
from_code = at_span Code 27 28 ∷ []

abbrev from_rule : List LineSpans
from_rule = horizontal_rule_at ∷ from_code

abbrev from_quote : List LineSpans
from_quote = at_span Quote 17 18 ∷ from_rule

abbrev from_number : List LineSpans
from_number = at_span (OrderedListItem 0 1) 13 14 ∷ from_quote

abbrev from_item : List LineSpans
from_item = at_span (ListItem 0) 8 9 ∷ from_number

abbrev from_paragraph : List LineSpans
from_paragraph = at_span Paragraph 4 5 ∷ from_item

abbrev kinds_spans : List LineSpans
kinds_spans = at_span (Header 1) 2 3 ∷ from_paragraph

abbrev fence : List ℕ
fence = 96 ∷ 96 ∷ 96 ∷ []

abbrev kinds_parts : List (List ℕ)
kinds_parts =
    (35 ∷ 32 ∷ 97 ∷ []) ∷ (98 ∷ []) ∷ (42 ∷ 32 ∷ 99 ∷ []) ∷ (49 ∷ 46 ∷ 32 ∷ 100 ∷ []) ∷ (62 ∷ 32 ∷ 101 ∷ []) ∷ (45 ∷ 45 ∷ 45 ∷ []) ∷ fence ∷ (102 ∷ []) ∷ fence ∷ []

-- bytes above 10 are no newline
pub no_newline : (bs : List ℕ) → AllByRecursion (λ b. 10 < b) bs → HasNoNewline bs
no_newline [] h = tt
no_newline (b ∷ bs) h = (λ e. omega (arith, e, h.0), no_newline bs h.1)

kinds_cut : AreParts several_kinds kinds_parts
kinds_cut = record {
  some = omega arith;
  joined = refl;
  cut = (
    no_newline (35 ∷ 32 ∷ 97 ∷ []) (omega arith, (omega arith, (omega arith, tt))),
    (
      no_newline (98 ∷ []) (omega arith, tt),
      (
        no_newline (42 ∷ 32 ∷ 99 ∷ []) (omega arith, (omega arith, (omega arith, tt))),
        (
          no_newline (49 ∷ 46 ∷ 32 ∷ 100 ∷ []) (omega arith, (omega arith, (omega arith, (omega arith, tt)))),
          (
            no_newline (62 ∷ 32 ∷ 101 ∷ []) (omega arith, (omega arith, (omega arith, tt))),
            (
              no_newline (45 ∷ 45 ∷ 45 ∷ []) (omega arith, (omega arith, (omega arith, tt))),
              (no_newline fence (omega arith, (omega arith, (omega arith, tt))), (no_newline (102 ∷ []) (omega arith, tt), (no_newline fence (omega arith, (omega arith, (omega arith, tt))), tt))),
            ),
          ),
        ),
      ),
    ),
  );
}

kinds_are : AreLines several_kinds false false unflagged (line_spans kinds_parts) kinds_spans
kinds_are = (
  at_span (Header 1) 2 3,
  unflagged,
  from_paragraph,
  refl,
  (unflagged, record { reading = byte 97 ∷ []; reads = record { spells = refl; marked = (refl, tt) }; says = refl; ends = refl }, refl),
  (
    at_span Paragraph 4 5,
    unflagged,
    from_item,
    refl,
    record { reading = byte 98 ∷ []; reads = record { spells = refl; marked = (refl, tt) }; says = refl; ends = refl },
    (
      at_span (ListItem 0) 8 9,
      unflagged,
      from_number,
      refl,
      record { reading = byte 99 ∷ []; reads = record { spells = refl; marked = (refl, tt) }; says = refl; ends = refl },
      (
        at_span (OrderedListItem 0 1) 13 14,
        unflagged,
        from_quote,
        refl,
        record { reading = byte 100 ∷ []; reads = record { spells = refl; marked = (refl, tt) }; says = refl; ends = refl },
        (
          at_span Quote 17 18,
          unflagged,
          from_rule,
          refl,
          record { reading = byte 101 ∷ []; reads = record { spells = refl; marked = (refl, tt) }; says = refl; ends = refl },
          (horizontal_rule_at, unflagged, from_code, refl, (refl, refl), (at_span Code 27 28, unflagged, [], refl, (refl, refl), refl)),
        ),
      ),
    ),
  ),
)

kinds_reading : IsReading (unread_text false several_kinds) kinds_spans
kinds_reading = record { parts = kinds_parts; cut = kinds_cut; are = kinds_are }

says : map (content_at several_kinds) kinds_spans ≡ kinds_read
says = refl

-- a single character below 127 is ASCII
pub letter_ascii : (c : ℕ) → c < 127 → IsAscii (c ∷ [])
letter_ascii c high = IsAscii-cons c [] (omega (arith, high)) IsAscii-nil

-- a single printed ASCII character takes columns
pub letter_columns : (c : ℕ) → 32 ≤ c → c < 127 → TakesColumns (c ∷ [])
letter_columns c low high =
    let one : char_columns c ≡ 1 = char_columns-ascii c low high in
    record {
      utf8 = IsUtf8-from_ascii (c ∷ []) (letter_ascii c high);
      columns = subst (AllByRecursion (λ c. 0 < char_columns c)) (sym (chars-IsAscii (c ∷ []) (letter_ascii c high))) (omega (arith, one), tt);
    }

letter_printable : (style : CompositeStyle) (c : ℕ) → 32 ≤ c → c < 127 → IsPrintablePrefix ascii_skin (kind_of style) → indent ascii_skin.list_items_indentation_mode (kind_of style) + 1 ≤ inner_width ascii_skin 11 (letter_line style c)
    → IsPrintableText ascii_skin (inner_width ascii_skin 11 (letter_line style c)) (kind_of style) (letter_line style c).runs
letter_printable style c low high prefix narrow =
    let one : char_columns c ≡ 1 = char_columns-ascii c low high in
    let line : StyledRuns = letter_line style c in
    let cs : chars (c ∷ []) ≡ c ∷ [] = chars-IsAscii (c ∷ []) (letter_ascii c high) in
    let text : width_of (runs_text line.runs) ≡ char_columns c + 0 = ap (λ (cs : List ℕ). width_of (flagged unflagged cs ++ [])) cs in
    record {
      prefix = prefix;
      printable = (printable_run unflagged (c ∷ []) (letter_columns c low high), tt);
      room = λ wide. absurd (omega (arith, wide, text, one, narrow));
    }

-- ---- the skin's characters

-- a text with lines of several kinds keeps the premises at a width of eleven columns
pub several_kinds_keep_premises : SeveralKindsKeepPremises
several_kinds_keep_premises lines h =
    let same : lines ≡ kinds_read = h.says ∙ ap (map (content_at several_kinds)) (sym (h.only kinds_spans kinds_reading)) ∙ says in
    subst (λ (ls : List LineContent). KeepsPremises ascii_skin 11 (lines_in_parts ls)) (sym same) (
      letter_printable (Header 1) 97 (omega arith) (omega arith) tt (omega arith),
      (
        letter_printable Paragraph 98 (omega arith) (omega arith) tt (omega arith),
        (
          letter_printable (ListItem 0) 99 (omega arith) (omega arith) (ascii_column 42 refl (omega arith) (omega arith)) (omega arith),
          (
            letter_printable (OrderedListItem 0 1) 100 (omega arith) (omega arith) (ascii_column 46 refl (omega arith) (omega arith)) (omega (arith, length-decimal-le_succ 1 (omega arith))),
            (
              letter_printable Quote 101 (omega arith) (omega arith) (ascii_column 62 refl (omega arith) (omega arith)) (omega arith),
              (ascii_column 45 refl (omega arith) (omega arith), (letter_printable Code 102 (omega arith) (omega arith) tt (omega arith), tt)),
            ),
          ),
        ),
      ),
    )
