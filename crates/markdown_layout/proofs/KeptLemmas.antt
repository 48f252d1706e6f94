-- Steady and printed sections keep what drawing asks of texts.
use Rattle.std.proofs.Common.{◌≡◌, ◌⊎◌, ℕ, ◌<◌, ◌≤◌, min, nat_lt, nat_le, not, ◌&&◌, ◌==◌, Bool, true, false, cond, if◌then◌else◌, List, [], ◌∷◌, ◌++◌, map, drop, length, Option, Some, None, ⊎_elim, refl, sym, subst, arith, append-nil, ap, ◌∙◌}
use Rattle.std.specs.Char.{IsScalar, is_control, is_whitespace}
use Rattle.std.specs.List.{AllByRecursion, list_all}
use Rattle.std.specs.Str.{IsUtf8, NonePass, NoCharPasses}
use Rattle.std.proofs.lemmas.Bool.{and_from}
use Rattle.std.proofs.lemmas.Bool.Decides.{nat_tests}
use Rattle.std.proofs.lemmas.Str.{IsUtf8-encode, chars-IsAscii, chars-append, chars_from_encodes}
use Rattle.std.proofs.lemmas.Str.Ascii.{IsAscii-cons, IsAscii-nil}
use Rattle.unicode_width.specs.Width.{char_width}
use Rattle.mad_characters.proofs.CharColumns.{char_columns-three}
use Rattle.mad_md.specs.Flagged.{Flags, FlaggedChar, Run, flagged, unflagged}
use Rattle.mad_md.specs.Lines.{StyledRuns, LineContent, normal, table_row, table_rule, horizontal_rule}
use Rattle.mad_steady.specs.Widths.{AreJoinedChars}
use Rattle.mad_steady.proofs.PieceLemmas.{pieces}
use Rattle.mad_screen.specs.Painting.{IsPrinted}
use Rattle.mad_md.specs.declared.composite.CompositeStyle.{CompositeStyle}
use Rattle.mad_md.specs.declared.composite.CompositeStyle.TheVariants.{Paragraph, Header, ListItem, OrderedListItem, ListItemFollowUp, Code, Quote}
use Rattle.mad_style.specs.Kinds.{kind_of}
use Rattle.mad_rows.specs.declared.row_skin.RowSkin.{RowSkin}
use Rattle.mad_layout.specs.TableColumns.{kept_widths}
use Rattle.mad_layout.proofs.ReadParts.{lines_are}
use Rattle.markdown_lines.specs.Printed.{is_obeyed, IsPrintedRun, IsPrintedCell, IsPrintedLine, ArePrinted}
use Rattle.markdown_lines.specs.Steady.{IsSteadyRun, AreSteadyRuns, IsSteadyCell, IsSteadyLine, AreSteadyLines}
use Rattle.std.specs.Prelude.{chars, codes, encode_utf8, IfSome, IsSome}
use Rattle.mad_md.specs.TypedLines.{IsTypedRun, IsTypedText, IsTypedLine}
use Rattle.mad_layout.specs.Premises.{AreJoined, IsPrintableRun, IsPrintableText, ArePrintableIn, IsPrintableContent, KeepsPremises, inner_width, runs_text}
use Rattle.mad_layout.proofs.SourceLemmas.{three-le}
use Rattle.mad_blocks.specs.TextParts.{LineInPart, lines_in_parts}
use Rattle.mad_draw.proofs.ColumnChars.{one_char, printed_char}
use Rattle.mad_draw.specs.Pieces.{IsColumnChar}
use Rattle.mad_layout.proofs.ColumnChars.{ascii_column}
use Rattle.mad_measure.proofs.AllLemmas.{all_joined}
use Rattle.mad_sections.specs.Gutters.{room_at}
use Rattle.mad_sections.specs.Items.{paragraph, colon, label, cell_lines, row_lines, or_blank, item_lines, says_heads, items_of}
use Rattle.mad_sections.specs.Sections.{SectionContent}
use Rattle.mad_sections.specs.TableTexts.{rows_in}
use Rattle.mad_blocks.specs.Tables.{table_rules}
use Rattle.mad_sections.specs.declared.table_rooms.TableRules.{TableRules}
use Rattle.mad_sections.specs.Unfolded.{lacks_room, list_sections, as_list, unfolded_in, unfolded}
use Rattle.mad_sections.specs.declared.gutters.Gutter.{Gutter}
use Rattle.mad_sections.proofs.Choices.{by_bool}
use Rattle.mad_sections.proofs.RoomLemmas.{rooms_last}
use Rattle.mad_dressing.specs.Dressed.{Beside, Put, nothing, rule_below, signs_before, dressed, dressed_by, dressed_page, filled_by, placed_by, put_with}
use Rattle.mad_dressing.specs.PictureSigns.{have_pictures, pictured, pictured_line, pictured_runs, pictured_text, sign_flags, sign_if, sign_text}
use Rattle.mad_dressing.specs.WordMarks.{begin_code, beginnings, begins_strong, end_flags, endings, first_flags, is_rule, mark_if, marked_flags, marked_line, marked_lines, marked_runs, marked_text, start_flags, worded, worded_if}
use Rattle.mad_dressing.specs.declared.page_marks.PageMarks.{PageMarks}
use Rattle.mad_page_rows.specs.FaceLaws.{IsTypedGutter}
use Rattle.mad_page_rows.specs.Faces.{has_ascii_boxes}
use Rattle.mad_page_rows.specs.PageFits.{KeepsRoom, sections_at}
use Rattle.mad_rows.specs.RowStyles.{line_rules, line_style}
use Rattle.mad_format.specs.Indents.{room_of}
use Rattle.mad_wrap.specs.WrapLines.{HasRoom}
use Rattle.mad_wrap.specs.declared.room.Room.{Room}
use Rattle.markdown_reader.specs.Printed.{ArePrintedSections}
use Rattle.markdown_reader.specs.Steady.{AreSteadySections}
use Rattle.markdown_reader.specs.Markdown.{markdown_sections}
use Rattle.markdown_reader.specs.PlainLines.{IsPlainStyle, IsPlainLine, ArePlainLines, ArePlainSections}
use Rattle.markdown_reader.proofs.PlainLemmas.{sections_are_plain}
use Rattle.markdown_layout.specs.KeptPremises.{AreMarksShown, IsTypedSection, KeepPremises}
use Rattle.markdown_layout.proofs.WideColumns.{kept_wide}

-- ---- characters

is_no_control : (c : ℕ) → is_obeyed c ≡ false → ((32 ≤ c) × (c < 127)) ⊎ (160 ≤ c)
is_no_control c h = grind (arith, nat_tests)

width_by : (low wide high : Bool) (w : ℕ) → (low ≡ true → wide ≡ true) → (low ≡ false → high ≡ true) → IsSome (cond low (cond wide (Some 1) None) (cond high (Some w) None))
width_by true true high w f g = refl
width_by true false high w f g = absurd (no (f refl))
  where
    no : false ≡ true → ⊥
    no e = cc
width_by false wide true w f g = refl
width_by false wide false w f g = absurd (no (g refl))
  where
    no : false ≡ true → ⊥
    no e = cc

unobeyed_char : (c : ℕ) → is_obeyed c ≡ false → IsSome (char_width false c)
unfolding char_width
unobeyed_char c h =
    let range = is_no_control c h in
    width_by (nat_lt c 0x7F) (nat_le 0x20 c) (nat_le 0xA0 c) _ (λ low. ⊎_elim (λ r. grind (arith, nat_tests, r.0)) (λ r. grind (arith, nat_tests, r, low)) range) (λ high. ⊎_elim (λ r. grind (arith, nat_tests, r.1, high)) (λ r. grind (arith, nat_tests, r)) range)

printed : (cs : List ℕ) → NonePass is_obeyed cs → IsPrinted cs
printed [] h = tt
printed (c ∷ cs) h = (unobeyed_char c h.0, printed cs h.1)

plain_char : (c : ℕ) → is_obeyed c ≡ false → not (is_control c) ≡ true
plain_char c h = grind (arith, nat_tests)

plain : (cs : List ℕ) → NonePass is_obeyed cs → list_all (λ c. not (is_control c)) cs ≡ true
plain [] h = refl
plain (c ∷ cs) h = and_from (not (is_control c)) (list_all (λ c. not (is_control c)) cs) (plain_char c h.0) (plain cs h.1)

not_blank : (white code : Bool) → not white ≡ true → not (white && not code) ≡ true
not_blank true code h = absurd (no h)
  where
    no : false ≡ true → ⊥
    no e = cc
not_blank false code h = refl

joined : (flags : Flags) (a b : Bool) (cs : List ℕ) → (a ≡ true → b ≡ true) → AreJoinedChars a cs → AreJoined b (flagged flags cs)
joined flags a b [] f h = tt
joined flags a b (c ∷ cs) f h =
    ((λ z. ((h.0 z).0, f (h.0 z).1)), joined flags (not (is_whitespace c)) (not (is_whitespace c && not flags.code)) cs (not_blank (is_whitespace c) flags.code) h.1)

-- what holds of everything holds of each element
every : {A : Type 0} (P : A → Type 0) → ((x : A) → P x) → (xs : List A) → AllByRecursion P xs
every P f [] = tt
every P f (x ∷ xs) = (f x, every P f xs)

-- ---- runs

none_obeyed : (text : List ℕ) → IsUtf8 text → NoCharPasses is_obeyed text → NonePass is_obeyed (chars text)
none_obeyed text utf8 h = subst (NonePass is_obeyed) (chars_from_encodes h.0 text utf8 h.1) h.2

printable : (r : Run) → IsTypedRun r → IsPrintedRun r → IsSteadyRun r → IsPrintableRun r
printable r utf8 h steady =
    let none : NonePass is_obeyed (chars r.text) = none_obeyed r.text utf8 h in
    record {
      printed = printed (chars r.text) none;
      joined = joined r.flags false false (chars r.text) (λ e. e) (pieces (chars r.text) steady [] (chars r.text) [] (sym (append-nil (chars r.text))) refl (plain (chars r.text) none));
    }

all_printable : (runs : List Run) → AllByRecursion IsTypedRun runs → AllByRecursion IsPrintedRun runs → AreSteadyRuns runs → AllByRecursion IsPrintableRun runs
all_printable [] t p s = tt
all_printable (r ∷ runs) t p s = (printable r t.0 p.0 s.0, all_printable runs t.1 p.1 s.1)

-- ---- lines

-- a paragraph whose runs are printable
record IsFineCell (cell : StyledRuns) : Type 0 where
  style : cell.style ≡ Paragraph
  runs : AllByRecursion IsPrintableRun cell.runs

-- a line without a sign of its own, each of whose runs is printable
record IsFineText (text : StyledRuns) : Type 0 where
  style : IsPlainStyle text.style
  runs : AllByRecursion IsPrintableRun text.runs

abbrev IsFine : LineContent → Type 0
IsFine (normal text) = IsFineText text
IsFine (table_row cells) = AllByRecursion IsFineCell cells
IsFine (table_rule aligns) = Unit {0}
IsFine horizontal_rule = Unit {0}

all_cells : (cells : List StyledRuns) → AllByRecursion IsTypedText cells → AllByRecursion IsPrintedCell cells → AllByRecursion IsSteadyCell cells → AllByRecursion (λ (cell : StyledRuns). cell.style ≡ Paragraph) cells → AllByRecursion IsFineCell cells
all_cells [] t p s plain = tt
all_cells (cell ∷ cells) t p s plain = (record { style = plain.0; runs = all_printable cell.runs t.0.runs p.0 s.0 }, all_cells cells t.1 p.1 s.1 plain.1)

fine : (line : LineContent) → IsTypedLine line → IsPrintedLine line → IsSteadyLine line → IsPlainLine line → IsFine line
fine (normal text) t p s plain = record { style = plain; runs = all_printable text.runs t.runs p s }
fine (table_row cells) t p s plain = all_cells cells t p s plain
fine (table_rule aligns) t p s plain = tt
fine horizontal_rule t p s plain = tt

all_fine : (text : List LineContent) → AllByRecursion IsTypedLine text → ArePrinted text → AreSteadyLines text → ArePlainLines text → AllByRecursion IsFine text
unfolding ArePrinted AreSteadyLines
all_fine [] t p s plain = tt
all_fine (line ∷ text) t p s plain = (fine line t.0 p.0 s.0 plain.0, all_fine text t.1 p.1 s.1 plain.1)

-- ---- room

-- runs behind no sign have room in three columns
runs_room : (room : Room) (text : List FlaggedChar) → room.first ≡ 0 → room.other ≡ 0 → 3 ≤ room.width → HasRoom room text
runs_room room text first other wide = record {
  indent = omega (arith, first, other);
  each = every _ (λ (x : FlaggedChar). let few = char_columns-three x.char in omega (arith, first, other, wide, few)) text;
}

text_printable : (skin : RowSkin) (width : ℕ) (style : CompositeStyle) (runs : List Run) → 3 ≤ width → IsPlainStyle style → AllByRecursion IsPrintableRun runs → IsPrintableText skin width (kind_of style) runs
text_printable skin width Paragraph runs wide h k = record { prefix = tt; printable = k; room = λ _. runs_room (room_of (line_rules skin) (kind_of Paragraph) width) (runs_text runs) refl refl wide }
text_printable skin width (Header level) runs wide h k = record { prefix = tt; printable = k; room = λ _. runs_room (room_of (line_rules skin) (kind_of (Header level)) width) (runs_text runs) refl refl wide }
text_printable skin width Code runs wide h k = record { prefix = tt; printable = k; room = λ _. runs_room (room_of (line_rules skin) (kind_of Code) width) (runs_text runs) refl refl wide }
text_printable skin width (ListItem level) runs wide h k = absurd h
text_printable skin width (OrderedListItem level index) runs wide h k = absurd h
text_printable skin width (ListItemFollowUp level) runs wide h k = absurd h
text_printable skin width Quote runs wide h k = absurd h

cells_keep : (skin : RowSkin) (widths : List ℕ) (cells : List StyledRuns) → AllByRecursion (λ (w : ℕ). 3 ≤ w) widths → AllByRecursion IsFineCell cells → ArePrintableIn skin widths cells
cells_keep skin [] cells wide h = tt
cells_keep skin (w ∷ ws) [] wide h = tt
cells_keep skin (w ∷ ws) (cell ∷ cells) wide h =
    (subst (λ (style : CompositeStyle). IsPrintableText skin w (kind_of style) cell.runs) (sym h.0.style) (text_printable skin w Paragraph cell.runs wide.0 tt h.0.runs), cells_keep skin ws cells wide.1 h.1)

line_keeps : (skin : RowSkin) (width : ℕ) (part : List LineContent) (line : LineContent) → 3 ≤ width → AreMarksShown skin → IsFine line → IsPrintableContent skin width part line
line_keeps skin width part (normal text) wide marks h =
    text_printable skin (inner_width skin width text) text.style text.runs (three-le (line_style skin (kind_of text.style)) width wide) h.style h.runs
line_keeps skin width part (table_row cells) wide marks h = (omega (arith, wide), marks.borders, cells_keep skin (kept_widths skin width part) cells (kept_wide skin width part) h)
line_keeps skin width part (table_rule aligns) wide marks h = (omega (arith, wide), marks.borders)
line_keeps skin width part horizontal_rule wide marks h = marks.rule

lines_keep : (skin : RowSkin) (width : ℕ) (xs : List LineInPart) → 3 ≤ width → AreMarksShown skin → AllByRecursion IsFine (map (λ (x : LineInPart). x.line) xs) → KeepsPremises skin width xs
lines_keep skin width [] wide marks h = tt
lines_keep skin width (x ∷ xs) wide marks h = (line_keeps skin width x.part x.line wide marks h.0, lines_keep skin width xs wide marks h.1)

-- ---- sections

record IsFineSection (s : SectionContent) : Type 0 where
  gutters : AllByRecursion IsTypedGutter s.gutters
  list : IfSome s.list (AllByRecursion IsTypedGutter)
  lines : AllByRecursion IsFine s.lines

section_keeps : (skin : RowSkin) (width : ℕ) (s : SectionContent) → 3 ≤ width → AreMarksShown skin → IsFineSection s → KeepsRoom skin width s
section_keeps skin width s wide marks h =
    let ascii : Bool = has_ascii_boxes skin in
    record {
      gutters = h.gutters;
      premises = lines_keep skin (room_at ascii width s.gutters) (lines_in_parts s.lines) (rooms_last ascii width s.gutters wide) marks (subst (AllByRecursion IsFine) (sym (lines_are s.lines)) h.lines);
    }

sections_keep : (skin : RowSkin) (width : ℕ) (sections : List SectionContent) → 3 ≤ width → AreMarksShown skin → AllByRecursion IsFineSection sections → AllByRecursion (KeepsRoom skin width) sections
sections_keep skin width [] wide marks h = tt
sections_keep skin width (s ∷ sections) wide marks h = (section_keeps skin width s wide marks h.0, sections_keep skin width sections wide marks h.1)

fine_section : (s : SectionContent) → IsTypedSection s → ArePrinted s.lines → AreSteadyLines s.lines → ArePlainLines s.lines → IsFineSection s
fine_section s t p steady plain = record { gutters = t.gutters; list = t.list; lines = all_fine s.lines t.lines p steady plain }

-- ---- what stands beside headings

-- what holds of all of these and those holds of all of these, and of all of those
all_parted : {A : Type 0} (P : A → Type 0) (xs ys : List A) → AllByRecursion P (xs ++ ys) → AllByRecursion P xs × AllByRecursion P ys
all_parted P [] ys h = (tt, h)
all_parted P (x ∷ xs) ys h = let rest = all_parted P xs ys h.1 in ((h.0, rest.0), rest.1)

beside_fine : (beside : Beside) (s : SectionContent) → AllByRecursion IsTypedSection (placed_by beside s) → AllByRecursion IsFine s.lines → AllByRecursion IsFineSection (placed_by beside s)
beside_fine nothing s t own = (record { gutters = t.0.gutters; list = t.0.list; lines = own }, tt)
beside_fine (rule_below gutters) s t own = (record { gutters = t.0.gutters; list = t.0.list; lines = own }, (record { gutters = t.1.0.gutters; list = tt; lines = (tt, tt) }, tt))
beside_fine (signs_before gutters) s t own = (record { gutters = t.0.gutters; list = t.0.list; lines = own }, tt)

lines_typed : (beside : Beside) (s : SectionContent) → AllByRecursion IsTypedSection (placed_by beside s) → AllByRecursion IsTypedLine s.lines
lines_typed nothing s t = t.0.lines
lines_typed (rule_below gutters) s t = t.0.lines
lines_typed (signs_before gutters) s t = t.0.lines

-- ---- marks at words

-- a mark is printable
mark_fine : (c : ℕ) → IsScalar c → 32 ≤ c → c < 127 → IsPrintableRun (record { flags = unflagged; text = c ∷ [] })
mark_fine c scalar low high =
    let cs : chars (c ∷ []) ≡ c ∷ [] = chars-IsAscii (c ∷ []) (IsAscii-cons c [] (omega (arith, high)) IsAscii-nil) in
    let column = ascii_column c scalar low high in
    record {
      printed = subst IsPrinted (sym cs) (printed (c ∷ []) (printed_ascii c low high, tt));
      joined = subst (λ (text : List ℕ). AreJoined false (flagged unflagged text)) (sym cs) ((λ none. absurd (omega (arith, none, column.one))), tt);
    }
  where
    printed_ascii : (c : ℕ) → 32 ≤ c → c < 127 → is_obeyed c ≡ false
    printed_ascii c low high = grind (arith, nat_tests, low, high)

there_fine : (there : Bool) (c : ℕ) → IsScalar c → 32 ≤ c → c < 127 → AllByRecursion IsPrintableRun (mark_if there (c ∷ []))
there_fine true c scalar low high = (mark_fine c scalar low high, tt)
there_fine false c scalar low high = tt

beginnings_fine : (before own : Flags) → AllByRecursion IsPrintableRun (beginnings before own)
beginnings_fine before own =
    let link = own.link && not before.link in
    let italic = own.italic && not before.italic in
    let bold = own.bold && not before.bold in
    let strikeout = own.strikeout && not before.strikeout in
    let code = own.code && not before.code in
    all_joined IsPrintableRun (mark_if link (codes "[")) _ (there_fine link 91 refl (omega arith) (omega arith))
    (all_joined IsPrintableRun (mark_if italic (codes "_")) _ (there_fine italic 95 refl (omega arith) (omega arith))
    (all_joined IsPrintableRun (mark_if bold (codes "*")) _ (there_fine bold 42 refl (omega arith) (omega arith))
    (all_joined IsPrintableRun (mark_if strikeout (codes "~")) (mark_if code (codes "`")) (there_fine strikeout 126 refl (omega arith) (omega arith)) (there_fine code 96 refl (omega arith) (omega arith)))))

endings_fine : (own after : Flags) → AllByRecursion IsPrintableRun (endings own after)
endings_fine own after =
    let link = own.link && not after.link in
    let italic = own.italic && not after.italic in
    let bold = own.bold && not after.bold in
    let strikeout = own.strikeout && not after.strikeout in
    let code = own.code && not after.code in
    all_joined IsPrintableRun (mark_if code (codes "`")) _ (there_fine code 96 refl (omega arith) (omega arith))
    (all_joined IsPrintableRun (mark_if strikeout (codes "~")) _ (there_fine strikeout 126 refl (omega arith) (omega arith))
    (all_joined IsPrintableRun (mark_if bold (codes "*")) _ (there_fine bold 42 refl (omega arith) (omega arith))
    (all_joined IsPrintableRun (mark_if italic (codes "_")) (mark_if link (codes "]")) (there_fine italic 95 refl (omega arith) (omega arith)) (there_fine link 93 refl (omega arith) (omega arith)))))

runs_fine : (strong : Bool) (before after : Flags) (runs : List Run) → AllByRecursion IsPrintableRun runs → AllByRecursion IsPrintableRun (marked_runs strong before after runs)
runs_fine strong before after [] h = tt
runs_fine strong before after (run ∷ runs) h =
    let flags = marked_flags strong run in
    let back = endings flags (first_flags strong after runs) in
    let more = marked_runs strong flags after runs in
    all_joined IsPrintableRun (beginnings before flags) (run ∷ (back ++ more)) (beginnings_fine before flags)
    (h.0, all_joined IsPrintableRun back more (endings_fine flags (first_flags strong after runs)) (runs_fine strong flags after runs h.1))

marked_cells_fine : (strong : Bool) (cells : List StyledRuns) → AllByRecursion IsFineCell cells → AllByRecursion IsFineCell (map (marked_text strong unflagged unflagged) cells)
marked_cells_fine strong [] h = tt
marked_cells_fine strong (cell ∷ cells) h = (record { style = h.0.style; runs = runs_fine strong unflagged unflagged cell.runs h.0.runs }, marked_cells_fine strong cells h.1)

marked_fine : (strong : Bool) (before : Flags) (next : List LineContent) (line : LineContent) → IsFine line → IsFine (marked_line strong before next line)
marked_fine strong before next (normal said) h = record { style = h.style; runs = runs_fine strong before (start_flags next) said.runs h.runs }
marked_fine strong before next (table_row cells) h = marked_cells_fine strong cells h
marked_fine strong before next (table_rule aligns) h = tt
marked_fine strong before next horizontal_rule h = tt

all_marked_fine : (strong : Bool) (before : Flags) (lines : List LineContent) → AllByRecursion IsFine lines → AllByRecursion IsFine (marked_lines strong before lines)
all_marked_fine strong before [] h = tt
all_marked_fine strong before (line ∷ lines) h = (marked_fine strong before lines line h.0, all_marked_fine (strong && is_rule line) (end_flags strong line) lines h.1)

-- what is typed with marks is so without them
runs_typed : (strong : Bool) (before after : Flags) (runs : List Run) → AllByRecursion IsTypedRun (marked_runs strong before after runs) → AllByRecursion IsTypedRun runs
runs_typed strong before after [] h = tt
runs_typed strong before after (run ∷ runs) h =
    let flags = marked_flags strong run in
    let back = endings flags (first_flags strong after runs) in
    let more = marked_runs strong flags after runs in
    let own = (all_parted IsTypedRun (beginnings before flags) (run ∷ (back ++ more)) h).1 in
    (own.0, runs_typed strong flags after runs (all_parted IsTypedRun back more own.1).1)

cells_typed : (strong : Bool) (cells : List StyledRuns) → AllByRecursion IsTypedText (map (marked_text strong unflagged unflagged) cells) → AllByRecursion IsTypedText cells
cells_typed strong [] h = tt
cells_typed strong (cell ∷ cells) h = (record { style = h.0.style; runs = runs_typed strong unflagged unflagged cell.runs h.0.runs }, cells_typed strong cells h.1)

line_typed : (strong : Bool) (before : Flags) (next : List LineContent) (line : LineContent) → IsTypedLine (marked_line strong before next line) → IsTypedLine line
line_typed strong before next (normal said) h = record { style = h.style; runs = runs_typed strong before (start_flags next) said.runs h.runs }
line_typed strong before next (table_row cells) h = cells_typed strong cells h
line_typed strong before next (table_rule aligns) h = tt
line_typed strong before next horizontal_rule h = tt

marked_typed : (strong : Bool) (before : Flags) (lines : List LineContent) → AllByRecursion IsTypedLine (marked_lines strong before lines) → AllByRecursion IsTypedLine lines
marked_typed strong before [] h = tt
marked_typed strong before (line ∷ lines) h = (line_typed strong before lines line h.0, marked_typed (strong && is_rule line) (end_flags strong line) lines h.1)

-- ---- signs in front of pictures

-- the sign and the space behind it are printable
sign_fine : (sign : ℕ) → IsColumnChar sign → IsPrintableRun (record { flags = sign_flags; text = sign_text sign })
sign_fine sign column =
    let last : chars (32 ∷ []) ≡ 32 ∷ [] = chars-IsAscii (32 ∷ []) (IsAscii-cons 32 [] (omega arith) IsAscii-nil) in
    let cs : chars (sign_text sign) ≡ sign ∷ 32 ∷ [] =
    chars-append (encode_utf8 sign) (32 ∷ []) (IsUtf8-encode sign column.scalar) ∙ ap (λ (l : List ℕ). l ++ chars (32 ∷ [])) (one_char sign column.scalar) ∙ ap (λ (l : List ℕ). sign ∷ l) last in
    let space = ascii_column 32 refl (omega arith) (omega arith) in
    record {
      printed = subst IsPrinted (sym cs) (printed_char sign column.one, (printed_char 32 space.one, tt));
      joined = subst (λ (text : List ℕ). AreJoined false (flagged sign_flags text)) (sym cs)
          ((λ none. absurd (omega (arith, none, column.one))), ((λ none. absurd (omega (arith, none, space.one))), tt));
    }

-- what is there in front of pictures
abbrev IsFineSign : Option (List ℕ) → Type 0
IsFineSign None = Unit {0}
IsFineSign (Some sign) = IsPrintableRun (record { flags = sign_flags; text = sign })

sign_by : (sign : ℕ) (code have : Bool) → IsColumnChar sign → IsFineSign (if code then None else if have then Some (sign_text sign) else None)
sign_by sign true have column = tt
sign_by sign false true column = sign_fine sign column
sign_by sign false false column = tt

if_signed : (there : Bool) (sign : List ℕ) → IsPrintableRun (record { flags = sign_flags; text = sign }) → AllByRecursion IsPrintableRun (sign_if there sign)
if_signed true sign k = (k, tt)
if_signed false sign k = tt

pictured_runs_fine : (sign : List ℕ) (runs : List Run) → IsPrintableRun (record { flags = sign_flags; text = sign }) → AllByRecursion IsPrintableRun runs → AllByRecursion IsPrintableRun (pictured_runs sign runs)
pictured_runs_fine sign [] k h = tt
pictured_runs_fine sign (run ∷ runs) k h =
    all_joined IsPrintableRun (sign_if run.flags.picture sign) (run ∷ pictured_runs sign runs) (if_signed run.flags.picture sign k) (h.0, pictured_runs_fine sign runs k h.1)

pictured_cells_fine : (sign : List ℕ) (cells : List StyledRuns) → IsPrintableRun (record { flags = sign_flags; text = sign }) → AllByRecursion IsFineCell cells → AllByRecursion IsFineCell (map (pictured_text sign) cells)
pictured_cells_fine sign [] k h = tt
pictured_cells_fine sign (cell ∷ cells) k h = (record { style = h.0.style; runs = pictured_runs_fine sign cell.runs k h.0.runs }, pictured_cells_fine sign cells k h.1)

pictured_line_fine : (sign : List ℕ) (line : LineContent) → IsPrintableRun (record { flags = sign_flags; text = sign }) → IsFine line → IsFine (pictured_line sign line)
pictured_line_fine sign (normal said) k h = record { style = h.style; runs = pictured_runs_fine sign said.runs k h.runs }
pictured_line_fine sign (table_row cells) k h = pictured_cells_fine sign cells k h
pictured_line_fine sign (table_rule aligns) k h = tt
pictured_line_fine sign horizontal_rule k h = tt

pictured_lines_fine : (sign : List ℕ) (lines : List LineContent) → IsPrintableRun (record { flags = sign_flags; text = sign }) → AllByRecursion IsFine lines → AllByRecursion IsFine (map (pictured_line sign) lines)
pictured_lines_fine sign [] k h = tt
pictured_lines_fine sign (line ∷ lines) k h = (pictured_line_fine sign line k h.0, pictured_lines_fine sign lines k h.1)

pictured_fine : (sign : Option (List ℕ)) (s : SectionContent) → IsFineSign sign → AllByRecursion IsFine s.lines → AllByRecursion IsFine (pictured sign s).lines
pictured_fine None s k h = h
pictured_fine (Some sign) s k h = pictured_lines_fine sign s.lines k h

-- what is typed with signs is so without them
pictured_runs_typed : (sign : List ℕ) (runs : List Run) → AllByRecursion IsTypedRun (pictured_runs sign runs) → AllByRecursion IsTypedRun runs
pictured_runs_typed sign [] h = tt
pictured_runs_typed sign (run ∷ runs) h = let own = (all_parted IsTypedRun (sign_if run.flags.picture sign) (run ∷ pictured_runs sign runs) h).1 in (own.0, pictured_runs_typed sign runs own.1)

pictured_cells_typed : (sign : List ℕ) (cells : List StyledRuns) → AllByRecursion IsTypedText (map (pictured_text sign) cells) → AllByRecursion IsTypedText cells
pictured_cells_typed sign [] h = tt
pictured_cells_typed sign (cell ∷ cells) h = (record { style = h.0.style; runs = pictured_runs_typed sign cell.runs h.0.runs }, pictured_cells_typed sign cells h.1)

pictured_line_typed : (sign : List ℕ) (line : LineContent) → IsTypedLine (pictured_line sign line) → IsTypedLine line
pictured_line_typed sign (normal said) h = record { style = h.style; runs = pictured_runs_typed sign said.runs h.runs }
pictured_line_typed sign (table_row cells) h = pictured_cells_typed sign cells h
pictured_line_typed sign (table_rule aligns) h = tt
pictured_line_typed sign horizontal_rule h = tt

pictured_lines_typed : (sign : List ℕ) (lines : List LineContent) → AllByRecursion IsTypedLine (map (pictured_line sign) lines) → AllByRecursion IsTypedLine lines
pictured_lines_typed sign [] h = tt
pictured_lines_typed sign (line ∷ lines) h = (pictured_line_typed sign line h.0, pictured_lines_typed sign lines h.1)

pictured_typed : (sign : Option (List ℕ)) (s : SectionContent) → AllByRecursion IsTypedLine (pictured sign s).lines → AllByRecursion IsTypedLine s.lines
pictured_typed None s h = h
pictured_typed (Some sign) s h = pictured_lines_typed sign s.lines h

-- ---- sections

worded_fine : (there : Bool) (s : SectionContent) → AllByRecursion IsTypedLine (worded_if there s).lines → ArePrinted s.lines → AreSteadyLines s.lines → ArePlainLines s.lines → AllByRecursion IsFine (worded_if there s).lines
worded_fine true s t p steady own = all_marked_fine (begins_strong s) unflagged s.lines (all_fine s.lines (marked_typed (begins_strong s) unflagged s.lines t) p steady own)
worded_fine false s t p steady own = all_fine s.lines t p steady own

put_fine : (put : Put) (s : SectionContent) → IsFineSign put.sign → AllByRecursion IsTypedSection (dressed_by put s) → ArePrinted s.lines → AreSteadyLines s.lines → ArePlainLines s.lines → AllByRecursion IsFineSection (dressed_by put s)
put_fine put s sign t p steady own =
    let marked : SectionContent = worded put.words s in
    let typed = pictured_typed put.sign marked (lines_typed put.beside (filled_by put s) t) in
    beside_fine put.beside (filled_by put s) t (pictured_fine put.sign marked sign (worded_fine (put.words && not (begin_code s.lines)) s typed p steady own))

fine_sections : (marks : PageMarks) (page : List SectionContent) → IsColumnChar marks.sign → AllByRecursion IsTypedSection (dressed_page marks page) → ArePrintedSections page → AreSteadySections page → ArePlainSections page → AllByRecursion IsFineSection (dressed_page marks page)
unfolding ArePrintedSections AreSteadySections
fine_sections marks [] column t p s plain = tt
fine_sections marks (section ∷ page) column t p s plain =
    let typed = all_parted IsTypedSection (dressed marks section) (dressed_page marks page) t in
    all_joined IsFineSection (dressed marks section) (dressed_page marks page) (put_fine (put_with marks section) section (sign_by marks.sign (begin_code section.lines) (have_pictures section.lines) column) typed.0 p.0 s.0 plain.0)
    (fine_sections marks page column typed.1 p.1 s.1 plain.1)

-- ---- tables as lists

colon_joined : AreJoined false (flagged colon.flags (58 ∷ 32 ∷ []))
colon_joined =
    let first = ascii_column 58 refl (omega arith) (omega arith) in
    let second = ascii_column 32 refl (omega arith) (omega arith) in
    (λ none. absurd (omega (arith, none, first.one)), (λ none. absurd (omega (arith, none, second.one)), tt))

colon_chars : chars colon.text ≡ 58 ∷ 32 ∷ []
colon_chars = chars-IsAscii (58 ∷ 32 ∷ []) (IsAscii-cons 58 (32 ∷ []) (omega arith) (IsAscii-cons 32 [] (omega arith) IsAscii-nil))

colon_printed : IsPrinted (58 ∷ 32 ∷ [])
unfolding char_width
colon_printed = (refl, (refl, tt))

colon_fine : IsPrintableRun colon
colon_fine = record {
  printed = subst IsPrinted (sym colon_chars) colon_printed;
  joined = subst (λ (cs : List ℕ). AreJoined false (flagged colon.flags cs)) (sym colon_chars) colon_joined;
}

label_by : (t : Bool) (runs : List Run) → AllByRecursion IsPrintableRun runs → AllByRecursion IsPrintableRun (if t then [] else runs ++ colon ∷ [])
label_by true runs h = tt
label_by false runs h = all_joined IsPrintableRun runs (colon ∷ []) h (colon_fine, tt)

label_fine : (heads : List StyledRuns) → AllByRecursion IsFineCell heads → AllByRecursion IsPrintableRun (label heads)
label_fine [] h = tt
label_fine (head ∷ heads) h = label_by (length head.runs == 0) head.runs h.0.runs

cell_fine : (label : List Run) (cell : StyledRuns) → AllByRecursion IsPrintableRun label → IsFineCell cell → AllByRecursion IsFine (cell_lines label cell)
cell_fine label cell h k =
    by_bool (λ t. AllByRecursion IsFine (if t then [] else paragraph (label ++ cell.runs) ∷ [])) (length cell.runs == 0) (λ none. tt)
    (λ some. (record { style = tt; runs = all_joined IsPrintableRun label cell.runs h k.runs }, tt))

rest_fine : (heads : List StyledRuns) → AllByRecursion IsFineCell heads → AllByRecursion IsFineCell (drop 1 heads)
rest_fine [] h = tt
rest_fine (head ∷ heads) h = h.1

row_fine : (heads cells : List StyledRuns) → AllByRecursion IsFineCell heads → AllByRecursion IsFineCell cells → AllByRecursion IsFine (row_lines heads cells)
row_fine heads [] h k = tt
row_fine heads (cell ∷ cells) h k =
    all_joined IsFine (cell_lines (label heads) cell) (row_lines (drop 1 heads) cells) (cell_fine (label heads) cell (label_fine heads h) k.0) (row_fine (drop 1 heads) cells (rest_fine heads h) k.1)

or_blank_fine : (lines : List LineContent) → AllByRecursion IsFine lines → AllByRecursion IsFine (or_blank lines)
or_blank_fine [] h = (record { style = tt; runs = tt }, tt)
or_blank_fine (line ∷ lines) h = h

abbrev AreFineItems : List (List LineContent) → Type 0
AreFineItems items = AllByRecursion (λ (lines : List LineContent). AllByRecursion IsFine lines) items

abbrev AreFineRows : List (List StyledRuns) → Type 0
AreFineRows rows = AllByRecursion (λ (cells : List StyledRuns). AllByRecursion IsFineCell cells) rows

each_item : (heads : List StyledRuns) (rows : List (List StyledRuns)) → AllByRecursion IsFineCell heads → AreFineRows rows → AreFineItems (map (item_lines heads) rows)
each_item heads [] h k = tt
each_item heads (cells ∷ rows) h k = (or_blank_fine (row_lines heads cells) (row_fine heads cells h k.0), each_item heads rows h k.1)

items_fine : (room : ℕ) (rows : List (List StyledRuns)) → AreFineRows rows → AreFineItems (items_of room rows)
items_fine room [] h = tt
items_fine room (heads ∷ rows) h =
    by_bool (λ t. AreFineItems (if t then map (item_lines heads) rows else map (item_lines []) (heads ∷ rows))) (says_heads room heads rows)
    (λ said. each_item heads rows h.0 h.1) (λ long. each_item [] (heads ∷ rows) tt h)

rows_fine : (lines : List LineContent) → AllByRecursion IsFine lines → AreFineRows (rows_in lines)
rows_fine [] h = tt
rows_fine (normal text ∷ lines) h = rows_fine lines h.1
rows_fine (table_row cells ∷ lines) h = (h.0, rows_fine lines h.1)
rows_fine (table_rule aligns ∷ lines) h = rows_fine lines h.1
rows_fine (horizontal_rule ∷ lines) h = rows_fine lines h.1

list_fine : (gutters : List Gutter) (fresh : ℕ) (items : List (List LineContent)) → AllByRecursion IsTypedGutter gutters → AreFineItems items → AllByRecursion IsFineSection (list_sections gutters fresh items)
list_fine gutters fresh [] h k = tt
list_fine gutters fresh (lines ∷ items) h k = (record { gutters = h; list = tt; lines = k.0 }, list_fine gutters 0 items h k.1)

shown_fine : (whole : TableRules) (room : ℕ) (list : Option (List Gutter)) (s : SectionContent) → IsFineSection s → IfSome list (AllByRecursion IsTypedGutter) → AllByRecursion IsFineSection (unfolded_in whole (Some room) list s)
shown_fine whole room None s h k = (h, tt)
shown_fine whole room (Some gutters) s h k =
    by_bool (λ t. AllByRecursion IsFineSection (if t then as_list room gutters s else s ∷ [])) (lacks_room whole room s.lines)
    (λ lacks. list_fine gutters (min s.fresh (length s.gutters)) (items_of room (rows_in s.lines)) k (items_fine room (rows_in s.lines) (rows_fine s.lines h.lines)))
    (λ has. (h, tt))

page_fine : (skin : RowSkin) (width : ℕ) (page : List SectionContent) → AllByRecursion IsFineSection page → AllByRecursion IsFineSection (sections_at skin width page)
page_fine skin width [] h = tt
page_fine skin width (s ∷ page) h =
    let ascii : Bool = has_ascii_boxes skin in
    all_joined IsFineSection (unfolded (table_rules (line_rules skin)) ascii (Some width) s) (sections_at skin width page) (shown_fine (table_rules (line_rules skin)) (room_at ascii width s.gutters) s.list s h.0 h.0.list) (page_fine skin width page h.1)

-- steady and printed sections, whose lines have no sign of their own, keep what drawing asks of texts, whatever stands beside headings and in front of pictures
pub keep : (marks : PageMarks) (page : List SectionContent) → IsColumnChar marks.sign → ArePrintedSections page → AreSteadySections page → ArePlainSections page → KeepPremises (dressed_page marks page)
keep marks page column p s plain typed skin width wide shown =
    let shown_page : List SectionContent = dressed_page marks page in
    sections_keep skin width (sections_at skin width shown_page) wide shown (page_fine skin width shown_page (fine_sections marks page column typed p s plain))

-- so do the sections of a text that was read
pub read_keeps : (source : List ℕ) (page : List SectionContent) → page ≡ markdown_sections source → ArePrintedSections page → AreSteadySections page → (marks : PageMarks) → IsColumnChar marks.sign → KeepPremises (dressed_page marks page)
read_keeps source page is p s marks column = keep marks page column p s (subst ArePlainSections (sym is) (sections_are_plain source))
