-- A text in which each character takes columns is read as lines that keep the premises.
use Rattle.std.proofs.Common.{◌≡◌, ℕ, zero, suc, ◌-◌, ◌<◌, ◌≤◌, Bool, false, List, [], ◌∷◌, ◌++◌, map, drop, take, Option, Some, None, Result, Ok, Err, OnOk, refl, ap, sym, ◌∙◌, subst, arith}
use Rattle.std.specs.Prelude.{IsSome, not, unwrap_or, slice_range}
use Rattle.std.specs.List.{AllByRecursion}
use Rattle.std.specs.Str.{chars, IsUtf8}
use Rattle.std.proofs.lemmas.Bool.Decides.{nat_tests}
use Rattle.std.proofs.lemmas.List.{take-append-drop}
use Rattle.std.proofs.lemmas.Str.{chars-append, IsUtf8-take, IsUtf8-between}
use Rattle.unicode_width.specs.Width.{char_width}
use Rattle.mad_characters.specs.Columns.{char_columns}
use Rattle.mad_characters.proofs.CharColumns.{char_columns-three}
use Rattle.mad_md.specs.Flagged.{Flags, FlaggedChar, RunSpan, flagged, is_blank, run_at}
use Rattle.mad_md.specs.Inline.{Item, runs, IsInlineReading}
use Rattle.mad_md.specs.Lines.{LineContent}
use Rattle.mad_md.specs.Parts.{LineSpan, line_spans, line_text}
use Rattle.mad_md.specs.Reading.{IsRead, unread_text}
use Rattle.mad_md.proofs.ParagraphLemmas.{AreInlineLines, paragraphs_read}
use Rattle.mad_md.proofs.RunBorders.{IsBordered, runs_bordered}
use Rattle.mad_md.specs.ReadByMarks.{IsParagraphText}
use Rattle.mad_md.specs.declared.composite.CompositeStyle.TheVariants.{Paragraph}
use Rattle.mad_screen.specs.Painting.{IsPrinted}
use Rattle.mad_term.specs.Trace.{Trace, flushed}
use Rattle.mad_term.proofs.Traces.{took_flushed}
use Rattle.mad_layout.specs.Shown.{AreShownIn}
use Rattle.mad_style.specs.LineStyles.{margins_at}
use Rattle.mad_style.specs.declared.line_styles.LineStyle.{LineStyle}
use Rattle.mad_measure.specs.declared.area.Area.{Area}
use Rattle.mad_measure.proofs.AllLemmas.{all_front, all_back, all_each}
use Rattle.mad_layout.specs.InArea.{ShowsText}
use Rattle.mad_style.specs.Kinds.{kind_of}
use Rattle.mad_layout.specs.Premises.{AreJoined, IsPrintableRun, IsPrintableText, IsPrintableContent, KeepsPremises, inner_width, runs_text}
use Rattle.mad_blocks.specs.TextParts.{LineInPart, lines_in_parts}
use Rattle.mad_layout.specs.Sources.{TakesColumns, LinesTakeColumns, ShowsSource}
use Rattle.mad_rows.specs.declared.row_skin.RowSkin.{RowSkin}
use Rattle.mad_layout.proofs.ReadParts.{lines_are}

-- ---- a run

some_of : (o : Option ℕ) → 0 < unwrap_or o 0 → IsSome o
some_of None h = absurd (omega (arith, h))
some_of (Some n) h = refl

printed_char : (c : ℕ) → 0 < char_columns c → IsSome (char_width false c)
unfolding char_columns
printed_char c h = some_of (char_width false c) h

printed : (cs : List ℕ) → AllByRecursion (λ c. 0 < char_columns c) cs → IsPrinted cs
printed [] h = tt
printed (c ∷ cs) h = (printed_char c h.0, printed cs h.1)

unjoined : (flags : Flags) (cs : List ℕ) → AllByRecursion (λ c. 0 < char_columns c) cs → (before : Bool) → AreJoined before (flagged flags cs)
unjoined flags [] h before = tt
unjoined flags (c ∷ cs) h before = (λ none. absurd (omega (arith, none, h.0)), unjoined flags cs h.1 (not (is_blank (record { char = c; flags = flags }))))

-- a run in which each character takes columns is printable
pub printable_run : (flags : Flags) (text : List ℕ) → TakesColumns text → IsPrintableRun (record { flags = flags; text = text })
printable_run flags text h = record { printed = printed (chars text) h.columns; joined = unjoined flags (chars text) h.columns false }

-- ---- a line

piece_columns : (text : List ℕ) (span : RunSpan) → TakesColumns text → IsBordered text span → TakesColumns (slice_range text span.start span.end)
piece_columns text span h borders =
    let later : List ℕ = drop span.start text in
    let utf8 : IsUtf8 (slice_range text span.start span.end) = IsUtf8-between text span.start span.end h.utf8 borders.order borders.first borders.last in
    let cut : chars text ≡ chars (take span.start text) ++ chars later =
    sym (ap chars (take-append-drop span.start text)) ∙ chars-append (take span.start text) later (IsUtf8-take text span.start h.utf8 borders.first) in
    let rest : chars later ≡ chars (slice_range text span.start span.end) ++ chars (drop (span.end - span.start) later) =
    sym (ap chars (take-append-drop (span.end - span.start) later)) ∙ chars-append (slice_range text span.start span.end) (drop (span.end - span.start) later) utf8 in
    let from : AllByRecursion (λ c. 0 < char_columns c) (chars later) =
    all_back (λ c. 0 < char_columns c) (chars (take span.start text)) (chars later) (subst (AllByRecursion (λ c. 0 < char_columns c)) cut h.columns) in
    record { utf8 = utf8; columns = all_front (λ c. 0 < char_columns c) (chars (slice_range text span.start span.end)) _ (subst (AllByRecursion (λ c. 0 < char_columns c)) rest from) }

printable_runs : (text : List ℕ) (spans : List RunSpan) → TakesColumns text → AllByRecursion (IsBordered text) spans → AllByRecursion IsPrintableRun (map (run_at text) spans)
printable_runs text [] h borders = tt
printable_runs text (p ∷ ps) h borders = (printable_run p.flags _ (piece_columns text p h borders.0), printable_runs text ps h borders.1)

every : {A : Type 0} (P : A → Type 0) → ((x : A) → P x) → (xs : List A) → AllByRecursion P xs
every P f [] = tt
every P f (x ∷ xs) = (f x, every P f xs)

-- margins leave three columns at least, where there are as many
pub three-le : (style : LineStyle) (width : ℕ) → 3 ≤ width → 3 ≤ width - (margins_at style (Some width)).0 - (margins_at style (Some width)).1
three-le style width wide = grind (arith, nat_tests)

printable_line : (skin : RowSkin) (width : ℕ) (text : List ℕ) (reading : List Item) → 3 ≤ width → TakesColumns text → IsInlineReading text reading
    → IsPrintableText skin (inner_width skin width (record { style = Paragraph; runs = map (run_at text) (runs reading) })) (kind_of Paragraph) (map (run_at text) (runs reading))
printable_line skin width text reading wide h reads =
    let inner : 3 ≤ inner_width skin width (record { style = Paragraph; runs = map (run_at text) (runs reading) }) = three-le skin.paragraph width wide in
    record {
      prefix = tt;
      printable = printable_runs text (runs reading) h (runs_bordered text reading h.utf8 reads);
      room = λ _. record {
        indent = omega arith;
        each = every _ (λ (x : FlaggedChar). omega (arith, inner, char_columns-three x.char)) (runs_text (map (run_at text) (runs reading)));
      };
    }

-- ---- a text

-- the line keeps the premises in any part
abbrev IsPrintableAnywhere : RowSkin → ℕ → LineContent → Type 0
IsPrintableAnywhere skin width line = (part : List LineContent) → IsPrintableContent skin width part line

lines_keep : (skin : RowSkin) (width : ℕ) (source : List ℕ) (spans : List LineSpan) (lines : List LineContent) → 3 ≤ width
    → AllByRecursion (λ span. TakesColumns (line_text source span)) spans → AreInlineLines source spans lines → AllByRecursion (IsPrintableAnywhere skin width) lines
lines_keep skin width source [] [] wide h reads = tt
lines_keep skin width source (p ∷ ps) (l ∷ ls) wide h reads =
    subst (λ (line : LineContent). AllByRecursion (IsPrintableAnywhere skin width) (line ∷ ls)) (sym reads.0.says)
    (λ part. printable_line skin width _ reads.0.reading wide h.0 reads.0.reads, lines_keep skin width source ps ls wide h.1 reads.1)
lines_keep skin width source _ _ wide h reads = absurd reads

first_keep : (skin : RowSkin) (width n : ℕ) (xs : List LineInPart) → AllByRecursion (IsPrintableAnywhere skin width) (map (λ (x : LineInPart). x.line) xs) → KeepsPremises skin width (take n xs)
first_keep skin width zero xs h = tt
first_keep skin width (suc n) [] h = tt
first_keep skin width (suc n) (x ∷ xs) h = (h.0 x.part, first_keep skin width n xs h.1)

-- such a source is read line by line
pub source_read : (source : List ℕ) (text : List LineContent) → LinesTakeColumns source → (read : IsRead (unread_text false source) text) → AreInlineLines source (line_spans read.reads.parts) text
source_read source text h read =
    let spans : List LineSpan = line_spans read.reads.parts in
    let given = h read.reads.parts read.reads.cut in
    paragraphs_read source text read
    (all_each (λ (p : LineSpan). TakesColumns (line_text source p) × IsParagraphText (line_text source p)) (λ (p : LineSpan). IsUtf8 (line_text source p)) (λ p x. x.0.utf8) spans given)
    (all_each (λ (p : LineSpan). TakesColumns (line_text source p) × IsParagraphText (line_text source p)) (λ (p : LineSpan). IsParagraphText (line_text source p)) (λ p x. x.1) spans given)

-- its first lines keep the premises at any width of three columns or more
pub source_keeps : (skin : RowSkin) (width n : ℕ) (source : List ℕ) (text : List LineContent) → 3 ≤ width → LinesTakeColumns source → IsRead (unread_text false source) text → KeepsPremises skin width (take n (lines_in_parts text))
source_keeps skin width n source text wide h read =
    let spans : List LineSpan = line_spans read.reads.parts in
    first_keep skin width n (lines_in_parts text)
    (subst (AllByRecursion (IsPrintableAnywhere skin width)) (sym (lines_are text)) (lines_keep skin width source spans text wide
    (all_each (λ (p : LineSpan). TakesColumns (line_text source p) × IsParagraphText (line_text source p)) (λ (p : LineSpan). TakesColumns (line_text source p)) (λ p x. x.0) spans (h read.reads.parts read.reads.cut))
    (source_read source text h read)))

-- what an area shows of such a source
pub source_shown : {T E : Type 0} (r : Result T E) (skin : RowSkin) (markdown : List ℕ) (area : Area) (old new : Trace) → OnOk r (4 ≤ area.width → ShowsText skin markdown area old new)
    → OnOk r (4 ≤ area.width → LinesTakeColumns markdown → ShowsSource skin markdown area old new)
source_shown {T} {E} (Ok x) skin markdown area old new h = λ wide columns.
    let text : ShowsText skin markdown area old new = h wide in
    record {
      lines = text.lines;
      laid_out = text.laid_out;
      shown = text.shown (source_keeps skin (area.width - 1) area.height markdown text.laid_out.text (omega (arith, wide)) columns text.laid_out.read);
    }
source_shown {T} {E} (Err e) skin markdown area old new h = tt

-- a flush takes nothing from it
pub source_flushed : (skin : RowSkin) (markdown : List ℕ) (area : Area) (old mid new : Trace) → ShowsSource skin markdown area old mid → new ≡ flushed mid → ShowsSource skin markdown area old new
source_flushed skin markdown area old mid new h e = record {
  lines = h.lines;
  laid_out = h.laid_out;
  shown = took_flushed old mid new (AreShownIn skin None h.lines area 0) h.shown e;
}
