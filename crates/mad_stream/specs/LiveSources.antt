-- Sources whose Markdown text is shown as it comes, on a terminal that scrolls.
use Rattle.std.specs.Prelude.{◌≡◌, ◌⊎◌, ℕ, ◌+◌, ◌<◌, ◌≤◌, List, [], ◌++◌, length, Option, Result, Ok, Err, IsUtf8}
use Rattle.mad_term.specs.Trace.{Trace, failed}
use Rattle.mad_screen.specs.Glyph.{Glyph}
use Rattle.mad_live.specs.Papers.{Paper, Reads, blank_line}
use Rattle.mad_live.specs.LiveRows.{AreBlank, AreLast, Shows}
use Rattle.mad_rows.specs.declared.row_skin.RowSkin.{RowSkin}
use Rattle.mad_stream.specs.LiveTexts.{IsLaidOut, FitsRows, without_last}
use Rattle.mad_stream.specs.SteadyPieces.{growing, steadied}
use Rattle.mad_stream.specs.Sources.{IsReadOut, IsNoText, Streamed}
use Rattle.mad_stream.specs.declared.source_error.SourceError.{SourceError}
use Rattle.mad_stream.specs.declared.source_error.SourceError.TheVariants.{Source, Device, NotUtf8, Memory}

-- ---- what is shown of a text

-- each front of the text that is shown fits the terminal's columns
abbrev pub FitsAsItGrows : ℕ → RowSkin → Option ℕ → List ℕ → Type 0
FitsAsItGrows columns skin width shown = (front later : List ℕ) → IsUtf8 front → shown ≡ front ++ later → FitsRows columns skin width front

-- The terminal has the rows of a layout of the text, below those above: the rows that are done, and of the others the last ones, as many as the screen has.
pub record ShowsSoFar (columns height : ℕ) (above : List (List Glyph)) (skin : RowSkin) (width : Option ℕ) (text : List ℕ) (p : Paper) : Type 0 where
  pub done : List ℕ
  pub left : List ℕ
  pub rows : IsLaidOut skin width text (done ++ left)
  pub tail : List ℕ
  pub last : AreLast height (without_last left) tail
  pub shows : Shows columns above (done ++ tail) p

-- A terminal that reads these bytes has something of a text, below what it had: where its cursor was at the beginning of a blank row, all below was blank, the
-- screen has as many rows as was said at least, and the text fits its columns.
abbrev pub LeadsTo : RowSkin → Option ℕ → ℕ → List ℕ → List ℕ → (ℕ → Paper → Paper → Type 0) → Type 0
LeadsTo skin width height text bytes Has =
    (columns : ℕ) (p : Paper) → p.line ≡ blank_line columns → AreBlank columns p.below → height ≤ p.reach + length p.below + 1 → FitsAsItGrows columns skin width text
    → (q : Paper) × Reads p bytes q × Has columns p q

-- ---- how it ends

-- Every terminal has all rows of a layout of the text that was read, made printable and steady, from the first on, and the cursor below. They were flushed.
pub record ShowsAll (skin : RowSkin) (width : Option ℕ) (height : ℕ) (source out source_now out_now : Trace) (s : Streamed source out source_now out_now) : Type 0 where
  pub shows : LeadsTo skin width height (steadied s.text) s.bytes (λ columns p q. (rows : List ℕ) × IsLaidOut skin width (steadied s.text) rows × Shows columns p.above rows q)
  pub some : 0 < s.flushes

-- Every terminal showed the text so far, a front of what was read, or nothing yet. Then some bytes more went out.
pub record ShowsFront (skin : RowSkin) (width : Option ℕ) (height : ℕ) (source out source_now out_now : Trace) (s : Streamed source out source_now out_now) : Type 0 where
  pub text : List ℕ
  pub later : List ℕ
  pub front : s.text ≡ text ++ later
  pub before : List ℕ
  pub cut : List ℕ
  pub bytes : s.bytes ≡ before ++ cut
  pub shows : LeadsTo skin width height (growing text) before (λ columns p q. (before ≡ []) ⊎ ShowsSoFar columns height p.above skin width (growing text) q)

-- All that was read is text, and there is no more.
pub record ShowsWhole (skin : RowSkin) (width : Option ℕ) (height : ℕ) (source out source_now out_now : Trace) : Type 0 where
  pub streamed : Streamed source out source_now out_now
  pub whole : streamed.text ≡ streamed.read
  pub over : IsReadOut streamed.read source_now
  pub shows : ShowsAll skin width height source out source_now out_now streamed

-- What was read is no text. All that is text before was shown.
pub record ShowsUpToNoText (skin : RowSkin) (width : Option ℕ) (height : ℕ) (source out source_now out_now : Trace) : Type 0 where
  pub streamed : Streamed source out source_now out_now
  pub wrong : IsNoText streamed.read source_now
  pub shows : ShowsAll skin width height source out source_now out_now streamed

-- The source failed. All that was text by then was shown.
pub record ShowsUpToFault (skin : RowSkin) (width : Option ℕ) (height : ℕ) (source out source_now out_now : Trace) : Type 0 where
  pub last : Trace
  pub fault : source_now ≡ failed last
  pub streamed : Streamed source out last out_now
  pub shows : ShowsAll skin width height source out last out_now streamed

-- Every terminal showed the text so far, and then the device failed, or memory was refused. The source may have failed before.
pub record StopsShowing (skin : RowSkin) (width : Option ℕ) (height : ℕ) (source out source_now out_now : Trace) : Type 0 where
  pub source_then : Trace
  pub reached : (source_now ≡ source_then) ⊎ (source_now ≡ failed source_then)
  pub streamed : Streamed source out source_then out_now
  pub shows : ShowsFront skin width height source out source_then out_now streamed

-- what a call does that shows a source: what it has read of it, and what went out
abbrev pub ShowsSource : {T : Type 0} → RowSkin → Option ℕ → ℕ → Trace → Trace → Result T SourceError → Trace → Trace → Type 0
ShowsSource skin width height source out (Ok x) source_now out_now = ShowsWhole skin width height source out source_now out_now
ShowsSource skin width height source out (Err (Source e)) source_now out_now = ShowsUpToFault skin width height source out source_now out_now
ShowsSource skin width height source out (Err (Device e)) source_now out_now = (out_then : Trace) × (out_now ≡ failed out_then) × StopsShowing skin width height source out source_now out_then
ShowsSource skin width height source out (Err NotUtf8) source_now out_now = ShowsUpToNoText skin width height source out source_now out_now
ShowsSource skin width height source out (Err Memory) source_now out_now = StopsShowing skin width height source out source_now out_now
