-- Sources of Markdown as people write it that are shown as they come, on a terminal that scrolls.
use Rattle.std.specs.Prelude.{◌≡◌, ◌⊎◌, ℕ, ◌+◌, ◌<◌, ◌≤◌, List, [], ◌++◌, length, Option, Result, Ok, Err, IsUtf8}
use Rattle.mad_live.specs.LiveRows.{AreBlank, Shows}
use Rattle.mad_live.specs.Papers.{Paper, Reads, blank_line}
use Rattle.mad_page_skin.specs.declared.page_skin.PageSkin.{PageSkin}
use Rattle.mad_stream.specs.Sources.{IsReadOut, IsNoText, Streamed}
use Rattle.mad_stream.specs.declared.source_error.SourceError.{SourceError}
use Rattle.mad_stream.specs.declared.source_error.SourceError.TheVariants.{Source, Device, NotUtf8, Memory}
use Rattle.mad_term.specs.Trace.{Trace, failed}
use Rattle.markdown_live.specs.LiveMarkdowns.{Fit, FitsSoFar, ShowsRows}
use Rattle.markdown_stream.specs.Streams.{IsStreamed, streamed_page}

-- ---- what is shown of a text

-- the text fits the terminal's columns as far as it has come
abbrev pub FitsAsItComes : PageSkin → Option ℕ → List ℕ → ℕ → Type 0
FitsAsItComes skin width text columns = (front later : List ℕ) → IsUtf8 front → text ≡ front ++ later → FitsSoFar columns skin width front

-- so it does, and as a whole
pub record FitsWhole (skin : PageSkin) (width : Option ℕ) (text : List ℕ) (columns : ℕ) : Type 0 where
  pub comes : FitsAsItComes skin width text columns
  pub whole : Fit columns skin width (streamed_page text)

-- A terminal that reads these bytes has something of a text, below what it had: where its cursor was at the beginning of a blank row, all below was blank, the
-- screen has as many rows as was said at least, and the text fits its columns.
abbrev pub LeadsTo : (ℕ → Type 0) → ℕ → List ℕ → (ℕ → Paper → Paper → Type 0) → Type 0
LeadsTo Fits height bytes Has =
    (columns : ℕ) (p : Paper) → p.line ≡ blank_line columns → AreBlank columns p.below → height ≤ p.reach + length p.below + 1 → Fits columns
    → (q : Paper) × Reads p bytes q × Has columns p q

-- what the terminal shows of the text so far: rows that are done, and the last ones of what is growing
abbrev pub HasSoFar : PageSkin → Option ℕ → ℕ → List ℕ → ℕ → Paper → Paper → Type 0
HasSoFar skin width height text columns p q =
    (done : List ℕ) × (tail : List ℕ) × ShowsRows columns (p.reach + length p.below + 1) p.above [] text skin width height done tail q

-- ---- how it ends

-- Every terminal has all rows of the page of the text that was read, from the first on, and the cursor below. They were flushed.
pub record ShowsAll (skin : PageSkin) (width : Option ℕ) (height : ℕ) (source out source_now out_now : Trace) (s : Streamed source out source_now out_now) : Type 0 where
  pub shows : LeadsTo (FitsWhole skin width s.text) height s.bytes (λ columns p q. (rows : List ℕ) × IsStreamed skin width s.text rows × Shows columns p.above rows q)
  pub some : 0 < s.flushes

-- Every terminal showed the text so far, a front of what was read, or nothing yet. Then some bytes more went out.
pub record ShowsFront (skin : PageSkin) (width : Option ℕ) (height : ℕ) (source out source_now out_now : Trace) (s : Streamed source out source_now out_now) : Type 0 where
  pub text : List ℕ
  pub later : List ℕ
  pub front : s.text ≡ text ++ later
  pub before : List ℕ
  pub cut : List ℕ
  pub bytes : s.bytes ≡ before ++ cut
  pub shows : LeadsTo (FitsAsItComes skin width text) height before
      (λ columns p q. (before ≡ []) ⊎ HasSoFar skin width height text columns p q)

-- All that was read is text, and there is no more.
pub record ShowsWhole (skin : PageSkin) (width : Option ℕ) (height : ℕ) (source out source_now out_now : Trace) : Type 0 where
  pub streamed : Streamed source out source_now out_now
  pub whole : streamed.text ≡ streamed.read
  pub over : IsReadOut streamed.read source_now
  pub shows : ShowsAll skin width height source out source_now out_now streamed

-- What was read is no text. All that is text before was shown.
pub record ShowsUpToNoText (skin : PageSkin) (width : Option ℕ) (height : ℕ) (source out source_now out_now : Trace) : Type 0 where
  pub streamed : Streamed source out source_now out_now
  pub wrong : IsNoText streamed.read source_now
  pub shows : ShowsAll skin width height source out source_now out_now streamed

-- The source failed. All that was text by then was shown.
pub record ShowsUpToFault (skin : PageSkin) (width : Option ℕ) (height : ℕ) (source out source_now out_now : Trace) : Type 0 where
  pub last : Trace
  pub fault : source_now ≡ failed last
  pub streamed : Streamed source out last out_now
  pub shows : ShowsAll skin width height source out last out_now streamed

-- Every terminal showed the text so far, and then the device failed, or memory was refused. The source may have failed before.
pub record StopsShowing (skin : PageSkin) (width : Option ℕ) (height : ℕ) (source out source_now out_now : Trace) : Type 0 where
  pub source_then : Trace
  pub reached : (source_now ≡ source_then) ⊎ (source_now ≡ failed source_then)
  pub streamed : Streamed source out source_then out_now
  pub shows : ShowsFront skin width height source out source_then out_now streamed

-- what a call does that shows a source: what it has read of it, and what went out
abbrev pub ShowsSource : {T : Type 0} → PageSkin → Option ℕ → ℕ → Trace → Trace → Result T SourceError → Trace → Trace → Type 0
ShowsSource skin width height source out (Ok x) source_now out_now = ShowsWhole skin width height source out source_now out_now
ShowsSource skin width height source out (Err (Source e)) source_now out_now = ShowsUpToFault skin width height source out source_now out_now
ShowsSource skin width height source out (Err (Device e)) source_now out_now = (out_then : Trace) × (out_now ≡ failed out_then) × StopsShowing skin width height source out source_now out_then
ShowsSource skin width height source out (Err NotUtf8) source_now out_now = ShowsUpToNoText skin width height source out source_now out_now
ShowsSource skin width height source out (Err Memory) source_now out_now = StopsShowing skin width height source out source_now out_now
