-- The steps of a source of Markdown that is shown as it comes.
use Rattle.std.specs.Prelude.{◌≡◌, ◌⊎◌, ℕ, ◌+◌, ◌≤◌, Bool, true, false, List, [], ◌++◌, length, take, Result, Ok, Err, IsUtf8}
use Rattle.mad_live.specs.LiveRows.{Shows}
use Rattle.mad_live.specs.Papers.{Paper, Reads}
use Rattle.mad_screen.specs.Glyph.{Glyph}
use Rattle.mad_stream.specs.LiveSteps.{StopsAt}
use Rattle.mad_stream.specs.TextFronts.{IsTextFront, BeginNoText}
use Rattle.mad_stream.specs.declared.source_error.SourceError.{SourceError}
use Rattle.mad_term.specs.Trace.{Trace, after, flushed}
use Rattle.markdown_live.specs.LiveMarkdowns.{FeedsLive, Fit, IsLive}
use Rattle.markdown_live.specs.declared.live_markdown.LiveMarkdown.{LiveMarkdown}
use Rattle.markdown_stream.specs.Streams.{IsStreamed, streamed_page}

-- the piece was fed, in the same skin, at the same width, on as many rows
pub record ShowsPiece (old : LiveMarkdown) (piece : List ℕ) (new : LiveMarkdown) (before now : Trace) : Type 0 where
  pub utf8 : IsUtf8 piece
  pub fed : FeedsLive {T = Unit {0}} old piece new before (Ok (tt {0})) now
  pub skin : new.skin ≡ old.skin
  pub width : new.width ≡ old.width
  pub height : new.rows.height ≡ old.rows.height

-- The text of so many bytes at the front of a block was fed, and it was flushed. At most three bytes come after it, or bytes that are no text.
pub record ShowsBlock (old : LiveMarkdown) (block : List ℕ) (used : ℕ) (is_wrong : Bool) (new : LiveMarkdown) (before now : Trace) : Type 0 where
  pub within : used ≤ length block
  pub front : IsTextFront block (take used block)
  pub short : is_wrong ≡ false → length block ≤ used + 3
  pub wrong : is_wrong ≡ true → BeginNoText block
  pub between : Trace
  pub piece : ShowsPiece old (take used block) new before between
  pub went : now ≡ flushed between

-- The end of a text leads every terminal to one that has all rows of its page, where what it shows so far is there; and it was flushed.
pub record EndsShown (live : LiveMarkdown) (before now : Trace) : Type 0 where
  pub bytes : List ℕ
  pub went : now ≡ flushed (after before bytes)
  pub shows : (columns height : ℕ) (above : List (List Glyph)) (read done : List ℕ) (p : Paper)
      → IsLive columns height above [] read done live p → live.rows.height ≤ height → Fit columns live.skin live.width (streamed_page read)
      → (q : Paper) × (rows : List ℕ) × Reads p bytes q × IsStreamed live.skin live.width read rows × Shows columns above rows q

-- the text ends so, with what it is to answer then; or it was refused
abbrev pub EndsWith : LiveMarkdown → Result (Unit {0}) SourceError → Trace → Result (Unit {0}) SourceError → Trace → Type 0
EndsWith live ended before (Ok x) now = (ended ≡ Ok x) × EndsShown live before now
EndsWith live ended before (Err e) now = ((ended ≡ Err e) × EndsShown live before now) ⊎ StopsAt before e now
