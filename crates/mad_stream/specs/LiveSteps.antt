-- The steps of a source that is shown as it comes.
use Rattle.std.specs.Prelude.{◌≡◌, ◌⊎◌, ℕ, ◌+◌, ◌≤◌, true, false, List, ◌++◌, length, take, Result, Ok, Err, IsUtf8, chars, encode_utf8_all}
use Rattle.mad_term.specs.Trace.{Trace, after, failed, flushed}
use Rattle.mad_screen.specs.Glyph.{Glyph}
use Rattle.mad_live.specs.Papers.{Paper, Reads}
use Rattle.mad_live.specs.LiveRows.{Shows}
use Rattle.mad_stream.specs.LiveTexts.{IsLaidOut, FitsRows, IsLive, FeedsLive}
use Rattle.mad_stream.specs.SteadyPieces.{steady_piece, spot_after}
use Rattle.mad_stream.specs.TextFronts.{IsTextFront, BeginNoText}
use Rattle.mad_stream.specs.declared.live_sources.Shown.{Shown}
use Rattle.mad_stream.specs.declared.live_text.LiveText.{LiveText}
use Rattle.mad_stream.specs.declared.steadied.Spot.{Spot}
use Rattle.mad_stream.specs.declared.source_error.SourceError.{SourceError}
use Rattle.mad_stream.specs.declared.source_error.SourceError.TheVariants.{Device, Memory}

-- some bytes went out, and then the device failed, or memory was refused
abbrev pub StopsAt : Trace → SourceError → Trace → Type 0
StopsAt before (Device e) now = (bytes : List ℕ) × (now ≡ failed (after before bytes))
StopsAt before Memory now = (bytes : List ℕ) × (now ≡ after before bytes)
StopsAt before e now = ⊥

-- the piece was fed, in the same skin, at the same width, on as many rows
pub record ShowsPiece (old : LiveText) (piece : List ℕ) (new : LiveText) (before now : Trace) : Type 0 where
  pub utf8 : IsUtf8 piece
  pub fed : FeedsLive {T = Unit {0}} old piece new before (Ok (tt {0})) now
  pub skin : new.stream.skin ≡ old.stream.skin
  pub width : new.stream.width ≡ old.stream.width
  pub height : new.rows.height ≡ old.rows.height

-- What is to be shown of the text at the front of a block was fed, and flushed. At most three bytes come after that text, or bytes that are no text.
pub record ShowsBlock (old : LiveText) (spot : Spot) (block : List ℕ) (shown : Shown) (new : LiveText) (before now : Trace) : Type 0 where
  pub within : shown.used ≤ length block
  pub front : IsTextFront block (take shown.used block)
  pub short : shown.is_wrong ≡ false → length block ≤ shown.used + 3
  pub wrong : shown.is_wrong ≡ true → BeginNoText block
  pub spot_is : shown.spot ≡ spot_after spot (chars (take shown.used block))
  pub between : Trace
  pub piece : ShowsPiece old (encode_utf8_all (steady_piece spot (chars (take shown.used block)))) new before between
  pub went : now ≡ flushed between

-- Of a block, the front of which is this text, some bytes went out, and then it stopped.
pub record StopsInBlock (block : List ℕ) (before : Trace) (e : SourceError) (now : Trace) : Type 0 where
  pub text : List ℕ
  pub front : IsTextFront block text
  pub stops : StopsAt before e now

-- The end of a text leads every terminal to one that has all rows of a layout of it, where this is shown yet of it; and it was flushed.
pub record EndsShown (live : LiveText) (last : List ℕ) (before now : Trace) : Type 0 where
  pub bytes : List ℕ
  pub utf8 : IsUtf8 last
  pub went : now ≡ flushed (after before bytes)
  pub shows : (columns height : ℕ) (above : List (List Glyph)) (read done : List ℕ) (p : Paper)
      → IsLive columns height above read done live p → live.rows.height ≤ height → FitsRows columns live.stream.skin live.stream.width read → FitsRows columns live.stream.skin live.stream.width (read ++ last)
      → (q : Paper) × (rows : List ℕ) × Reads p bytes q × IsLaidOut live.stream.skin live.stream.width (read ++ last) rows × Shows columns above rows q

-- the text ends so, with what it is to answer then; or it was refused
abbrev pub EndsWith : LiveText → List ℕ → Result (Unit {0}) SourceError → Trace → Result (Unit {0}) SourceError → Trace → Type 0
EndsWith live last ended before (Ok x) now = (ended ≡ Ok x) × EndsShown live last before now
EndsWith live last ended before (Err e) now = ((ended ≡ Err e) × EndsShown live last before now) ⊎ StopsAt before e now
