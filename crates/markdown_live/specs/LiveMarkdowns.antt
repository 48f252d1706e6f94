-- Markdown as people write it that comes in pieces, on a terminal that scrolls.
use Rattle.std.specs.Prelude.{◌≡◌, ℕ, ◌+◌, ◌≤◌, List, [], ◌∷◌, ◌++◌, length, take, Option, Result, OnOk, OnErr, string_bytes}
use Rattle.std.specs.List.{AllByRecursion, flat_map}
use Rattle.mad_live.specs.LiveRows.{AreRows, AreBlank, AreLast, Shows, Stands, LeadsEverywhere, Redraws, IsAnywhere, new_row}
use Rattle.mad_live.specs.Papers.{Paper, Reads, blank_line}
use Rattle.mad_page_skin.specs.declared.page_skin.PageSkin.{PageSkin}
use Rattle.mad_pages.specs.PageRows.{RowContent}
use Rattle.mad_screen.specs.Glyph.{Glyph}
use Rattle.mad_sections.specs.Sections.{SectionContent}
use Rattle.mad_stream.specs.LiveTexts.{without_last, joined_pieces}
use Rattle.mad_term.specs.Draws.{Draws}
use Rattle.mad_term.specs.Trace.{Trace, after}
use Rattle.mad_term.specs.declared.errors.Error.{Error}
use Rattle.markdown_layout.specs.WrittenPages.{IsDressedAt, dressed_bytes}
use Rattle.markdown_lines.specs.Texts.{behind_mark}
use Rattle.markdown_live.specs.Growing.{ShowsSoFar, growing_sections}
use Rattle.markdown_live.specs.declared.live_markdown.LiveMarkdown.{LiveMarkdown}
use Rattle.markdown_reader.specs.Mapping.{LinkSaid}
use Rattle.markdown_reader.specs.MarkdownSays.{markdown_says}
use Rattle.markdown_reader.specs.Steady.{steady_sections}
use Rattle.markdown_stream.specs.Come.{HasCome, sections_there}
use Rattle.markdown_stream.specs.Held.{streaming_of}
use Rattle.markdown_stream.specs.Streams.{IsStreamed, coming, streamed_page}

-- ---- rows

-- these bytes are the rows of a page of these sections
abbrev pub ArePageRows : PageSkin → Option ℕ → List SectionContent → List ℕ → Type 0
ArePageRows skin width page bytes = (rows : List RowContent) × IsDressedAt skin width page rows × (bytes ≡ dressed_bytes skin width rows)

-- each row of each of these sections is a row of the terminal that scrolls, of so many columns: one less than a real one has
abbrev pub Fit : ℕ → PageSkin → Option ℕ → List SectionContent → Type 0
Fit columns skin width page = AllByRecursion (λ section. (rows : List ℕ) → ArePageRows skin width (section ∷ []) rows → AreRows columns rows) page

-- so it is of all that a text shows so far
abbrev pub FitsSoFar : ℕ → PageSkin → Option ℕ → List ℕ → Type 0
FitsSoFar columns skin width text = (complete growing : List SectionContent) → ShowsSoFar (behind_mark text) complete growing → Fit columns skin width (complete ++ growing)

-- ---- how far it has come

-- the sections that are complete, and whose rows aren't shown as done
abbrev pub unshown : LiveMarkdown → List SectionContent
unshown s = flat_map markdown_says s.unshown.items

-- what is growing
abbrev pub growing_now : LiveMarkdown → List SectionContent
growing_now s = growing_sections (string_bytes s.sections.line) (streaming_of s.sections)

-- A live text has read this, and of the sections that are complete the rows of the first ones were shown as done. The others are kept.
pub record HasRead (read : List ℕ) (shown : List SectionContent) (s : LiveMarkdown) : Type 0 where
  pub goes_on : (later : List ℕ) → behind_mark (read ++ later) ≡ behind_mark read ++ coming s.fresh later
  pub sections : List SectionContent
  pub links : List LinkSaid
  pub come : HasCome (behind_mark read) sections links s.sections
  pub taken : sections_there s.sections ≡ []
  pub joins : steady_sections sections ≡ shown ++ unshown s

-- A live text has read this. On the terminal are rows that are done, those of the sections behind the first ones, and the rows of the tail. The first ones were
-- shown elsewhere.
pub record IsLive (columns height : ℕ) (above : List (List Glyph)) (first : List SectionContent) (read done : List ℕ) (s : LiveMarkdown) (p : Paper) : Type 0 where
  pub own : List SectionContent
  pub step : HasRead read (first ++ own) s
  pub rows : ArePageRows s.skin s.width own done
  pub stands : Stands columns height above done s.rows.tail.items p

-- On the terminal is what a text shows so far. The rows of the sections that are complete, behind the first ones, are done. Of the rows of what is growing
-- the last ones are shown, as many as a screen of this height has.
pub record ShowsRows (columns height : ℕ) (above : List (List Glyph)) (first : List SectionContent) (read : List ℕ) (skin : PageSkin) (width : Option ℕ) (screen : ℕ) (done tail : List ℕ) (p : Paper) : Type 0 where
  pub own : List SectionContent
  pub growing : List SectionContent
  pub so_far : ShowsSoFar (behind_mark read) (first ++ own) growing
  pub done_rows : ArePageRows skin width own done
  pub left : List ℕ
  pub left_rows : ArePageRows skin width growing left
  pub last : AreLast screen (without_last left) tail
  pub stands : Stands columns height above done tail p

-- ---- what the calls do

-- nothing has come, and it can begin on any terminal, below any rows
abbrev pub StartsLive : LiveMarkdown → Type 0
StartsLive s =
    (columns height : ℕ) (p : Paper) → p.line ≡ blank_line columns → AreBlank columns p.below → p.reach + length p.below + 1 ≡ height
    → IsLive columns height p.above [] [] [] s p

-- the piece was taken
abbrev pub TakesPiece : LiveMarkdown → List ℕ → LiveMarkdown → Type 0
TakesPiece old piece new = (read : List ℕ) (shown : List SectionContent) → HasRead read shown old → HasRead (read ++ piece) shown new

-- What a terminal that reads these bytes then shows of the text: these rows, in place of those that weren't done. Where the call succeeded, the live text
-- has them too.
pub record ShowsNow {T : Type 0} (columns height : ℕ) (above : List (List Glyph)) (first : List SectionContent) (read done wanted : List ℕ) (old new : LiveMarkdown) (r : Result T Error) (p : Paper) (bytes : List ℕ) : Type 0 where
  pub paper : Paper
  pub reads : Reads p bytes paper
  pub more : List ℕ
  pub tail : List ℕ
  pub is : wanted ≡ more ++ tail
  pub rows : ShowsRows columns height above first read old.skin old.width old.rows.height (done ++ more) tail paper
  pub shows : OnOk r ((new.rows.tail.items ≡ tail) × (new.unshown.items ≡ []) × IsLive columns height above first read (done ++ more) new paper)

-- A feed takes this piece. The bytes that it makes are those of the rows that changed. They lead every terminal to one that shows the text so far, wherever
-- that fits its columns. The device took them, or a front of them before its fault.
pub record FeedsLive {T : Type 0} (old : LiveMarkdown) (piece : List ℕ) (new : LiveMarkdown) (before : Trace) (r : Result T Error) (now : Trace) : Type 0 where
  pub wanted : List ℕ
  pub bytes : List ℕ
  pub change : Redraws old.rows.tail.items wanted bytes
  pub wrote : Draws before bytes r now
  pub shows : (columns height : ℕ) (above : List (List Glyph)) (first : List SectionContent) (read done : List ℕ) (p : Paper)
      → IsLive columns height above first read done old p → old.rows.height ≤ height → FitsSoFar columns old.skin old.width (read ++ piece)
      → ShowsNow columns height above first (read ++ piece) done wanted old new r p bytes

-- It took this piece, and counts nothing more as shown: no row more counts as done, and the tail is as before.
pub record KeepsLive (old : LiveMarkdown) (piece : List ℕ) (new : LiveMarkdown) : Type 0 where
  pub text : TakesPiece old piece new
  pub rows : new.rows ≡ old.rows
  pub live : (columns height : ℕ) (above : List (List Glyph)) (first : List SectionContent) (read done : List ℕ) (p : Paper)
      → IsLive columns height above first read done old p → IsLive columns height above first (read ++ piece) done new p

-- The rows of the sections that are kept take the place of the tail, and those of what is growing follow.
pub record ShowsLeft {T : Type 0} (old new : LiveMarkdown) (before : Trace) (r : Result T Error) (now : Trace) : Type 0 where
  pub more : List ℕ
  pub more_rows : ArePageRows old.skin old.width (unshown old) more
  pub left : List ℕ
  pub left_rows : ArePageRows old.skin old.width (growing_now old) left
  pub tail : List ℕ
  pub last : AreLast old.rows.height (without_last left) tail
  pub bytes : List ℕ
  pub change : Redraws old.rows.tail.items (more ++ tail) bytes
  pub leads : LeadsEverywhere old.rows.height old.rows.tail.items more tail bytes
  pub wrote : Draws before bytes r now
  pub same : OnOk r (new ≡ record old { rows = new.rows; unshown = new.unshown })
  pub kept : OnOk r ((new.rows.tail.items ≡ tail) × (new.unshown.items ≡ []))

-- These bytes are the rows of the text's page that are left once it has ended.
pub record HasLastRows (s : LiveMarkdown) (rows : List ℕ) : Type 0 where
  pub kept : List SectionContent
  pub page : (read : List ℕ) (shown : List SectionContent) → HasRead read shown s → streamed_page read ≡ shown ++ kept
  pub rows_are : ArePageRows s.skin s.width kept rows

-- The end of a text makes bytes. They lead every terminal to one that has all rows of a page of the text behind the first sections, from the first row on, and
-- the cursor below them. The device took them, or a front of them before its fault.
pub record EndsLive {T : Type 0} (old : LiveMarkdown) (before : Trace) (r : Result T Error) (now : Trace) : Type 0 where
  pub wanted : List ℕ
  pub bytes : List ℕ
  pub change : Redraws old.rows.tail.items wanted bytes
  pub wrote : Draws before bytes r now
  pub shows : (columns height : ℕ) (above : List (List Glyph)) (first : List SectionContent) (read done : List ℕ) (p : Paper)
      → IsLive columns height above first read done old p → old.rows.height ≤ height → Fit columns old.skin old.width (streamed_page read)
      → (q : Paper) × (own : List SectionContent) × Reads p bytes q × (streamed_page read ≡ first ++ own) × ArePageRows old.skin old.width own (done ++ wanted) × Shows columns above (done ++ wanted) q

-- ---- going on below

-- a terminal that keeps all that stood on it, where a live text that has read this begins below, with the rows behind the first sections
pub record BeginsLiveBelow (columns height : ℕ) (p : Paper) (first : List SectionContent) (read : List ℕ) (s : LiveMarkdown) : Type 0 where
  pub paper : Paper
  pub reads : Reads p new_row paper
  pub above : paper.above ≡ p.line.cells ∷ p.above
  pub live : IsLive columns height paper.above first read [] s paper

-- The text goes on below whatever stands on a terminal, at a width and on a screen of this height, with the first row that isn't shown as done. The device took
-- the bytes of a new row, or failed.
pub record GoesOnBelow (old : LiveMarkdown) (width : Option ℕ) (height : ℕ) (new : LiveMarkdown) (before : Trace) (r : Result (Unit {0}) Error) (now : Trace) : Type 0 where
  pub wrote : Draws before new_row r now
  pub below : OnOk r ((columns rows : ℕ) (p : Paper) (first : List SectionContent) (read : List ℕ) → HasRead read first old → IsAnywhere columns rows p → BeginsLiveBelow columns rows p first read new)
  pub size : OnOk r ((new.width ≡ width) × (new.rows.height ≡ height))

-- ---- a text that is given in pieces

-- What went out leads every terminal to one that has all rows of a page of the whole text, from the first on, and the cursor below them: where the cursor was
-- at the beginning of a blank row, all below was blank, the screen has as many rows as was said at least, and the text fits its columns after each piece
-- and as a whole.
pub record ShowsPieces (skin : PageSkin) (width : Option ℕ) (height : ℕ) (pieces : List (List ℕ)) (before now : Trace) : Type 0 where
  pub bytes : List ℕ
  pub went : now ≡ after before bytes
  pub shows : (columns : ℕ) (p : Paper) → p.line ≡ blank_line columns → AreBlank columns p.below → height ≤ p.reach + length p.below + 1
      → ((n : ℕ) → FitsSoFar columns skin width (joined_pieces (take n pieces))) → Fit columns skin width (streamed_page (joined_pieces pieces))
      → (q : Paper) × (rows : List ℕ) × Reads p bytes q × IsStreamed skin width (joined_pieces pieces) rows × Shows columns p.above rows q
