-- Markdown as people write it that comes in pieces: what a stream has read, what it has laid out, and what its device took.
use Rattle.std.specs.Prelude.{◌≡◌, ℕ, ◌==◌, ◌&&◌, Bool, if◌then◌else◌, List, [], ◌++◌, length, Option, None, Some, Result, Ok, Err}
use Rattle.mad_pages.specs.PageRows.{RowContent}
use Rattle.mad_page_skin.specs.declared.page_skin.PageSkin.{PageSkin}
use Rattle.mad_sections.specs.Sections.{SectionContent}
use Rattle.mad_term.specs.Trace.{Trace, after, failed}
use Rattle.mad_term.specs.declared.errors.Error.{Error}
use Rattle.mad_term.specs.declared.errors.Error.TheVariants.{IO, InsufficientWidth, Memory}
use Rattle.markdown_layout.specs.WrittenPages.{IsDressedAt, dressed_bytes}
use Rattle.markdown_lines.specs.Texts.{behind_mark}
use Rattle.markdown_reader.specs.Mapping.{LinkSaid}
use Rattle.markdown_reader.specs.Steady.{steady_sections}
use Rattle.markdown_stream.specs.Come.{HasCome, sections_there}
use Rattle.markdown_stream.specs.Streamed.{streamed_sections}
use Rattle.markdown_stream.specs.declared.section_stream.SectionStream.{SectionStream}
use Rattle.markdown_stream.specs.declared.stream.MarkdownStream.{MarkdownStream}

-- ---- what is promised of the whole

-- what a text is shown as that comes in pieces
abbrev pub streamed_page : List ℕ → List SectionContent
streamed_page text = steady_sections (streamed_sections (behind_mark text))

-- these bytes are the rows of a page of what a text shows that comes in pieces
pub record IsStreamed (skin : PageSkin) (width : Option ℕ) (text bytes : List ℕ) : Type 0 where
  pub rows : List RowContent
  pub page : IsDressedAt skin width (streamed_page text) rows
  pub written : bytes ≡ dressed_bytes skin width rows

-- these bytes are a front of the rows of its first sections
pub record BeginsStreamed (skin : PageSkin) (width : Option ℕ) (text bytes : List ℕ) : Type 0 where
  pub front : List SectionContent
  pub rest : List SectionContent
  pub joins : streamed_page text ≡ front ++ rest
  pub rows : List RowContent
  pub page : IsDressedAt skin width front rows
  pub left : List ℕ
  pub written : dressed_bytes skin width rows ≡ bytes ++ left

-- What a call does at the end of a text, of whose rows these bytes were sent before. The others go out; or a front of them, and then the device
-- fails or memory is refused.
abbrev pub Finishes : {T : Type 0} → PageSkin → Option ℕ → (text sent : List ℕ) → Trace → Result T Error → Trace → Type 0
Finishes skin width text sent before (Ok x) now = (bytes : List ℕ) × IsStreamed skin width text (sent ++ bytes) × (now ≡ after before bytes)
Finishes skin width text sent before (Err (IO e)) now = (bytes : List ℕ) × BeginsStreamed skin width text (sent ++ bytes) × (now ≡ failed (after before bytes))
Finishes skin width text sent before (Err (InsufficientWidth e)) now = ⊥
Finishes skin width text sent before (Err Memory) now = (bytes : List ℕ) × BeginsStreamed skin width text (sent ++ bytes) × (now ≡ after before bytes)

-- ---- how far it has come

-- what a piece adds to a text behind its byte order mark: all of it, unless nothing came before
abbrev pub coming : Bool → List ℕ → List ℕ
coming fresh piece = if fresh then behind_mark piece else piece

-- whether nothing came yet
abbrev pub still_fresh : Bool → List ℕ → Bool
still_fresh fresh piece = fresh && (length piece == 0)

-- A stream of sections has read this text, and these sections and links were taken; none are there. Before the first piece there is none.
abbrev pub HasBegun : List ℕ → List SectionContent → List LinkSaid → Option SectionStream → Type 0
HasBegun read sections links None = (read ≡ []) × (sections ≡ []) × (links ≡ [])
HasBegun read sections links (Some s) = HasCome read sections links s × (sections_there s ≡ [])

-- A stream has read this text behind its byte order mark. Its device took these bytes, and others are kept: together they are the rows of a page of all
-- sections that are complete.
pub record HasLaid (read : List ℕ) (s : MarkdownStream) (sent : List ℕ) : Type 0 where
  pub sections : List SectionContent
  pub links : List LinkSaid
  pub come : HasBegun read sections links s.sections
  pub rows : List RowContent
  pub page : IsDressedAt s.skin s.width (steady_sections sections) rows
  pub written : dressed_bytes s.skin s.width rows ≡ sent ++ s.rows.items

-- a stream has read this text, and its device took these bytes
pub record IsInStep (read : List ℕ) (s : MarkdownStream) (sent : List ℕ) : Type 0 where
  pub goes_on : (later : List ℕ) → behind_mark (read ++ later) ≡ behind_mark read ++ coming s.fresh later
  pub behind : HasLaid (behind_mark read) s sent

-- all rows of complete leaves went out
abbrev pub IsPrompt : MarkdownStream → Type 0
IsPrompt s = s.rows.items ≡ []

-- ---- what a step does

-- The piece was taken, in the same skin and at the same width, and these bytes went out. Then there was this.
pub record Fed (old : MarkdownStream) (piece : List ℕ) (new : MarkdownStream) (before : Trace) (fault : Trace → Trace) (now : Trace) : Type 0 where
  pub bytes : List ℕ
  pub went : now ≡ fault (after before bytes)
  pub keeps : (read sent : List ℕ) → IsInStep read old sent → IsInStep (read ++ piece) new (sent ++ bytes)
  pub skin : new.skin ≡ old.skin
  pub width : new.width ≡ old.width

-- A piece was taken, where memory wasn't refused.
abbrev pub Feeds : {T : Type 0} → MarkdownStream → List ℕ → MarkdownStream → Trace → Result T Error → Trace → Type 0
Feeds old piece new before (Ok x) now = Fed old piece new before (λ t. t) now
Feeds old piece new before (Err (IO e)) now = Fed old piece new before failed now
Feeds old piece new before (Err (InsufficientWidth e)) now = ⊥
Feeds old piece new before (Err Memory) now = now ≡ before

-- the piece was taken, and nothing went out
pub record TakesPiece (old : MarkdownStream) (piece : List ℕ) (new : MarkdownStream) : Type 0 where
  pub keeps : (read sent : List ℕ) → IsInStep read old sent → IsInStep (read ++ piece) new sent
  pub skin : new.skin ≡ old.skin
  pub width : new.width ≡ old.width

-- the text is at its end, and nothing went out: the rows that are kept are all that are left
pub record EndsText (old new : MarkdownStream) : Type 0 where
  pub whole : (read sent : List ℕ) → IsInStep read old sent → IsStreamed old.skin old.width read (sent ++ new.rows.items)

-- the sections that came so far, of which none are there
abbrev pub Begins : MarkdownStream → SectionStream → Type 0
Begins old s = (read : List ℕ) (sections : List SectionContent) (links : List LinkSaid) → HasBegun read sections links old.sections → HasCome read sections links s × (sections_there s ≡ [])

-- rows of a page of these sections are kept after those that were
pub record LaysRows (shown : List SectionContent) (old new : MarkdownStream) : Type 0 where
  pub own : List RowContent
  pub page : IsDressedAt old.skin old.width (steady_sections shown) own
  pub rows : new.rows.items ≡ old.rows.items ++ dressed_bytes old.skin old.width own

-- some of the rows went out, and the others are kept; then there was this
pub record Sent (old new : MarkdownStream) (before : Trace) (fault : Trace → Trace) (now : Trace) : Type 0 where
  pub bytes : List ℕ
  pub went : now ≡ fault (after before bytes)
  pub rows : old.rows.items ≡ bytes ++ new.rows.items
  pub same : new ≡ record old { rows = new.rows }

-- the rows go out, or the device fails
abbrev pub Sends : {T : Type 0} → MarkdownStream → MarkdownStream → Trace → Result T Error → Trace → Type 0
Sends old new before (Ok x) now = Sent old new before (λ t. t) now
Sends old new before (Err (IO e)) now = Sent old new before failed now
Sends old new before (Err e) now = ⊥
