-- Texts that are handed whole each time: how far they are complete.
use Rattle.std.specs.Prelude.{◌≡◌, ℕ, ◌≤◌, Bool, true, false, List, ◌++◌, length, take, drop, Option, Result, Ok, OnOk, if◌then◌else◌}
use Rattle.mad_md.specs.Lines.{LineContent}
use Rattle.mad_md.specs.Parts.{HasNoNewline}
use Rattle.mad_md.specs.Reading.{resumed_text}
use Rattle.mad_md.specs.Scan.{lines_of}
use Rattle.mad_md.specs.declared.line_kinds.LineKind.{LineKind}
use Rattle.mad_md.specs.declared.line_kinds.LineKind.TheVariants.{Fence, Code, Table, Alone}
use Rattle.mad_term.specs.Trace.{Trace}
use Rattle.mad_term.specs.declared.errors.Error.{Error}
use Rattle.mad_blocks.specs.TextParts.{apart}
use Rattle.mad_layout.specs.WrittenParts.{WritesPartsOf}
use Rattle.mad_rows.specs.declared.row_skin.RowSkin.{RowSkin}
use Rattle.mad_stream.specs.Sources.{MayGoOn}
use Rattle.mad_stream.specs.Steps.{ends_before, last_after, fence_after}
use Rattle.mad_stream.specs.Streams.{ReadsTo, EndsIn}
use Rattle.mad_stream.specs.declared.fronts.Scan.{Scan}

-- ---- how far a text is complete

-- So many bytes of a text, before which a fence is open or not, are the lines of complete parts, and a fence is open after them or not. Whatever comes
-- yet, no part goes on from these lines. What is left are lines of one part that may go on, or none, and a line that has begun.
pub record IsCompleteFront (text : List ℕ) (fenced : Bool) (used : ℕ) (fenced_then : Bool) : Type 0 where
  pub within : used ≤ length text
  pub front : List LineContent
  pub reads : ReadsTo fenced (take used text) front fenced_then
  pub whole : (later : List ℕ) → apart front (lines_of (resumed_text fenced_then (drop used text ++ later))) ≡ true
  pub held : List LineContent
  pub begun : List ℕ
  pub fenced_now : Bool
  pub left : (later : List ℕ) → lines_of (resumed_text fenced_then (drop used text ++ later)) ≡ held ++ lines_of (resumed_text fenced_now (begun ++ later))
  pub one : MayGoOn held
  pub line : HasNoNewline begun
  pub ends : EndsIn text begun

-- how much of a text is laid out: all at its end, and else its complete parts
abbrev pub IsLaidOutFront : Bool → List ℕ → Bool → ℕ → Bool → Type 0
IsLaidOutFront true text fenced used fenced_then = (used ≡ length text) × (fenced_then ≡ false)
IsLaidOutFront false text fenced used fenced_then = IsCompleteFront text fenced used fenced_then

-- A call lays out a front of a text, and draws its rows. It answers how much that is, where it isn't refused.
pub record WritesFront (skin : RowSkin) (width : Option ℕ) (text : List ℕ) (fenced is_last : Bool) (before : Trace) (r : Result (ℕ × Bool) Error) (now : Trace) : Type 0 where
  pub used : ℕ
  pub fenced_then : Bool
  pub front : IsLaidOutFront is_last text fenced used fenced_then
  pub writes : WritesPartsOf skin width (lines_of (resumed_text fenced (take used text))) before r now
  pub answers : OnOk r (r ≡ Ok (used, fenced_then))

-- ---- how far it was read

-- a whole line of this kind comes, which begins at that byte: where no part goes on to it, all before it is complete
abbrev pub settled_before : Scan → LineKind → ℕ → Scan
settled_before scan kind start = if ends_before scan.last kind then record scan { used = start; fenced = scan.is_open; last = Fence } else scan

-- and it joins the lines that are held
abbrev pub joined_by : Scan → LineKind → Scan
joined_by scan kind = record scan { is_open = fence_after kind scan.is_open; last = last_after scan.last kind }

-- lines that are parts by themselves are complete; a table or a block of code may go on
abbrev pub settled_by : LineKind → ℕ × Bool → ℕ × Bool → ℕ × Bool
settled_by Fence all complete = all
settled_by Alone all complete = all
settled_by Code all complete = complete
settled_by Table all complete = complete

-- how far a text is complete whose whole lines end at that byte
abbrev pub settled_at : Scan → ℕ → ℕ × Bool
settled_at scan end = settled_by scan.last (end, scan.is_open) (scan.used, scan.fenced)
