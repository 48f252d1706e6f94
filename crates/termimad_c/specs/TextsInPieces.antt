-- A text of Markdown as people write it that comes in pieces of bytes, and its rows until they are handed out.
use Rattle.std.specs.Prelude.{◌≡◌, ◌⊎◌, ℕ, ◌+◌, ◌<◌, ◌≤◌, ◌^◌, Bool, true, false, List, [], ◌++◌, length, take, Option, Some, None}
use Rattle.mad_page_skin.specs.declared.page_skin.PageSkin.{PageSkin}
use Rattle.markdown_stream.specs.Streams.{IsInStep, IsPrompt, IsStreamed}
use Rattle.markdown_stream.specs.declared.stream.MarkdownStream.{MarkdownStream}
use Rattle.termimad_c.specs.Answers.{HandsOut, IsRefused}
use Rattle.termimad_c.specs.Inputs.{IsNoText, IsPageSkinOf, RefusesPage}
use Rattle.termimad_c.specs.declared.answer.Answer.{Answer}
use Rattle.termimad_c.specs.declared.answer.Refusal.{Refusal}
use Rattle.termimad_c.specs.declared.answer.Refusal.TheVariants.{Condition, NotUtf8, Skin, Memory}
use Rattle.termimad_c.specs.declared.coming.Coming.{Coming}

-- The text goes on, in the skin of this word and at this width. All of these bytes came, and the rows of its complete leaves are these, which were handed
-- out, and then those that wait. At most three bytes begin a character.
pub record GoesOn (word : List ℕ) (width : ℕ) (come sent : List ℕ) (c : Coming) : Type 0 where
  pub narrow : width < 2 ^ 16
  pub stream : MarkdownStream
  pub is : c.stream ≡ Some stream
  pub given : IsPageSkinOf word stream.skin
  pub wide : stream.width ≡ Some width
  pub text : List ℕ
  pub cut : come ≡ text ++ c.begun.items
  pub short : length c.begun.items ≤ 3
  pub step : IsInStep text stream (sent ++ c.rows.items)
  pub prompt : IsPrompt stream

-- The text is at its end. Its rows are these, which were handed out, and then those that wait.
pub record IsOver (word : List ℕ) (width : ℕ) (come sent : List ℕ) (c : Coming) : Type 0 where
  pub skin : PageSkin
  pub given : IsPageSkinOf word skin
  pub rows : IsStreamed skin (Some width) come (sent ++ c.rows.items)
  pub none : c.stream ≡ None

-- ---- what a piece does

-- the next text was read, or the last one, and its rows wait after those that did
abbrev pub Reads : Bool → MarkdownStream → List ℕ → List ℕ → Option MarkdownStream → Type 0
Reads false old text rows new =
    (s : MarkdownStream) × (new ≡ Some s) × IsPrompt s × (s.skin ≡ old.skin) × (s.width ≡ old.width)
    × ((read sent : List ℕ) → IsInStep read old sent → IsInStep (read ++ text) s (sent ++ rows))
Reads true old text rows new = (new ≡ None) × ((read sent : List ℕ) → IsInStep read old sent → IsStreamed old.skin old.width (read ++ text) (sent ++ rows))

-- these rows wait after those that did
abbrev pub Waits : Coming → List ℕ → Coming → Type 0
Waits old rows new = new.rows.items ≡ old.rows.items ++ rows

-- a piece came, or the last one
pub record Comes (last : Bool) (old : Coming) (piece : List ℕ) (new : Coming) : Type 0 where
  pub goes_on : (last ≡ false) → (word : List ℕ) (width : ℕ) (come sent : List ℕ) → GoesOn word width come sent old → GoesOn word width (come ++ piece) sent new
  pub ends : (last ≡ true) → (word : List ℕ) (width : ℕ) (come sent : List ℕ) → GoesOn word width come sent old → IsOver word width (come ++ piece) sent new
  pub over : (old.stream ≡ None) → (piece ≡ []) × (new ≡ old)

-- why a piece is refused: what then is
abbrev pub RefusesPiece : Bool → Coming → List ℕ → Refusal → Coming → Type 0
RefusesPiece last old piece NotUtf8 new = IsNoText last (old.begun.items ++ piece) × (new ≡ old)
RefusesPiece last old piece Condition new = (old.stream ≡ None) × (new ≡ old)
RefusesPiece last old piece Skin new = ⊥
RefusesPiece last old piece Memory new = Unit {0}

-- ---- what a call does

-- A piece came, or the last one. The rows that wait then were handed out, as many as fit, and the others wait on.
pub record HandsOn (last : Bool) (old : Coming) (piece buffer : List ℕ) (answer : Answer) (new : Coming) (filled : List ℕ) : Type 0 where
  pub rows : List ℕ
  pub handed : HandsOut rows buffer answer filled
  pub goes_on : (last ≡ false) → (word : List ℕ) (width : ℕ) (come sent : List ℕ) → GoesOn word width come sent old → GoesOn word width (come ++ piece) (sent ++ take (length buffer) rows) new
  pub ends : (last ≡ true) → (word : List ℕ) (width : ℕ) (come sent : List ℕ) → GoesOn word width come sent old → IsOver word width (come ++ piece) (sent ++ take (length buffer) rows) new
  pub over : (word : List ℕ) (width : ℕ) (come sent : List ℕ) → IsOver word width come sent old → (piece ≡ []) × IsOver word width come (sent ++ take (length buffer) rows) new

-- It did so, or the piece was refused for a reason of which that is true, and the buffer is as before.
abbrev pub TakesPiece : Bool → Coming → List ℕ → List ℕ → Answer → Coming → List ℕ → Type 0
TakesPiece last old piece buffer answer new filled =
    HandsOn last old piece buffer answer new filled
    ⊎ ((refusal : Refusal) × RefusesPiece last old piece refusal new × IsRefused refusal answer × (filled ≡ buffer))

-- A text begins of which nothing has come, or it is refused for a reason that is so, and what is behind the pointer stays.
abbrev pub Begins : List ℕ → ℕ → Answer → Option Coming → Option Coming → Type 0
Begins word width answer old new =
    ((coming : Coming) × (new ≡ Some coming) × GoesOn word width [] [] coming × (answer ≡ record { count = 0; status = 0 }))
    ⊎ ((refusal : Refusal) × RefusesPage (2 ^ 16 ≤ width) [] word refusal × IsRefused refusal answer × (new ≡ old))

-- The text that was behind the pointer takes a piece, and stays behind it.
abbrev pub Takes : Bool → Option Coming → List ℕ → List ℕ → Answer → Option Coming → List ℕ → Type 0
Takes last old piece buffer answer new filled =
    (before : Coming) × (after : Coming) × (old ≡ Some before) × (new ≡ Some after) × TakesPiece last before piece buffer answer after filled
