-- A text of Markdown as people write it that comes in pieces of bytes and grows on a terminal, and the bytes that show it, until they are handed out.
use Rattle.std.specs.Prelude.{◌≡◌, ◌⊎◌, ℕ, ◌+◌, ◌<◌, ◌≤◌, ◌^◌, Bool, true, false, List, [], ◌∷◌, ◌++◌, length, take, drop, Option, Some, None, Ok, IsUtf8}
use Rattle.mad_live.specs.LiveRows.{AreBlank, IsAnywhere, Shows, new_row}
use Rattle.mad_live.specs.Papers.{Paper, Reads, blank_line}
use Rattle.mad_page_skin.specs.declared.page_skin.PageSkin.{PageSkin}
use Rattle.mad_screen.specs.Glyph.{Glyph}
use Rattle.mad_sections.specs.Sections.{SectionContent}
use Rattle.markdown_live.specs.LiveMarkdowns.{ArePageRows, BeginsLiveBelow, Fit, FitsSoFar, HasRead, IsLive, ShowsNow, ShowsRows}
use Rattle.markdown_live.specs.Sources.{FitsAsItComes, FitsWhole}
use Rattle.markdown_live.specs.declared.live_markdown.LiveMarkdown.{LiveMarkdown}
use Rattle.markdown_stream.specs.Streams.{streamed_page}
use Rattle.termimad_c.specs.Answers.{HandsOut, IsRefused}
use Rattle.termimad_c.specs.Inputs.{IsNoText, IsPageSkinOf, IsTextSoFar, RefusesPage}
use Rattle.termimad_c.specs.declared.answer.Answer.{Answer}
use Rattle.termimad_c.specs.declared.answer.Refusal.{Refusal}
use Rattle.termimad_c.specs.declared.answer.Refusal.TheVariants.{Condition, NotUtf8, Skin, Memory}
use Rattle.termimad_c.specs.declared.growing.Growing.{Growing}

-- ---- how far it has come

-- The text goes on, in the skin of this word, at this width and on a screen of this height. All of these bytes came. At most three begin a character.
pub record GoesOn (word : List ℕ) (width height : ℕ) (come : List ℕ) (g : Growing) : Type 0 where
  pub narrow : width < 2 ^ 16
  pub low : height < 2 ^ 16
  pub live : LiveMarkdown
  pub is : g.live ≡ Some live
  pub given : IsPageSkinOf word live.skin
  pub wide : live.width ≡ Some width
  pub tall : live.rows.height ≡ height
  pub text : List ℕ
  pub cut : come ≡ text ++ g.begun.items
  pub short : length g.begun.items ≤ 3

-- A terminal of so many columns and rows was so. It reads all that was handed out since, and what waits. Then the text stands on it as far as it has come:
-- these rows are done, those of the sections behind the first ones.
pub record StandsOn (columns rows : ℕ) (above : List (List Glyph)) (first : List SectionContent) (come done sent : List ℕ) (g : Growing) (p : Paper) : Type 0 where
  pub live : LiveMarkdown
  pub is : g.live ≡ Some live
  pub text : List ℕ
  pub utf8 : IsUtf8 text
  pub cut : come ≡ text ++ g.begun.items
  pub paper : Paper
  pub reads : Reads p (sent ++ g.waiting.items) paper
  pub stands : IsLive columns rows above first text done live paper

-- The text is at its end. A terminal that was so reads all that was handed out since, and what waits. Then it has all rows of a page of the text behind the
-- first sections, and the cursor below them.
pub record HasAll (columns : ℕ) (above : List (List Glyph)) (first : List SectionContent) (skin : PageSkin) (width : Option ℕ) (come sent : List ℕ) (g : Growing) (p : Paper) : Type 0 where
  pub none : g.live ≡ None
  pub paper : Paper
  pub reads : Reads p (sent ++ g.waiting.items) paper
  pub own : List SectionContent
  pub page : streamed_page come ≡ first ++ own
  pub rows : List ℕ
  pub rows_are : ArePageRows skin width own rows
  pub shows : Shows columns above rows paper

-- ---- what a piece does

-- A feed of this text makes these bytes: they lead every terminal on which the text stands to one that shows it as far as it has come, wherever it fits.
pub record Feeds (old : LiveMarkdown) (text bytes : List ℕ) (new : LiveMarkdown) : Type 0 where
  pub skin : new.skin ≡ old.skin
  pub width : new.width ≡ old.width
  pub height : new.rows.height ≡ old.rows.height
  pub wanted : List ℕ
  pub shows : (columns rows : ℕ) (above : List (List Glyph)) (first : List SectionContent) (read done : List ℕ) (p : Paper)
      → IsLive columns rows above first read done old p → old.rows.height ≤ rows → FitsSoFar columns old.skin old.width (read ++ text)
      → ShowsNow {T = Unit {0}} columns rows above first (read ++ text) done wanted old new (Ok (tt {0})) p bytes

-- What a terminal has then: all rows of a page of the text behind the first sections.
pub record ShowsAll (columns : ℕ) (above : List (List Glyph)) (first : List SectionContent) (skin : PageSkin) (width : Option ℕ) (read rows bytes : List ℕ) (p : Paper) : Type 0 where
  pub paper : Paper
  pub reads : Reads p bytes paper
  pub own : List SectionContent
  pub page : streamed_page read ≡ first ++ own
  pub rows_are : ArePageRows skin width own rows
  pub shows : Shows columns above rows paper

-- the end makes these bytes
pub record Ends (old : LiveMarkdown) (bytes : List ℕ) : Type 0 where
  pub wanted : List ℕ
  pub shows : (columns rows : ℕ) (above : List (List Glyph)) (first : List SectionContent) (read done : List ℕ) (p : Paper)
      → IsLive columns rows above first read done old p → old.rows.height ≤ rows → Fit columns old.skin old.width (streamed_page read)
      → ShowsAll columns above first old.skin old.width read (done ++ wanted) bytes p

-- the last text makes these bytes, and then the end
pub record FeedsLast (old : LiveMarkdown) (text bytes : List ℕ) : Type 0 where
  pub mid : LiveMarkdown
  pub one : List ℕ
  pub two : List ℕ
  pub is : bytes ≡ one ++ two
  pub feeds : Feeds old text one mid
  pub ends : Ends mid two

-- the next text was fed, or the last one
abbrev pub ShowsNext : Bool → LiveMarkdown → List ℕ → List ℕ → Option LiveMarkdown → Type 0
ShowsNext false old text bytes new = (s : LiveMarkdown) × (new ≡ Some s) × Feeds old text bytes s
ShowsNext true old text bytes new = (new ≡ None) × FeedsLast old text bytes

-- these bytes wait after those that did
abbrev pub Waits : Growing → List ℕ → Growing → Type 0
Waits old bytes new = new.waiting.items ≡ old.waiting.items ++ bytes

-- A piece came, or the last one: what is text of it was fed, and the rest begins a character.
pub record Comes (last : Bool) (old : Growing) (piece : List ℕ) (new : Growing) : Type 0 where
  pub live : LiveMarkdown
  pub is : old.live ≡ Some live
  pub text : List ℕ
  pub taken : IsTextSoFar last (old.begun.items ++ piece) text
  pub rest : new.begun.items ≡ drop (length text) (old.begun.items ++ piece)
  pub bytes : List ℕ
  pub waits : Waits old bytes new
  pub shows : ShowsNext last live text bytes new.live

-- it did, or the text had ended, and nothing came
abbrev pub Grows : Bool → Growing → List ℕ → Growing → Type 0
Grows last old piece new = Comes last old piece new ⊎ ((old.live ≡ None) × (piece ≡ []) × (new ≡ old))

-- why a piece is refused: what then is
abbrev pub RefusesMore : Bool → Growing → List ℕ → Refusal → Growing → Type 0
RefusesMore last old piece NotUtf8 new = IsNoText last (old.begun.items ++ piece) × (new ≡ old)
RefusesMore last old piece Condition new = (old.live ≡ None) × (new ≡ old)
RefusesMore last old piece Skin new = ⊥
RefusesMore last old piece Memory new = Unit {0}

-- ---- what a resize does

-- these are no columns and rows of a screen
abbrev pub IsNoScreen : ℕ → ℕ → Type 0
IsNoScreen width height = (2 ^ 16 ≤ width) ⊎ (2 ^ 16 ≤ height)

-- A new row makes these bytes. Below it the text goes on, at this width and on a screen of this height, on whatever terminal.
pub record GoesBelow (old : LiveMarkdown) (width height : ℕ) (bytes : List ℕ) (new : LiveMarkdown) : Type 0 where
  pub skin : new.skin ≡ old.skin
  pub width_is : new.width ≡ Some width
  pub height_is : new.rows.height ≡ height
  pub is : bytes ≡ new_row
  pub below : (columns rows : ℕ) (p : Paper) (first : List SectionContent) (read : List ℕ) → HasRead read first old → IsAnywhere columns rows p → BeginsLiveBelow columns rows p first read new

-- so it goes on
abbrev pub StartsBelow : LiveMarkdown → ℕ → ℕ → List ℕ → Option LiveMarkdown → Type 0
StartsBelow old width height bytes new = (s : LiveMarkdown) × (new ≡ Some s) × GoesBelow old width height bytes s

-- The text goes on below, on a screen of this size.
pub record Resizes (width height : ℕ) (old new : Growing) : Type 0 where
  pub narrow : width < 2 ^ 16
  pub low : height < 2 ^ 16
  pub live : LiveMarkdown
  pub is : old.live ≡ Some live
  pub begun : new.begun ≡ old.begun
  pub bytes : List ℕ
  pub waits : Waits old bytes new
  pub starts : StartsBelow live width height bytes new.live

-- why a size is refused: what then is
abbrev pub RefusesSize : ℕ → ℕ → Growing → Refusal → Growing → Type 0
RefusesSize width height old Condition new = (IsNoScreen width height ⊎ (old.live ≡ None)) × (new ≡ old)
RefusesSize width height old NotUtf8 new = ⊥
RefusesSize width height old Skin new = ⊥
RefusesSize width height old Memory new = Unit {0}

-- ---- what a call does

-- A text of which nothing has come can begin on any terminal whose cursor is at the beginning of a blank row, below which all is blank.
pub record Begins (word : List ℕ) (width height : ℕ) (g : Growing) : Type 0 where
  pub goes_on : GoesOn word width height [] g
  pub stands : (columns rows : ℕ) (p : Paper) → p.line ≡ blank_line columns → AreBlank columns p.below → p.reach + length p.below + 1 ≡ rows → StandsOn columns rows p.above [] [] [] [] g p

-- What a terminal then is, once it has read all that was handed out, and what waits: it shows the text as far as it has come.
pub record ShowsMore (columns rows : ℕ) (above : List (List Glyph)) (first : List SectionContent) (come done sent : List ℕ) (old : LiveMarkdown) (new : Growing) (p : Paper) : Type 0 where
  pub more : List ℕ
  pub now : StandsOn columns rows above first come (done ++ more) sent new p
  pub tail : List ℕ
  pub shows : ShowsRows columns rows above first now.text old.skin old.width old.rows.height (done ++ more) tail now.paper

-- So it is of every terminal on which the text stood, and which it fits, after a piece by which these bytes were handed out.
abbrev pub GrowsOn : Growing → (piece handed : List ℕ) → Growing → Type 0
GrowsOn old piece handed new =
    (columns rows : ℕ) (above : List (List Glyph)) (first : List SectionContent) (come done sent : List ℕ) (p : Paper) (o : StandsOn columns rows above first come done sent old p)
    → o.live.rows.height ≤ rows → FitsAsItComes o.live.skin o.live.width (come ++ piece) columns → ShowsMore columns rows above first (come ++ piece) done (sent ++ handed) o.live new p

-- After the last piece each of these has all rows, where the whole text fits it.
abbrev pub EndsOn : Growing → (piece handed : List ℕ) → Growing → Type 0
EndsOn old piece handed new =
    (columns rows : ℕ) (above : List (List Glyph)) (first : List SectionContent) (come done sent : List ℕ) (p : Paper) (o : StandsOn columns rows above first come done sent old p)
    → o.live.rows.height ≤ rows → FitsWhole o.live.skin o.live.width (come ++ piece) columns → HasAll columns above first o.live.skin o.live.width (come ++ piece) (sent ++ handed) new p

-- A piece came, or the last one. The bytes that wait then were handed out, as many as fit, and the others wait on.
pub record HandsOn (last : Bool) (old : Growing) (piece buffer : List ℕ) (answer : Answer) (new : Growing) (filled : List ℕ) : Type 0 where
  pub bytes : List ℕ
  pub handed : HandsOut bytes buffer answer filled
  pub goes_on : (last ≡ false) → (word : List ℕ) (width height : ℕ) (come : List ℕ) → GoesOn word width height come old → GoesOn word width height (come ++ piece) new
  pub grows : (last ≡ false) → GrowsOn old piece (take (length buffer) bytes) new
  pub ends : (last ≡ true) → EndsOn old piece (take (length buffer) bytes) new
  pub over : (columns : ℕ) (above : List (List Glyph)) (first : List SectionContent) (skin : PageSkin) (width : Option ℕ) (come sent : List ℕ) (p : Paper) → HasAll columns above first skin width come sent old p
      → (piece ≡ []) × HasAll columns above first skin width come (sent ++ take (length buffer) bytes) new p

-- It did so, or the piece was refused for a reason of which that is true, and the buffer is as before.
abbrev pub TakesMore : Bool → Growing → List ℕ → List ℕ → Answer → Growing → List ℕ → Type 0
TakesMore last old piece buffer answer new filled =
    HandsOn last old piece buffer answer new filled
    ⊎ ((refusal : Refusal) × RefusesMore last old piece refusal new × IsRefused refusal answer × (filled ≡ buffer))

-- A text that stood on a terminal stands on another one, or on the same, below whatever is there once it has read what waited: behind the sections that
-- were done.
abbrev pub StandsBelow : Growing → (handed : List ℕ) → Growing → Type 0
StandsBelow old handed new =
    (columns rows : ℕ) (above : List (List Glyph)) (first : List SectionContent) (come done sent : List ℕ) (p : Paper) (o : StandsOn columns rows above first come done sent old p)
    → (columns' rows' : ℕ) (start below : Paper) → Reads start old.waiting.items below → IsAnywhere columns' rows' below
    → StandsOn columns' rows' (below.line.cells ∷ below.above) (first ++ o.stands.own) come [] handed new start

-- The text goes on below, at this width and on a screen of this height. The bytes that wait then were handed out, as many as fit, and the others wait on.
pub record HandsBelow (width height : ℕ) (old : Growing) (buffer : List ℕ) (answer : Answer) (new : Growing) (filled : List ℕ) : Type 0 where
  pub bytes : List ℕ
  pub handed : HandsOut bytes buffer answer filled
  pub goes_on : (word : List ℕ) (columns rows : ℕ) (come : List ℕ) → GoesOn word columns rows come old → GoesOn word width height come new
  pub below : StandsBelow old (take (length buffer) bytes) new

-- It does so, or the size was refused for a reason of which that is true, and the buffer is as before.
abbrev pub ResizesText : ℕ → ℕ → Growing → List ℕ → Answer → Growing → List ℕ → Type 0
ResizesText width height old buffer answer new filled =
    HandsBelow width height old buffer answer new filled
    ⊎ ((refusal : Refusal) × RefusesSize width height old refusal new × IsRefused refusal answer × (filled ≡ buffer))

-- A text begins of which nothing has come, or it is refused for a reason that is so, and what is behind the pointer stays.
abbrev pub BeginsLive : List ℕ → ℕ → ℕ → Answer → Option Growing → Option Growing → Type 0
BeginsLive word width height answer old new =
    ((growing : Growing) × (new ≡ Some growing) × Begins word width height growing × (answer ≡ record { count = 0; status = 0 }))
    ⊎ ((refusal : Refusal) × RefusesPage (IsNoScreen width height) [] word refusal × IsRefused refusal answer × (new ≡ old))

-- The text that was behind the pointer takes a piece, and stays behind it.
abbrev pub TakesLive : Bool → Option Growing → List ℕ → List ℕ → Answer → Option Growing → List ℕ → Type 0
TakesLive last old piece buffer answer new filled =
    (before : Growing) × (after : Growing) × (old ≡ Some before) × (new ≡ Some after) × TakesMore last before piece buffer answer after filled

-- The text that was behind the pointer goes on below, and stays behind it.
abbrev pub ResizesLive : ℕ → ℕ → Option Growing → List ℕ → Answer → Option Growing → List ℕ → Type 0
ResizesLive width height old buffer answer new filled =
    (before : Growing) × (after : Growing) × (old ≡ Some before) × (new ≡ Some after) × ResizesText width height before buffer answer after filled
