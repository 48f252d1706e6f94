-- What the words after the program's name ask for. A word is its bytes.
use Rattle.std.specs.Prelude.{◌≡◌, ℕ, ◌≤◌, Bool, true, false, List, [], ◌∷◌, codes, Option, Some, None, ⊤}
use Rattle.mad_measure.specs.Areas.{IsWithinLimits}
use Rattle.mad_measure.specs.declared.Area.{Area}
use Rattle.mad_page_skin.specs.declared.page_skin.PageSkin.{PageSkin}
use Rattle.termimad_run.specs.declared.call.Command.{Command}
use Rattle.termimad_run.specs.declared.call.Command.TheVariants.{InArea, AtWidth, AsMarkdown, AsCode, AsItComes, MarkdownAsItComes, Live, LiveMarkdown, Inline}
use Rattle.termimad_run.specs.declared.call.Pieces.{Pieces}
use Rattle.termimad_run.specs.declared.call.Pieces.TheVariants.{Stream as StreamPieces, Markdown as MarkdownPieces, Live as LivePieces, LiveMarkdown as LiveMarkdownPieces}
use Rattle.termimad_words.specs.declared.failure.Failure.{Failure}
use Rattle.termimad_words.specs.declared.failure.Failure.TheVariants.{Usage, Skin, Memory}
use Rattle.termimad_run.specs.ShownSkins.{skin_shown, IsJsonShown}
use Rattle.termimad_words.specs.Numbers.{IsNumber}

-- The words L, T, W and H are the numbers of this area: at least four columns, and its right and bottom at most 65535.
pub record IsAreaOf (left top width height : List ℕ) (area : Area) : Type 0 where
  pub left_is : IsNumber left area.left
  pub top_is : IsNumber top area.top
  pub width_is : IsNumber width area.width
  pub height_is : IsNumber height area.height
  pub wide : 4 ≤ area.width
  pub within : IsWithinLimits area

-- the words given for SKIN: none, or one
abbrev pub IsSkinWord : List (List ℕ) → Option (List ℕ) → Type 0
IsSkinWord [] word = word ≡ None
IsSkinWord (given ∷ []) word = word ≡ Some given
IsSkinWord (given ∷ next ∷ more) word = ⊥

-- the words after `area`: L T W H [SKIN]
abbrev pub AsksArea : List (List ℕ) → Area → Option (List ℕ) → Type 0
AsksArea (left ∷ top ∷ width ∷ height ∷ rest) area word = IsAreaOf left top width height area × IsSkinWord rest word
AsksArea _ area word = ⊥

-- the words after `text`, `markdown`, `stream` or `markdown-stream`: W [SKIN]
abbrev pub AsksWidth : List (List ℕ) → ℕ → Option (List ℕ) → Type 0
AsksWidth [] width word = ⊥
AsksWidth (given ∷ rest) width word = IsNumber given width × IsSkinWord rest word

-- the words after `code`: LANG W [SKIN]
abbrev pub AsksCode : List (List ℕ) → List ℕ → ℕ → Option (List ℕ) → Type 0
AsksCode [] language width word = ⊥
AsksCode (given ∷ rest) language width word = (language ≡ given) × AsksWidth rest width word

-- the words after `live` or `live-markdown`: W H [SKIN]
abbrev pub AsksSize : List (List ℕ) → ℕ → ℕ → Option (List ℕ) → Type 0
AsksSize (wide ∷ high ∷ rest) width height word = IsNumber wide width × IsNumber high height × IsSkinWord rest word
AsksSize _ width height word = ⊥

-- The words ask for this: area L T W H [SKIN], text W [SKIN], markdown W [SKIN], code LANG W [SKIN], stream W [SKIN], markdown-stream W [SKIN], live W H [SKIN], live-markdown W H [SKIN], or inline [SKIN].
abbrev pub Asks : List (List ℕ) → Command → Option (List ℕ) → Type 0
Asks [] command word = ⊥
Asks (name ∷ words) (InArea area) word = (name ≡ codes "area") × AsksArea words area word
Asks (name ∷ words) (AtWidth width) word = (name ≡ codes "text") × AsksWidth words width word
Asks (name ∷ words) (AsMarkdown width) word = (name ≡ codes "markdown") × AsksWidth words width word
Asks (name ∷ words) (AsCode language width) word = (name ≡ codes "code") × AsksCode words language.now width word
Asks (name ∷ words) (AsItComes width) word = (name ≡ codes "stream") × AsksWidth words width word
Asks (name ∷ words) (MarkdownAsItComes width) word = (name ≡ codes "markdown-stream") × AsksWidth words width word
Asks (name ∷ words) (Live width height) word = (name ≡ codes "live") × AsksSize words width height word
Asks (name ∷ words) (LiveMarkdown width height) word = (name ≡ codes "live-markdown") × AsksSize words width height word
Asks (name ∷ words) Inline word = (name ≡ codes "inline") × IsSkinWord words word

-- the command's area has four columns at least, and lies within the limits of a screen
abbrev pub IsAllowed : Command → Type 0
IsAllowed (InArea area) = (4 ≤ area.width) × IsWithinLimits area
IsAllowed (AtWidth width) = ⊤
IsAllowed (AsMarkdown width) = ⊤
IsAllowed (AsCode language width) = ⊤
IsAllowed (AsItComes width) = ⊤
IsAllowed (MarkdownAsItComes width) = ⊤
IsAllowed (Live width height) = ⊤
IsAllowed (LiveMarkdown width height) = ⊤
IsAllowed Inline = ⊤

-- the command wants the text whole: nothing is written before all of it was read
abbrev pub IsWhole : Command → Type 0
IsWhole (AsItComes width) = ⊥
IsWhole (MarkdownAsItComes width) = ⊥
IsWhole (Live width height) = ⊥
IsWhole (LiveMarkdown width height) = ⊥
IsWhole _ = ⊤

-- the command shows a page: of Markdown as people write it, or of code
abbrev pub shows_page : Command → Bool
shows_page (AsMarkdown width) = true
shows_page (AsCode language width) = true
shows_page (MarkdownAsItComes width) = true
shows_page (LiveMarkdown width height) = true
shows_page _ = false

-- the command that writes a text as it comes
abbrev pub command_of_pieces : Pieces → Command
command_of_pieces (StreamPieces width) = AsItComes width
command_of_pieces (MarkdownPieces width) = MarkdownAsItComes width
command_of_pieces (LivePieces width height) = Live width height
command_of_pieces (LiveMarkdownPieces width height) = LiveMarkdown width height

-- the words ask for nothing that the program does
abbrev pub IsNoCall : List (List ℕ) → Type 0
IsNoCall words = (command : Command) (word : Option (List ℕ)) → ¬ (Asks words command word)

-- the words ask for something that the program does, in a skin that is refused
abbrev pub AsksRefusedSkin : List (List ℕ) → Type 0
AsksRefusedSkin words = (command : Command) × (word : Option (List ℕ)) × Asks words command word × (skin_shown (shows_page command) word ≡ None)

-- the words ask for something that the program does, in a skin that is JSON text
abbrev pub AsksJson : List (List ℕ) → Type 0
AsksJson words = (command : Command) × (word : Option (List ℕ)) × Asks words command word × IsJsonShown (shows_page command) word

-- The words are a call: what is to be written, in which skin, and which of its keys name no part of a skin. A text is shown in the skin of a page's text.
pub record IsCall (words : List (List ℕ)) (command : Command) (skin : PageSkin) (unknown : List (List ℕ)) : Type 0 where
  pub word : Option (List ℕ)
  pub asks : Asks words command word
  pub given : skin_shown (shows_page command) word ≡ Some (skin, unknown)

-- why the words are no call; memory is needed by JSON text alone
abbrev pub RefusesWords : List (List ℕ) → Failure → Type 0
RefusesWords words Usage = IsNoCall words
RefusesWords words Skin = AsksRefusedSkin words
RefusesWords words Memory = AsksJson words
RefusesWords words _ = ⊥
