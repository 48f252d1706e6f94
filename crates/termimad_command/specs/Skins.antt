-- The skin of a call.
use Rattle.std.specs.Prelude.{◌≡◌, ◌⊎◌, ◌||◌, ◌==◌, ◌++◌, ℕ, Bool, true, false, List, [], ◌∷◌, codes, string_bytes, Some, None, ⊤}
use Rattle.std.specs.Bool.{MatchBool}
use Rattle.std.specs.Borrow.{Bor}
use Rattle.std.specs.Str.{bytes_eq}
use Rattle.std.specs.declared.io.ErrorKind.{ErrorKind}
use Rattle.std.specs.declared.io.ErrorKind.TheVariants.{OutOfMemory}
use Rattle.serde_json.specs.Read.{read}
use Rattle.mad_measure.specs.KeptCells.{shown_bytes}
use Rattle.mad_page_skin.specs.declared.page_skin.PageSkin.{PageSkin}
use Rattle.termimad_given.specs.Given.{Held}
use Rattle.termimad_words.specs.GivenSkins.{page_skin_given}
use Rattle.termimad_words.specs.SkinFaults.{text_fault_said}
use Rattle.termimad_command.specs.Refusals.{obstacle_of}
use Rattle.termimad_command.specs.declared.refusals.Refusal.{Refusal}
use Rattle.termimad_command.specs.declared.refusals.Refusal.TheVariants.{Skin, FaultySkin, Memory}

-- a made skin has that name
unfoldable pub is_made : List ℕ → Bool
is_made word =
    bytes_eq word (codes "default") || bytes_eq word (codes "dark") || bytes_eq word (codes "light") || bytes_eq word (codes "sixteen")
    || bytes_eq word (codes "none")

-- the word begins as JSON text of a skin does, with { (123)
abbrev pub begins_as_json : List ℕ → Bool
begins_as_json [] = false
begins_as_json (b ∷ bs) = b == 123

-- the word says a skin itself, and names no file that does
abbrev pub is_said : List ℕ → Bool
is_said word = begins_as_json word || is_made word

-- the text says this skin, and these keys that name no part of one
abbrev pub SaysSkin : List ℕ → PageSkin × List (List ℕ) → Type 0
SaysSkin text read = page_skin_given (Some text) ≡ Some read

-- the line that says what is wrong with a text that says no skin: what is printable of that
abbrev pub fault_line : List ℕ → List ℕ
fault_line text = codes "termimad: SKIN: " ++ (shown_bytes (text_fault_said (read text)) ++ codes "\n")

-- why a text says no skin: what is wrong with it, or there is no memory for it or for saying that
abbrev pub SaysFault : List ℕ → Refusal → Type 0
SaysFault text (FaultySkin line) = string_bytes line ≡ fault_line text
SaysFault text Memory = ⊤
SaysFault text _ = ⊥

-- why a text says no skin
abbrev pub RefusesText : List ℕ → Refusal → Type 0
RefusesText text (FaultySkin line) = (page_skin_given (Some text) ≡ None) × (string_bytes line ≡ fault_line text)
RefusesText text Memory = ⊤
RefusesText text _ = ⊥

-- what a fault of this kind in reading the text that a word for a skin names makes of a call
abbrev pub unread_by : Bor (List ℕ) → ErrorKind → Refusal
unread_by word OutOfMemory = Memory
unread_by word kind = Skin word (obstacle_of kind)

-- the word says this skin and these unknown keys, or the text that it names does
abbrev pub IsSkinOf : Held → List ℕ → PageSkin × List (List ℕ) → Type 0
IsSkinOf holds word read = ((is_said word ≡ true) × SaysSkin word read) ⊎ ((is_said word ≡ false) × ((text : List ℕ) × holds word text × SaysSkin text read))

-- the word names no skin, or there is no memory for one
abbrev pub IsNoSkin : List ℕ → Refusal → Type 0
IsNoSkin word (Skin named obstacle) = named.now ≡ word
IsNoSkin word (FaultySkin line) = ⊤
IsNoSkin word Memory = ⊤
IsNoSkin word _ = ⊥

-- Why a word is no skin: it says none itself, or it names a text that can't be read, is none, or says none.
abbrev pub RefusesSkinWord : List ℕ → Refusal → Type 0
RefusesSkinWord word refusal = MatchBool (is_said word) (RefusesText word refusal) (IsNoSkin word refusal)
