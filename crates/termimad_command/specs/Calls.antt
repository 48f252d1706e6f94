-- What the words of a call ask for, and why they are no call.
use Rattle.std.specs.Prelude.{◌≡◌, ◌≢◌, ◌⊎◌, ◌&&◌, ◌||◌, Bool, true, false, List, [], ◌∷◌, map, drop, Option, Some, None, is_some, option_map, codes, ⊤, if◌then◌else◌}
use Rattle.std.specs.Borrow.{Bor}
use Rattle.std.specs.Str.{bytes_eq}
use Rattle.clap.specs.Words.{IsAmong, Text}
use Rattle.clap.specs.declared.error.kind.ErrorKind.{ErrorKind}
use Rattle.clap.specs.declared.error.kind.ErrorKind.TheVariants.{OutOfMemory}
use Rattle.termimad_options.specs.Calls.{AreOtherLinks, IsAnswer, IsCallOf, mistakes_of}
use Rattle.termimad_options.specs.Places.{has_controls, place_said, words_left}
use Rattle.termimad_options.specs.declared.calls.Call.{Call}
use Rattle.termimad_command.specs.declared.asking.Request.{Request}
use Rattle.termimad_command.specs.declared.asking.Request.TheVariants.{Call as SomeCall, Answer}
use Rattle.termimad_command.specs.declared.refusals.Refusal.{Refusal}
use Rattle.termimad_command.specs.declared.refusals.Refusal.TheVariants.{Mistaken, Lacking, Misplaced, Memory}

-- ---- the words

-- the first word asks for the plan of a call
abbrev pub asks_plan : List Text → Bool
asks_plan [] = false
asks_plan (arg ∷ args) = bytes_eq arg (codes "--plan")

-- the words behind --plan, or all without it
abbrev pub words_behind : List Text → List Text
words_behind args = if asks_plan args then drop 1 args else args

-- The words of a call: the program's name and those behind it. Of these some are options, and one says where a text is shown first.
pub record AreParted (args options : List Text) (place : Option Text) : Type 0 where
  pub words : List (Bor Text)
  pub all : map (λ word. word.now) words ≡ codes "termimad" ∷ words_behind args
  pub left : options ≡ map (λ word. word.now) (words_left words)
  pub said : place ≡ option_map (λ word. word.now) (place_said words)

-- ---- what they ask for

-- the call asks for what isn't there yet: what isn't Markdown as it comes
abbrev pub asks_more : Call → Bool
asks_more call = (call.streams || call.lives) && is_some call.grammar

-- the words ask for an answer: help or the version
abbrev pub AsksAnswer : List Text → Type 0
AsksAnswer words = (kind : ErrorKind) × IsAmong kind (mistakes_of words) × IsAnswer kind

-- what words ask for: a call, or an answer
abbrev pub Asks : List Text → Request → Type 0
Asks words (SomeCall call) = IsCallOf words call × (asks_more call ≡ false)
Asks words (Answer text) = AsksAnswer words

-- the words have a mistake
abbrev pub AreMistaken : List Text → Type 0
AreMistaken words = ((kind : ErrorKind) × IsAmong kind (mistakes_of words) × ¬ (IsAnswer kind)) ⊎ AreOtherLinks words

-- why words are refused: they have a mistake, they ask for what isn't there yet, or there is no memory
abbrev pub RefusesCall : List Text → Refusal → Type 0
RefusesCall words (Mistaken text) = AreMistaken words
RefusesCall words Lacking = (call : Call) × IsCallOf words call × (asks_more call ≡ true)
RefusesCall words Memory = ⊤
RefusesCall words _ = ⊥

-- the word that says where a text is shown first has characters that a terminal obeys
abbrev pub is_misplaced : Option Text → Bool
is_misplaced None = false
is_misplaced (Some word) = has_controls word

-- why a call is refused: by the word that says where a text is shown first, or by the others
abbrev pub RefusesWords : List Text → Option Text → Refusal → Type 0
RefusesWords words place refusal = ((refusal ≡ Misplaced) × (is_misplaced place ≡ true)) ⊎ RefusesCall words refusal

-- ---- by the kind of an error

-- an error of this kind tells this
abbrev pub IsToldBy : ErrorKind → Request → Type 0
IsToldBy kind (SomeCall call) = ⊥
IsToldBy kind (Answer text) = IsAnswer kind

-- an error of this kind is refused so
abbrev pub IsRefusedBy : ErrorKind → Refusal → Type 0
IsRefusedBy kind (Mistaken text) = (kind ≢ OutOfMemory) × ¬ (IsAnswer kind)
IsRefusedBy kind Memory = ⊤
IsRefusedBy kind _ = ⊥
