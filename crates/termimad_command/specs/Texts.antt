-- The texts of a call, one after the other.
use Rattle.std.specs.Prelude.{◌≡◌, ◌⊎◌, ◌&&◌, ℕ, Bool, List, [], ◌∷◌, codes, Option, Ok, ⊤}
use Rattle.std.specs.Bool.{MatchBool}
use Rattle.std.specs.Borrow.{Bor}
use Rattle.std.specs.Str.{bytes_eq}
use Rattle.mad_term.specs.Trace.{Trace}
use Rattle.termimad_given.specs.Given.{Held}
use Rattle.termimad_options.specs.Calls.{Reading}
use Rattle.termimad_options.specs.Names.{reading_of_file}
use Rattle.termimad_run.specs.Reading.{ReadsSome, ReadsToFault, ReadsWhole}
use Rattle.termimad_words.specs.declared.failure.Failure.{Failure}
use Rattle.termimad_words.specs.declared.failure.Failure.TheVariants.{Memory as NoMemory}
use Rattle.termimad_command.specs.Written.{FailsInStream, IsStreamed, RefusesBytes, Streams, WritesText, text_of}
use Rattle.termimad_command.specs.declared.refusals.Obstacle.TheVariants.{Other}
use Rattle.termimad_command.specs.declared.refusals.Refusal.{Refusal}
use Rattle.termimad_command.specs.declared.refusals.Refusal.TheVariants.{Unreadable, Memory}
use Rattle.termimad_command.specs.declared.writing.Look.{Look}

-- ---- reading

-- what makes of a call that the input isn't read, which has that name
abbrev pub input_refusal : Bor (List ℕ) → Failure → Refusal
input_refusal name NoMemory = Memory
input_refusal name _ = Unreadable name Other

-- why the input isn't read whole: a fault, or no memory for its bytes
abbrev pub FailsAtInput : List ℕ → Trace → Refusal → Trace → Type 0
FailsAtInput name old (Unreadable given obstacle) new = (given.now ≡ name) × ReadsToFault old new
FailsAtInput name old Memory new = ReadsSome old new
FailsAtInput name old _ new = ⊥

-- why the text of a name isn't read
abbrev pub IsUnreadable : List ℕ → Refusal → Type 0
IsUnreadable name (Unreadable given obstacle) = given.now ≡ name
IsUnreadable name Memory = ⊤
IsUnreadable name _ = ⊥

-- these are the bytes of the text of a name: of the input, which is read to its end, where the name is -
abbrev pub IsReadAs : Held → List ℕ → Trace → List ℕ → Trace → Type 0
IsReadAs holds name old bytes new = MatchBool (bytes_eq name (codes "-")) (ReadsWhole old bytes new) (holds name bytes × (new ≡ old))

-- the text of a name isn't read; what that did to the input
abbrev pub IsUnread : List ℕ → Trace → Refusal → Trace → Type 0
IsUnread name old refusal new = MatchBool (bytes_eq name (codes "-")) (FailsAtInput name old refusal new) (IsUnreadable name refusal × (new ≡ old))

-- ---- showing

-- the text of a name is the input, and is written as it comes
abbrev pub comes : Look → List ℕ → Bool
comes look name = look.streams && bytes_eq name (codes "-")

-- The text of a name is read whole, as is said or by its name, and written.
pub record IsShownWhole (holds : Held) (look : Look) (said : Option Reading) (name : List ℕ) (old new : Streams) : Type 0 where
  pub bytes : List ℕ
  pub read : IsReadAs holds name old.input bytes new.input
  pub wrote : WritesText {T = Unit {0}} look (reading_of_file said name) (text_of bytes) old.out (Ok (tt {0})) new.out

-- It is read, and writing it is refused.
pub record IsUnwritten (holds : Held) (look : Look) (said : Option Reading) (name : List ℕ) (refusal : Refusal) (old new : Streams) : Type 0 where
  pub bytes : List ℕ
  pub read : IsReadAs holds name old.input bytes new.input
  pub refused : RefusesBytes look (reading_of_file said name) bytes old.out refusal new.out

-- It isn't read, and nothing is written; or writing it is refused.
abbrev pub IsUnshownWhole : Held → Look → Option Reading → List ℕ → Refusal → Streams → Streams → Type 0
IsUnshownWhole holds look said name refusal old new =
    (IsUnread name old.input refusal new.input × (new.out ≡ old.out)) ⊎ IsUnwritten holds look said name refusal old new

-- the text of a name is shown: as it comes, or else whole
abbrev pub IsShown : Held → Look → Option Reading → List ℕ → Streams → Streams → Type 0
IsShown holds look said name old new =
    MatchBool (comes look name) (IsStreamed look old new) (IsShownWhole holds look said name old new)

-- it isn't, or not all of it
abbrev pub IsUnshown : Held → Look → Option Reading → List ℕ → Refusal → Streams → Streams → Type 0
IsUnshown holds look said name refusal old new =
    MatchBool (comes look name) (FailsInStream look name refusal old new) (IsUnshownWhole holds look said name refusal old new)

-- the texts of names are shown, one after the other
abbrev pub AreShown : Held → Look → Option Reading → List (List ℕ) → Streams → Streams → Type 0
AreShown holds look said [] old new = new ≡ old
AreShown holds look said (name ∷ names) old new = (mid : Streams) × IsShown holds look said name old mid × AreShown holds look said names mid new

-- the first of them are shown, and the next one isn't
abbrev pub FailsAmong : Held → Look → Option Reading → List (List ℕ) → Refusal → Streams → Streams → Type 0
FailsAmong holds look said [] refusal old new = ⊥
FailsAmong holds look said (name ∷ names) refusal old new =
    IsUnshown holds look said name refusal old new
    ⊎ ((mid : Streams) × IsShown holds look said name old mid × FailsAmong holds look said names refusal mid new)
