-- Why a call isn't done, or not all of it: its status, and what is said.
use Rattle.std.specs.Prelude.{◌≡◌, ◌⊎◌, ◌++◌, ℕ, List, codes, string_bytes}
use Rattle.std.specs.Borrow.{Bor}
use Rattle.std.specs.IoError.{error_kind}
use Rattle.std.specs.declared.io.Error.{Error as IoError}
use Rattle.std.specs.declared.io.ErrorKind.{ErrorKind}
use Rattle.std.specs.declared.io.ErrorKind.TheVariants.{BrokenPipe, IsADirectory, NotADirectory, NotFound, OutOfMemory, PermissionDenied}
use Rattle.mad_measure.specs.KeptCells.{shown_bytes}
use Rattle.mad_stream.specs.declared.source_error.SourceError.{SourceError}
use Rattle.mad_stream.specs.declared.source_error.SourceError.TheVariants.{Source, Device, NotUtf8 as NoText, Memory as NoRoom}
use Rattle.mad_term.specs.Trace.{Trace}
use Rattle.mad_term.specs.declared.errors.Error.{Error}
use Rattle.mad_term.specs.declared.errors.Error.TheVariants.{IO, InsufficientWidth, Memory as NoMemory}
use Rattle.termimad_words.specs.Failures.{SaysOnce}
use Rattle.termimad_command.specs.declared.refusals.Obstacle.{Obstacle}
use Rattle.termimad_command.specs.declared.refusals.Obstacle.TheVariants.{NoFile, Folder, Denied, NoText, Other}
use Rattle.termimad_command.specs.declared.refusals.Refusal.{Refusal}
use Rattle.termimad_command.specs.declared.refusals.Refusal.TheVariants.{Mistaken, Undecoded, Lacking, Misplaced, Skin, FaultySkin, Unreadable, NotUtf8, Output, Unread, Memory}

-- its status
abbrev pub status_of : Refusal → ℕ
status_of (Unreadable name obstacle) = 1
status_of Output = 1
status_of (Mistaken text) = 2
status_of Undecoded = 2
status_of Lacking = 2
status_of Misplaced = 2
status_of NotUtf8 = 3
status_of (Skin word obstacle) = 4
status_of (FaultySkin line) = 4
status_of Memory = 5
status_of Unread = 141

-- a line that says something of a name: what stands before it, what is printable of it, and the rest
abbrev pub named_line : List ℕ → List ℕ → List ℕ → List ℕ
named_line front name rest = front ++ (shown_bytes name ++ rest)

-- what the line says before a name whose text isn't read
abbrev pub front_of : Obstacle → List ℕ
front_of NoFile = codes "termimad: there is no file "
front_of _ = codes "termimad: "

-- what it says behind the name
abbrev pub rest_of : Obstacle → List ℕ
rest_of NoFile = codes "\n"
rest_of Folder = codes " is a folder\n"
rest_of Denied = codes " can't be read: permission denied\n"
rest_of NoText = codes " isn't UTF-8\n"
rest_of Other = codes " can't be read\n"

-- the line for the text of a name that isn't read
abbrev pub obstacle_line : List ℕ → Obstacle → List ℕ
obstacle_line name obstacle = named_line (front_of obstacle) name (rest_of obstacle)

-- the same without its name
abbrev pub short_line : List ℕ
short_line = codes "termimad: a text can't be read\n"

-- the line for a word that is no skin: nothing has that name, or why the text that it names isn't read
abbrev pub skin_line : List ℕ → Obstacle → List ℕ
skin_line word NoFile = named_line (codes "termimad: ") word (codes " is no name, no file and no JSON of a skin\n")
skin_line word obstacle = obstacle_line word obstacle

-- the same without the word
abbrev pub short_skin_line : List ℕ
short_skin_line = codes "termimad: SKIN is no name, no file and no JSON of a skin\n"

-- what is said on standard error, once; nothing, where nobody reads the output
abbrev pub Says : Refusal → Trace → Trace → Type 0
Says (Mistaken text) old new = SaysOnce old (string_bytes text) new
Says Undecoded old new = SaysOnce old (codes "termimad: a word isn't UTF-8\n") new
Says Lacking old new = SaysOnce old (codes "termimad: --stream and --live of what isn't Markdown aren't there yet\n") new
Says Misplaced old new = SaysOnce old (codes "termimad: +/TEXT and +?TEXT have no control characters\n") new
Says (Skin word obstacle) old new = SaysOnce old (skin_line word.now obstacle) new ⊎ SaysOnce old short_skin_line new
Says (FaultySkin line) old new = SaysOnce old (string_bytes line) new
Says (Unreadable name obstacle) old new = SaysOnce old (obstacle_line name.now obstacle) new ⊎ SaysOnce old short_line new
Says NotUtf8 old new = SaysOnce old (codes "termimad: what came isn't UTF-8\n") new
Says Output old new = SaysOnce old (codes "termimad: the output failed\n") new
Says Unread old new = new ≡ old
Says Memory old new = SaysOnce old (codes "termimad: out of memory\n") new

-- what a fault of this kind in writing makes of a call
abbrev pub refusal_by : ErrorKind → Refusal
refusal_by BrokenPipe = Unread
refusal_by OutOfMemory = Memory
refusal_by _ = Output

-- what the refusal of a writing call makes of a call
abbrev pub refusal_of : Error → Refusal
refusal_of (IO e) = refusal_by (error_kind e)
refusal_of (InsufficientWidth e) = Output
refusal_of NoMemory = Memory

-- why a text isn't read, by the kind of the fault
abbrev pub obstacle_of : ErrorKind → Obstacle
obstacle_of NotFound = NoFile
obstacle_of NotADirectory = NoFile
obstacle_of IsADirectory = Folder
obstacle_of PermissionDenied = Denied
obstacle_of _ = Other

-- what a fault of this kind in reading makes of a call
abbrev pub reading_by : Bor (List ℕ) → ErrorKind → Refusal
reading_by name OutOfMemory = Memory
reading_by name kind = Unreadable name (obstacle_of kind)

-- what a fault in reading the text of a name makes of a call
abbrev pub refusal_reading : Bor (List ℕ) → IoError → Refusal
refusal_reading name e = reading_by name (error_kind e)

-- what makes of a call that the text of a name isn't written whole as it comes
abbrev pub stream_refusal : Bor (List ℕ) → SourceError → Refusal
stream_refusal name (Source e) = refusal_reading name e
stream_refusal name (Device e) = refusal_by (error_kind e)
stream_refusal name NoText = NotUtf8
stream_refusal name NoRoom = Memory
