-- How a run ends that fails: its status, and what it says.
use Rattle.std.specs.Prelude.{◌≡◌, ◌⊎◌, ℕ, List, codes}
use Rattle.mad_term.specs.Trace.{Trace, after, CutShort}
use Rattle.mad_term.specs.declared.Error.{Error}
use Rattle.mad_term.specs.declared.Error.TheVariants.{IO, InsufficientWidth, Memory as NoMemory}
use Rattle.mad_json.specs.declared.SkinError.{SkinError}
use Rattle.mad_json.specs.declared.SkinError.TheVariants as skin_error
use Rattle.termimad_words.specs.declared.failure.Failure.{Failure}
use Rattle.termimad_words.specs.declared.failure.Failure.TheVariants.{Io, Usage, NotUtf8, Skin, Memory}

-- its status
abbrev pub status_of : Failure → ℕ
status_of Io = 1
status_of Usage = 2
status_of NotUtf8 = 3
status_of Skin = 4
status_of Memory = 5

-- the line on standard error
abbrev pub failure_line : Failure → List ℕ
failure_line Io = codes "termimad-view: io\n"
failure_line Usage = codes "usage: termimad-view area L T W H [SKIN] | text W [SKIN] | inline [SKIN]\n"
failure_line NotUtf8 = codes "termimad-view: input is not UTF-8\n"
failure_line Skin = codes "termimad-view: skin\n"
failure_line Memory = codes "termimad-view: memory\n"

-- what the refusal of a writing call makes of a run; none refuses by a width
abbrev pub failure_of : Error → Failure
failure_of (IO e) = Io
failure_of (InsufficientWidth e) = Io
failure_of NoMemory = Memory

-- the device took the text, or a front of it and then failed once
abbrev pub SaysOnce : Trace → List ℕ → Trace → Type 0
SaysOnce old text new = (new ≡ after old text) ⊎ CutShort old text new

-- what the refusal of a skin makes of a run
abbrev pub skin_failure : SkinError → Failure
skin_failure skin_error.Memory = Memory
skin_failure _ = Skin
