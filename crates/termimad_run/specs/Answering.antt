-- Help and the version, which the program tells without reading anything.
use Rattle.std.specs.Prelude.{◌≡◌, ◌⊎◌, ◌++◌, ◌||◌, ℕ, Bool, List, [], ◌∷◌, Option, Some, None, Result, Ok, Err, codes, if◌then◌else◌}
use Rattle.std.specs.Str.{bytes_eq}
use Rattle.mad_term.specs.Draws.{Refused}
use Rattle.mad_term.specs.Trace.{Trace, after, failed, flushed}
use Rattle.mad_term.specs.declared.Error.{Error}
use Rattle.termimad_words.specs.Failures.{failure_of}
use Rattle.termimad_run.specs.ProgramRuns.{Answers, Devices, HasRun}
use Rattle.termimad_words.specs.declared.failure.Failure.{Failure}
use Rattle.termimad_words.specs.declared.failure.Failure.TheVariants.{Io}

-- the page of help
unfoldable pub help_text : List ℕ
help_text =
    codes "Reads a text from standard input, and writes it laid out in W columns.\n"
    ++ (codes "\n"
    ++ (codes "termimad-view markdown W [SKIN]         Markdown as people write it\n"
    ++ (codes "termimad-view code LANG W [SKIN]        code; LANG is a language, or a file\n"
    ++ (codes "termimad-view text W [SKIN]             the smaller grammar, line by line\n"
    ++ (codes "termimad-view inline [SKIN]             the same, as one line with its marks\n"
    ++ (codes "termimad-view area L T W H [SKIN]       the same, in an area of the screen\n"
    ++ (codes "termimad-view markdown-stream W [SKIN]  what markdown writes, as the text comes\n"
    ++ (codes "termimad-view live-markdown W H [SKIN]  the same in H rows, redrawn in place\n"
    ++ (codes "termimad-view stream W [SKIN]           what text writes, as the text comes\n"
    ++ (codes "termimad-view live W H [SKIN]           the same in H rows, redrawn in place\n"
    ++ (codes "termimad-view -h, --help                this page\n"
    ++ (codes "termimad-view -V, --version             the version\n"
    ++ (codes "\n"
    ++ (codes "SKIN is default, dark, light, or JSON text as {\"bold\":\"red\"}; of Markdown and\n"
    ++ codes "of code it is sixteen and none too. Without it no style is written.\n"))))))))))))))

-- the word asks for help
abbrev pub asks_help : List ℕ → Bool
asks_help word = bytes_eq word (codes "-h") || bytes_eq word (codes "--help")

-- the word asks for the version
abbrev pub asks_version : List ℕ → Bool
asks_version word = bytes_eq word (codes "-V") || bytes_eq word (codes "--version")

-- the answer that a word asks for
abbrev pub answer_of : List ℕ → Option (List ℕ)
answer_of word = if asks_help word then Some help_text else if asks_version word then Some (codes "termimad-view 0.3.0\n") else None

-- the answer that the words behind the program's name ask for: one word alone does
abbrev pub answer_to : List (List ℕ) → Option (List ℕ)
answer_to (word ∷ []) = answer_of word
answer_to _ = None

-- an answer goes out, and then the output is flushed; or it was refused, or the flush failed
abbrev pub WritesAnswer : {T : Type 0} → List ℕ → Trace → Result T Failure → Trace → Type 0
WritesAnswer text old (Ok x) new = new ≡ flushed (after old text)
WritesAnswer text old (Err failure) new =
    ((failure ≡ Io) × (new ≡ failed (after old text))) ⊎ ((e : Error) × (failure ≡ failure_of e) × Refused old text e new)

-- An answer was written, with this status; a failure is said.
pub record HasAnswered (text : List ℕ) (old old_err : Trace) (status : ℕ) (new new_err : Trace) : Type 0 where
  pub outcome : Result (Unit {0}) Failure
  pub wrote : WritesAnswer text old outcome new
  pub answered : Answers outcome status old_err new_err

-- what is done where the words ask for this answer, or for none: it is written, and nothing is read, or the program runs
abbrev pub DoesAsked : Option (List ℕ) → List (List ℕ) → Devices → ℕ → Devices → Type 0
DoesAsked (Some text) words old status new = HasAnswered text old.out old.err status new.out new.err × (new.input ≡ old.input)
DoesAsked None words old status new = HasRun words old status new

-- a run of the program, or an answer
abbrev pub RunsOrAnswers : List (List ℕ) → Devices → ℕ → Devices → Type 0
RunsOrAnswers words old status new = DoesAsked (answer_to words) words old status new
