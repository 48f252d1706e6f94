-- The program's run on the standard streams.
use Rattle.std.specs.Prelude.{◌≡◌, ◌⊎◌, ℕ, List, Result, Ok, Err}
use Rattle.mad_term.specs.Stream.{untold}
use Rattle.mad_term.specs.Trace.{Trace}
use Rattle.termimad_command.specs.Refusals.{Says, status_of}
use Rattle.termimad_command.specs.Runs.{HasRun}
use Rattle.termimad_command.specs.Written.{Streams, streams}
use Rattle.termimad_command.specs.declared.refusals.Refusal.{Refusal}
use Rattle.termimad_command.specs.declared.refusals.Refusal.TheVariants.{Undecoded, Memory}
use Rattle.termimad_given.specs.Given.{Args, GivesWords, LacksWords, files}
use Rattle.termimad_given.specs.declared.arguments.NoWords.{NoWords}
use Rattle.termimad_given.specs.declared.arguments.NoWords.TheVariants.{Undecoded as NoUtf8, Memory as NoMemory}
use Rattle.termimad_options.specs.Telling.{AreSurroundings}
use Rattle.termimad_options.specs.declared.plans.Surroundings.{Surroundings}
use Rattle.termimad_options.specs.declared.telling.Told.{Told}
use Rattle.termimad_program.specs.Environments.{Tells}
use Rattle.termimad_program.specs.declared.environment.Environment.{Environment}

-- what makes of a call that there are no words: words that aren't UTF-8 are no call
abbrev pub refusal_of_words : NoWords → Refusal
refusal_of_words NoUtf8 = Undecoded
refusal_of_words NoMemory = Memory

-- why nothing is run: there are no words, or there is no memory
abbrev pub RefusesGiven : {E : Type 0} → Result Args E → Refusal → Type 0
RefusesGiven given refusal = (refusal ≡ Memory) ⊎ ((lacking : NoWords) × LacksWords given lacking × (refusal ≡ refusal_of_words lacking))

-- what is known of where the call is made, of the environment that the system gives
abbrev pub AreGiven : {E : Type 0} → Result Environment E → Surroundings → Type 0
AreGiven (Ok environment) around = (told : Told) × Tells environment told × AreSurroundings told around
AreGiven (Err e) around = ⊥

-- A run on the words and in the environment that are given, on an input and an output that had done nothing yet, ended with this status. Standard
-- error went from the one trace to the other.
pub record HasRunGiven {E F : Type 0} (given : Result Args E) (environment : Result Environment F) (old : Trace) (status : ℕ) (new : Trace) : Type 0 where
  pub words : List (List ℕ)
  pub gives : GivesWords given words
  pub around : Surroundings
  pub are_given : AreGiven environment around
  pub ended : Streams
  pub ran : HasRun files words around (streams untold untold) old status ended new

-- nothing is run, which is said, with its status
pub record IsRefused {E : Type 0} (given : Result Args E) (old : Trace) (status : ℕ) (new : Trace) : Type 0 where
  pub refusal : Refusal
  pub is : RefusesGiven given refusal
  pub status_is : status ≡ status_of refusal
  pub said : Says refusal old new

-- the program has run on the words that are given, or has said why not; this is its status
abbrev pub HasEnded : {E F : Type 0} → Result Args E → Result Environment F → Trace → ℕ → Trace → Type 0
HasEnded given environment old status new = HasRunGiven given environment old status new ⊎ IsRefused given old status new
