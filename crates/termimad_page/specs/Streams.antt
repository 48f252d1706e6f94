-- The program's run on the standard streams.
use Rattle.std.specs.Prelude.{◌≡◌, ◌⊎◌, ℕ, List, [], Some, Result}
use Rattle.mad_term.specs.Stream.{untold}
use Rattle.mad_term.specs.Trace.{Trace}
use Rattle.termimad_given.specs.Given.{Args, GivesWords, LacksWords, files}
use Rattle.termimad_given.specs.declared.arguments.NoWords.{NoWords}
use Rattle.termimad_given.specs.declared.arguments.NoWords.TheVariants.{Undecoded, Memory as NoMemory}
use Rattle.termimad_words.specs.declared.failure.Failure.TheVariants.{Usage, Memory}
use Rattle.termimad_page.specs.Ends.{Says, status_of}
use Rattle.termimad_page.specs.Runs.{Devices, HasRun, devices}
use Rattle.termimad_page.specs.declared.failing.Refusal.{Refusal}
use Rattle.termimad_page.specs.declared.failing.Refusal.TheVariants.{Failed}

-- what makes of a run that there are no words: words that aren't UTF-8 are no call
abbrev pub refusal_of_words : NoWords → Refusal
refusal_of_words Undecoded = Failed Usage
refusal_of_words NoMemory = Failed Memory

-- why nothing is run: there are no words, or there is no memory
abbrev pub RefusesGiven : {E : Type 0} → Result Args E → Refusal → Type 0
RefusesGiven given refusal = (refusal ≡ Failed Memory) ⊎ ((lacking : NoWords) × LacksWords given lacking × (refusal ≡ refusal_of_words lacking))

-- a screen in which nothing was put
abbrev pub nothing_put : Trace
nothing_put = record { bytes = Some []; faults = 0; flushes = 0 }

-- A run on the words that are given, on devices that had done nothing yet, ended with this status. Standard error went from the one trace to the other.
pub record HasRunGiven {E : Type 0} (given : Result Args E) (old : Trace) (status : ℕ) (new : Trace) : Type 0 where
  pub words : List (List ℕ)
  pub gives : GivesWords given words
  pub ended : Devices
  pub ran : HasRun files words (devices untold nothing_put untold) old status ended new

-- nothing is run, which is said, with its status
pub record IsRefused {E : Type 0} (given : Result Args E) (old : Trace) (status : ℕ) (new : Trace) : Type 0 where
  pub refusal : Refusal
  pub is : RefusesGiven given refusal
  pub status_is : status ≡ status_of refusal
  pub said : Says refusal old new

-- the program has run on the words that are given, or has said why not; this is its status
abbrev pub HasEnded : {E : Type 0} → Result Args E → Trace → ℕ → Trace → Type 0
HasEnded given old status new = HasRunGiven given old status new ⊎ IsRefused given old status new
