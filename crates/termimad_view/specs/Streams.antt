-- The program's run on the standard streams.
use Rattle.std.specs.Prelude.{◌≡◌, ◌⊎◌, ℕ, List, Result}
use Rattle.mad_term.specs.Stream.{untold}
use Rattle.mad_term.specs.Trace.{Trace}
use Rattle.termimad_given.specs.Given.{Args, GivesWords, LacksWords}
use Rattle.termimad_given.specs.declared.arguments.NoWords.{NoWords}
use Rattle.termimad_given.specs.declared.arguments.NoWords.TheVariants.{Undecoded, Memory as NoMemory}
use Rattle.termimad_run.specs.Answering.{RunsOrAnswers}
use Rattle.termimad_words.specs.Failures.{SaysOnce, failure_line, status_of}
use Rattle.termimad_words.specs.declared.failure.Failure.{Failure}
use Rattle.termimad_words.specs.declared.failure.Failure.TheVariants.{Usage, Memory}

-- what makes of a run that there are no words: words that aren't UTF-8 are no call
abbrev pub failure_of_words : NoWords → Failure
failure_of_words Undecoded = Usage
failure_of_words NoMemory = Memory

-- why nothing is run: there are no words, or there is no memory
abbrev pub RefusesGiven : {E : Type 0} → Result Args E → Failure → Type 0
RefusesGiven given failure = (failure ≡ Memory) ⊎ ((lacking : NoWords) × LacksWords given lacking × (failure ≡ failure_of_words lacking))

-- A run on the words that are given, or an answer to them, on an input and an output that had done nothing yet, ended with this status. Standard error
-- went from the one trace to the other.
pub record HasRunGiven {E : Type 0} (given : Result Args E) (old : Trace) (status : ℕ) (new : Trace) : Type 0 where
  pub words : List (List ℕ)
  pub gives : GivesWords given words
  pub input : Trace
  pub out : Trace
  pub ran : RunsOrAnswers words (record { input = untold; out = untold; err = old }) status (record { input = input; out = out; err = new })

-- nothing is run, which is said, with its status
pub record IsRefused {E : Type 0} (given : Result Args E) (old : Trace) (status : ℕ) (new : Trace) : Type 0 where
  pub failure : Failure
  pub is : RefusesGiven given failure
  pub status_is : status ≡ status_of failure
  pub said : SaysOnce old (failure_line failure) new

-- the program has run on the words that are given, or has said why not; this is its status
abbrev pub HasEnded : {E : Type 0} → Result Args E → Trace → ℕ → Trace → Type 0
HasEnded given old status new = HasRunGiven given old status new ⊎ IsRefused given old status new
