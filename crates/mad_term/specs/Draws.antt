-- What a writing call does: the one word by which every writing call of the library says it.
use Rattle.std.specs.Prelude.{◌≡◌, ◌⊎◌, ℕ, List, Option, MatchOption, Result, Ok, Err, IsErrOf, MatchResult}
use Rattle.mad_term.specs.declared.errors.Error.{Error}
use Rattle.mad_term.specs.declared.errors.Error.TheVariants.{IO, InsufficientWidth, Memory}
use Rattle.mad_term.specs.Trace.{Trace, after, flushed, CutShort, Stopped}

-- What a writing call that was refused has done. A fault: a front of its text went out, then the one fault came.
-- Out of memory: a front of its text went out, and there was no fault. It refuses by nothing else.
abbrev pub Refused : Trace → List ℕ → Error → Trace → Type 0
Refused old text (IO e) new = CutShort old text new
Refused old text (InsufficientWidth e) new = ⊥
Refused old text Memory new = Stopped old text new

-- what a writing call does: its text goes out whole and nothing is flushed, or it was refused
abbrev pub Draws : {T : Type 0} → Trace → List ℕ → Result T Error → Trace → Type 0
Draws old text r new = MatchResult r (λ _. new ≡ after old text) (λ e. Refused old text e new)

-- What a call does that makes a value and writes it: it draws the text of one that is so; or memory for it was refused, and nothing went out.
abbrev pub DrawsSome : {A T : Type 0} → (A → Type 0) → (A → List ℕ) → Trace → Result T Error → Trace → Type 0
DrawsSome {A} is_so text old r new = ((x : A) × is_so x × Draws old (text x) r new) ⊎ (IsErrOf r Memory × (new ≡ old))

-- what a writing call does with a displayed value: the text that its type tells goes out, or some text where it tells none
abbrev pub DrawsDisplayed : {T : Type 0} → Trace → Option (List ℕ) → Result T Error → Trace → Type 0
DrawsDisplayed old told r new = MatchOption told ((text : List ℕ) × Draws old text r new) (λ text. Draws old text r new)

-- What a call does that writes and then flushes: its text goes out whole, and then there is one flush. Or it was refused as
-- the writing alone is. A fault of the flush counts as one that came after the whole text.
abbrev pub AndFlushes : {T : Type 0} → (Trace → Result T Error → Trace → Type 0) → Trace → Result T Error → Trace → Type 0
AndFlushes writes old r new =
    MatchResult r (λ x. (written : Trace) × writes old (Ok x) written × (new ≡ flushed written)) (λ e. writes old (Err e) new)

-- the same of one text
abbrev pub DrawsAndFlushes : {T : Type 0} → Trace → List ℕ → Result T Error → Trace → Type 0
DrawsAndFlushes old text r new = MatchResult r (λ _. new ≡ flushed (after old text)) (λ e. Refused old text e new)
