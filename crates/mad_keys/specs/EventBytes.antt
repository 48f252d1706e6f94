-- Which bytes are which event.
use Rattle.std.specs.Prelude.{◌≡◌, ◌≢◌, ◌⊎◌, ℕ, List, [], ◌∷◌, ◌++◌, Option, Some, MatchOption, encode_utf8}
use Rattle.std.specs.Char.{IsScalar}
use Rattle.mad_term.specs.declared.events.Event.{Event}
use Rattle.mad_term.specs.declared.events.Event.TheVariants.{Key}
use Rattle.mad_term.specs.Commands.{numbers_bytes, command_bytes}
use Rattle.mad_keys.specs.Digits.{AreSmall}
use Rattle.mad_keys.specs.Keys.{escape_key, char_key, letter_key, console_key}
use Rattle.mad_keys.specs.Sequences.{plain_key, sequence_event, mouse_event}

-- a character but ESC, without a modifier beside the one that its byte tells
pub record IsCharBytes (event : Event) (bytes : List ℕ) : Type 0 where
  pub char : ℕ
  pub scalar : IsScalar char
  pub no_escape : char ≢ 27
  pub written : bytes ≡ encode_utf8 char
  pub pressed : event ≡ Key (char_key 0 char)

-- a character with Alt: after ESC. `ESC [` (91) and `ESC O` (79) begin sequences.
pub record IsAltBytes (event : Event) (bytes : List ℕ) : Type 0 where
  pub char : ℕ
  pub scalar : IsScalar char
  pub no_escape : char ≢ 27
  pub no_bracket : char ≢ 91
  pub no_application : char ≢ 79
  pub written : bytes ≡ 27 ∷ encode_utf8 char
  pub pressed : event ≡ Key (char_key 2 char)

-- a sequence: `ESC [`, its numbers and a letter
pub record IsSequenceBytes (event : Event) (bytes : List ℕ) : Type 0 where
  pub numbers : List ℕ
  pub letter : ℕ
  pub small : AreSmall numbers
  pub written : bytes ≡ command_bytes numbers letter
  pub told : sequence_event numbers letter ≡ Some event

-- the mouse: `ESC [ <` (60), its numbers and a letter
pub record IsMouseBytes (event : Event) (bytes : List ℕ) : Type 0 where
  pub numbers : List ℕ
  pub letter : ℕ
  pub small : AreSmall numbers
  pub written : bytes ≡ 27 ∷ 91 ∷ 60 ∷ (numbers_bytes numbers ++ letter ∷ [])
  pub told : mouse_event numbers letter ≡ Some event

-- a key in a terminal whose keys are set to be those of an application: `ESC O` (79) and a letter
pub record IsApplicationBytes (event : Event) (bytes : List ℕ) : Type 0 where
  pub letter : ℕ
  pub written : bytes ≡ 27 ∷ 79 ∷ letter ∷ []
  pub told : plain_key (letter_key letter) ≡ Some event

-- a function key of the Linux console: `ESC [ [` and a letter
pub record IsConsoleBytes (event : Event) (bytes : List ℕ) : Type 0 where
  pub letter : ℕ
  pub written : bytes ≡ 27 ∷ 91 ∷ 91 ∷ letter ∷ []
  pub told : plain_key (console_key letter) ≡ Some event

-- these bytes are this event
abbrev pub IsEventBytes : Event → List ℕ → Type 0
IsEventBytes event bytes =
    ((bytes ≡ 27 ∷ []) × (event ≡ Key escape_key))
    ⊎ IsCharBytes event bytes
    ⊎ IsAltBytes event bytes
    ⊎ IsSequenceBytes event bytes
    ⊎ IsMouseBytes event bytes
    ⊎ IsApplicationBytes event bytes
    ⊎ IsConsoleBytes event bytes

-- the event that these bytes are, or none if they are none
abbrev pub IsEventOf : List ℕ → Option Event → Type 0
IsEventOf bytes event = MatchOption event ((e : Event) → ¬ IsEventBytes e bytes) (λ e. IsEventBytes e bytes)
