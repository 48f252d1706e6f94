-- How the event of bytes is found: by the first of them, and by what comes after. What `IsEventBytes` says is this event.
use Rattle.std.specs.Prelude.{ℕ, ◌==◌, List, [], ◌∷◌, ◌++◌, Option, Some, None, option_map, option_and_then, if◌then◌else◌}
use Rattle.std.specs.Str.{chars, is_utf8}
use Rattle.mad_term.specs.declared.events.Event.{Event}
use Rattle.mad_term.specs.declared.events.Event.TheVariants.{Key}
use Rattle.mad_keys.specs.Digits.{numbers_at}
use Rattle.mad_keys.specs.Keys.{escape_key, char_key, letter_key, console_key}
use Rattle.mad_keys.specs.Sequences.{plain_key, sequence_event, mouse_event}

-- the only one of a list
abbrev pub only : List ℕ → Option ℕ
only [] = None
only (c ∷ []) = Some c
only (c ∷ d ∷ cs) = None

-- the character that these bytes write, if they write one
abbrev pub char_at : List ℕ → Option ℕ
char_at bytes = if is_utf8 bytes then only (chars bytes) else None

-- the event of a character, with the modifiers of a number
abbrev pub char_event_at : ℕ → List ℕ → Option Event
char_event_at number bytes = option_map (λ c. Key (char_key number c)) (char_at bytes)

-- the event of numbers and the letter after them, where these bytes come first
abbrev pub numbers_event_at : (List ℕ → ℕ → Option Event) → List ℕ → List ℕ → Option Event
numbers_event_at event_of front [] = None
numbers_event_at event_of front (letter ∷ []) = option_and_then (λ numbers. event_of numbers letter) (numbers_at front)
numbers_event_at event_of front (a ∷ b ∷ bytes) = numbers_event_at event_of (front ++ a ∷ []) (b ∷ bytes)

-- the event of one letter
abbrev pub console_at : List ℕ → Option Event
console_at (letter ∷ []) = plain_key (console_key letter)
console_at _ = None

-- the event after `ESC [`
abbrev pub bracket_at : List ℕ → Option Event
bracket_at [] = None
bracket_at (a ∷ bytes) =
    if a == 91 then console_at bytes
    else if a == 60 then numbers_event_at mouse_event [] bytes
    else numbers_event_at sequence_event [] (a ∷ bytes)

-- the event after `ESC O`
abbrev pub application_at : List ℕ → Option Event
application_at (letter ∷ []) = plain_key (letter_key letter)
application_at _ = None

-- the event after ESC
abbrev pub escape_at : List ℕ → Option Event
escape_at [] = Some (Key escape_key)
escape_at (a ∷ bytes) =
    if a == 91 then bracket_at bytes
    else if a == 79 then application_at bytes
    else if a == 27 then None
    else char_event_at 2 (a ∷ bytes)

-- the event of bytes
abbrev pub event_at : List ℕ → Option Event
event_at [] = None
event_at (a ∷ bytes) = if a == 27 then escape_at bytes else char_event_at 0 (a ∷ bytes)
