-- Which events the sequences after `ESC [` are, by their numbers and the letter that ends them.
use Rattle.std.specs.Prelude.{ℕ, ◌+◌, ◌-◌, ◌*◌, ◌/◌, ◌%◌, ◌^◌, ◌==◌, nat_lt, nat_le, ◌&&◌, List, [], ◌∷◌, Option, Some, None, option_map, if◌then◌else◌}
use Rattle.mad_term.specs.declared.keys.KeyCode.{KeyCode}
use Rattle.mad_term.specs.declared.keys.KeyCode.TheVariants.{BackTab}
use Rattle.mad_term.specs.declared.mouse.MouseButton.TheVariants.{Left, Right, Middle}
use Rattle.mad_term.specs.declared.mouse.MouseEventKind.{MouseEventKind}
use Rattle.mad_term.specs.declared.mouse.MouseEventKind.TheVariants.{Down, Up, Drag, Moved, ScrollDown, ScrollUp}
use Rattle.mad_term.specs.declared.events.Event.{Event}
use Rattle.mad_term.specs.declared.events.Event.TheVariants.{Key, Mouse, Resize, FocusGained, FocusLost}
use Rattle.mad_keys.specs.Keys.{held, key_with, letter_key, number_key}

-- a key without modifiers, if it is one
abbrev pub plain_key : Option KeyCode → Option Event
plain_key code = option_map (λ code. Key (key_with 0 code)) code

-- a key with modifiers: the number that tells them is one more than theirs
abbrev pub held_key : ℕ → Option KeyCode → Option Event
held_key number code =
    if nat_le 2 number && nat_le number 8 then option_map (λ code. Key (key_with (number - 1) code)) code else None

-- the screen has this size
abbrev pub size_event : ℕ → ℕ → Option Event
size_event columns rows =
    if nat_le 1 columns && nat_lt columns (2 ^ 16) && nat_le 1 rows && nat_lt rows (2 ^ 16) then Some (Resize columns rows) else None

-- the event of a letter without numbers: 90 is `Z`, 73 `I`, 79 `O`
abbrev pub letter_event : ℕ → Option Event
letter_event letter =
    if letter == 90 then Some (Key (key_with 0 BackTab))
    else if letter == 73 then Some FocusGained
    else if letter == 79 then Some FocusLost
    else plain_key (letter_key letter)

-- The event of two numbers and a letter. `1 ; number` and a letter, or `number ; number ~`, is a key with modifiers, and `row ; column R` tells where the
-- cursor is, at the screen's last cell after a far move. So `1 ; 5 R` is F3 with Control.
abbrev pub pair_event : ℕ → ℕ → ℕ → Option Event
pair_event first second letter =
    if letter == 126 then held_key second (number_key first)
    else if first == 1 then held_key second (letter_key letter)
    else if letter == 82 then size_event second first
    else None

-- the event of a sequence, by its numbers and its letter: 126 is `~`, and `8 ; rows ; columns t` tells the size (116)
abbrev pub sequence_event : List ℕ → ℕ → Option Event
sequence_event [] letter = letter_event letter
sequence_event (n ∷ []) letter = if letter == 126 then plain_key (number_key n) else None
sequence_event (n ∷ m ∷ []) letter = pair_event n m letter
sequence_event (n ∷ rows ∷ columns ∷ []) letter = if n == 8 && letter == 116 then size_event columns rows else None
sequence_event _ letter = None

-- ---- the mouse

-- What was done, by the number of the button and of the motion (32), and by the letter: `M` (77), or `m` (109) where a button came up.
abbrev pub mouse_kind : ℕ → ℕ → Option MouseEventKind
mouse_kind number letter =
    if letter == 109 then
    (if number == 0 then Some (Up Left) else if number == 1 then Some (Up Middle) else if number == 2 then Some (Up Right) else None)
    else if letter == 77 then
    (if number == 0 then Some (Down Left) else if number == 1 then Some (Down Middle) else if number == 2 then Some (Down Right)
    else if number == 32 then Some (Drag Left) else if number == 33 then Some (Drag Middle) else if number == 34 then Some (Drag Right)
    else if number == 35 then Some Moved
    else if number == 64 then Some ScrollUp else if number == 65 then Some ScrollDown else None)
    else None

-- What was done in a cell, whose column and row are counted from 1. In the first number Shift counts 4, Alt 8 and Control 16; the rest of it says
-- what was done.
abbrev pub cell_event : ℕ → ℕ → ℕ → ℕ → Option Event
cell_event number column row letter =
    if nat_le 1 column && nat_le column (2 ^ 16) && nat_le 1 row && nat_le row (2 ^ 16) then
    option_map (λ kind. Mouse (record { kind = kind; column = column - 1; row = row - 1; modifiers = held (number / 4 % 8) }))
    (mouse_kind (number % 4 + 32 * (number / 32)) letter)
    else None

-- the event of a sequence of the mouse, by its numbers and its letter
abbrev pub mouse_event : List ℕ → ℕ → Option Event
mouse_event (number ∷ column ∷ row ∷ []) letter = cell_event number column row letter
mouse_event _ letter = None
