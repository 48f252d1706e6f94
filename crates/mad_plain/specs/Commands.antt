-- The commands of a text for a terminal: how many characters one has behind its ESC, 0 where there is none.
use Rattle.std.specs.Prelude.{ℕ, ◌+◌, ◌==◌, ◌&&◌, ◌||◌, not, Bool, true, false, if◌then◌else◌, List, [], ◌∷◌, slice_index}
use Rattle.std.specs.Char.{is_control}
use Rattle.std.specs.Int.{is_in_range}

-- the character is a parameter's: a digit, or one of : ; < = > ?
abbrev pub is_parameter : ℕ → Bool
is_parameter c = is_in_range 0x30 0x3F c

-- the character may stand before the final one: a space, or a sign of ASCII up to /
abbrev pub is_intermediate : ℕ → Bool
is_intermediate c = is_in_range 0x20 0x2F c

-- the character ends a control sequence: one from @ up to ~
abbrev pub is_final : ℕ → Bool
is_final c = is_in_range 0x40 0x7E c

-- behind ESC it begins a string: one of P X ] ^ _
abbrev pub opens_string : ℕ → Bool
opens_string c = ((c == 80) || (c == 88)) || ((c == 93) || ((c == 94) || (c == 95)))

-- a control sequence: parameters, intermediates, a final character; so many characters came before, intermediates among them or not
abbrev pub sequence_from : Bool → ℕ → List ℕ → ℕ
sequence_from middle at [] = 0
sequence_from middle at (c ∷ cs) =
    if is_parameter c && not middle then sequence_from false (at + 1) cs
    else if is_intermediate c then sequence_from true (at + 1) cs
    else if is_final c then at + 1
    else 0

-- a string: characters that aren't control characters, and BEL (7) or ESC \ (27, 92)
abbrev pub string_from : ℕ → List ℕ → ℕ
string_from at [] = 0
string_from at (c ∷ cs) =
    if c == 7 then at + 1
    else if c == 27 then (if slice_index cs 0 == 92 then at + 2 else 0)
    else if is_control c then 0
    else string_from (at + 1) cs

-- a character that may end another escape, behind intermediates or alone
abbrev pub ends_escape : Bool → ℕ → Bool
ends_escape middle c = is_in_range 0x30 0x7E c && (middle || not ((c == 91) || opens_string c))

-- another escape: intermediates, and a character that may end it
abbrev pub escape_from : Bool → ℕ → List ℕ → ℕ
escape_from middle at [] = 0
escape_from middle at (c ∷ cs) = if is_intermediate c then escape_from true (at + 1) cs else if ends_escape middle c then at + 1 else 0

-- the command in front, behind ESC
abbrev pub command_len : List ℕ → ℕ
command_len [] = 0
command_len (c ∷ cs) = if c == 91 then sequence_from false 1 cs else if opens_string c then string_from 1 cs else escape_from false 0 (c ∷ cs)
