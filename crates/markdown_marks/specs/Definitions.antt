-- Definitions of links at the beginning of a paragraph: [label]: destination "title". A text is given with its lines joined by newlines.
use Rattle.std.specs.Prelude.{ℕ, zero, suc, ◌+◌, ◌-◌, Bool, true, false, not, ◌||◌, ◌&&◌, ◌==◌, nat_lt, nat_le, List, [], ◌∷◌, length, drop, Option, Some, None, if◌then◌else◌}
use Rattle.markdown_marks.specs.Bytes.{is_blank_byte, first, without_blanks}

-- what follows, if it is there
abbrev pub after : Option (List ℕ) → (List ℕ → Option (List ℕ)) → Option (List ℕ)
after None next = None
after (Some rest) next = next rest

-- a blank, or the end of a line
abbrev pub is_space_byte : ℕ → Bool
is_space_byte b = is_blank_byte b || (b == 10)

-- ASCII punctuation
abbrev pub is_mark_byte : ℕ → Bool
is_mark_byte b = (nat_le 33 b && nat_le b 47) || (nat_le 58 b && nat_le b 64) || (nat_le 91 b && nat_le b 96) || (nat_le 123 b && nat_le b 126)

-- how many characters a byte counts for: those that go on in a character of several bytes count for none
abbrev pub counted : ℕ → ℕ
counted b = if nat_le 128 b && nat_lt b 192 then 0 else 1

-- What follows a label, after its opening bracket. It has at most 999 characters or escapes, no bracket but escaped ones, and not blanks alone.
unfoldable pub after_label : (count : ℕ) (some escaped : Bool) → List ℕ → Option (List ℕ)
after_label count some escaped [] = None
after_label count some escaped (b ∷ bs) =
    let plain = after_label count true false bs in
    let on = after_label (count + counted b) (some || not (is_space_byte b)) (b == 92) bs in
    if escaped then plain
    else if b == 93 then (if some then Some bs else None)
    else if (b == 91) || nat_le 999 count then None
    else on

-- what follows a destination between < and >, which is in one line
unfoldable pub after_angle : Bool → List ℕ → Option (List ℕ)
after_angle escaped [] = None
after_angle escaped (b ∷ bs) =
    let plain = after_angle false bs in
    let on = after_angle (b == 92) bs in
    if b == 10 then None
    else if escaped then plain
    else if b == 62 then Some bs
    else if b == 60 then None
    else on

-- the end of a destination without < and >: its parentheses are nested
abbrev pub bare_end : ℕ → List ℕ → Option (List ℕ)
bare_end depth rest = if depth == 0 then Some rest else None

-- What follows a destination up to a blank or control character. It has nested parentheses, at most 32 deep, and others that are escaped.
unfoldable pub after_bare : (depth : ℕ) (escaped : Bool) → List ℕ → Option (List ℕ)
after_bare depth escaped [] = bare_end depth []
after_bare depth escaped (b ∷ bs) =
    let plain = after_bare depth false bs in
    let deeper = after_bare (depth + 1) false bs in
    let out = after_bare (depth - 1) false bs in
    let on = after_bare depth (b == 92) bs in
    if escaped && is_mark_byte b then plain
    else if nat_le b 32 || (b == 127) then bare_end depth (b ∷ bs)
    else if b == 40 then (if nat_le 32 depth then None else deeper)
    else if b == 41 then (if depth == 0 then Some (b ∷ bs) else out)
    else on

-- a destination of some bytes
abbrev pub if_shorter : List ℕ → Option (List ℕ) → Option (List ℕ)
if_shorter text None = None
if_shorter text (Some rest) = if length rest == length text then None else Some rest

-- what follows a destination, of either form
abbrev pub after_destination : List ℕ → Option (List ℕ)
after_destination text = if first text == 60 then after_angle false (drop 1 text) else if_shorter text (after_bare 0 false text)

-- what follows a title that this byte ends
unfoldable pub after_title : (close : ℕ) (escaped : Bool) → List ℕ → Option (List ℕ)
after_title close escaped [] = None
after_title close escaped (b ∷ bs) =
    let plain = after_title close false bs in
    let on = after_title close (b == 92) bs in
    if escaped then plain
    else if b == close then Some bs
    else if (b == 40) && (close == 41) then None
    else on

-- a title in double or single quotes, or in parentheses
abbrev pub title_after : List ℕ → Option (List ℕ)
title_after text =
    if first text == 34 then after_title 34 false (drop 1 text)
    else if first text == 39 then after_title 39 false (drop 1 text)
    else if first text == 40 then after_title 41 false (drop 1 text)
    else None

-- what follows the end of a line that is in front
abbrev pub line_ended : List ℕ → Option (List ℕ)
line_ended [] = Some []
line_ended (b ∷ bs) = if b == 10 then Some bs else None

-- what follows a line of which nothing but blanks is left
abbrev pub after_line : List ℕ → Option (List ℕ)
after_line text = line_ended (without_blanks text)

-- without an end of a line in front, and the blanks behind it
abbrev pub after_newline : List ℕ → List ℕ
after_newline [] = []
after_newline (b ∷ bs) = if b == 10 then without_blanks bs else b ∷ bs

-- without the blanks in front, among which may be the end of one line
abbrev pub after_space : List ℕ → List ℕ
after_space text = after_newline (without_blanks text)

-- the first, or else the second
abbrev pub or_else : Option (List ℕ) → Option (List ℕ) → Option (List ℕ)
or_else None otherwise = otherwise
or_else (Some rest) otherwise = Some rest

-- a title after blanks, and then the end of its line
abbrev pub titled : List ℕ → Option (List ℕ)
titled text = if length (after_space text) == length text then None else after (title_after (after_space text)) after_line

-- after the destination: a title, or nothing more in this line
abbrev pub after_target : List ℕ → Option (List ℕ)
after_target text = or_else (titled text) (after_line text)

-- what follows a definition, which is left from its colon on
abbrev pub after_colon : List ℕ → Option (List ℕ)
after_colon text = if first text == 58 then after (after_destination (after_space (drop 1 text))) after_target else None

-- what follows a definition, which some bytes of the text are
unfoldable pub after_definition : List ℕ → Option (List ℕ)
after_definition text = if first text == 91 then after (after_label 0 false false (drop 1 text)) after_colon else None

-- a definition is in front, and others are the rest
abbrev pub defined_then : Option (List ℕ) → (List ℕ → Bool) → Bool
defined_then None others = false
defined_then (Some rest) others = others rest

-- whether a text is nothing but at most so many definitions
unfoldable pub are_definitions : ℕ → List ℕ → Bool
are_definitions count [] = true
are_definitions zero (b ∷ bs) = false
are_definitions (suc count) (b ∷ bs) = defined_then (after_definition (b ∷ bs)) (are_definitions count)
