-- Words that say where a text is shown first, as +20 and +/word. They stand before --, and aren't options.
use Rattle.std.specs.Prelude.{◌==◌, ◌||◌, ℕ, nat_lt, Bool, true, false, List, [], ◌∷◌, length, Option, Some, None, chars, codes, if◌then◌else◌}
use Rattle.std.specs.Borrow.{Bor}
use Rattle.std.specs.Char.{is_ascii_digit, is_control}
use Rattle.std.specs.List.{list_all, list_any}
use Rattle.std.specs.Option.{option_or}
use Rattle.std.specs.Str.{bytes_eq}

-- what stands behind the plus sign says it: G (71) the end, F (70) the end that is followed, / (47) and ? (63) what is sought, and digits a row
abbrev pub is_order : List ℕ → Bool
is_order [] = false
is_order (b ∷ bs) =
    if bytes_eq (b ∷ bs) (codes "G") || bytes_eq (b ∷ bs) (codes "F") then true
    else if b == 47 || b == 63 then nat_lt 0 (length bs) else list_all is_ascii_digit (b ∷ bs)

-- the word says where a text is shown first: a plus sign (43), and an order
unfoldable pub is_place : List ℕ → Bool
is_place [] = false
is_place (b ∷ bs) = if b == 43 then is_order bs else false

-- the word has characters that a terminal obeys
abbrev pub has_controls : List ℕ → Bool
has_controls word = list_any is_control (chars word)

-- the words that aren't places, and all from -- on
abbrev pub words_left : List (Bor (List ℕ)) → List (Bor (List ℕ))
words_left [] = []
words_left (word ∷ words) =
    if bytes_eq word.now (codes "--") then word ∷ words
    else if is_place word.now then words_left words else word ∷ words_left words

-- the last place before --, if there is one
abbrev pub place_said : List (Bor (List ℕ)) → Option (Bor (List ℕ))
place_said [] = None
place_said (word ∷ words) =
    if bytes_eq word.now (codes "--") then None
    else option_or (place_said words) (if is_place word.now then Some word else None)
