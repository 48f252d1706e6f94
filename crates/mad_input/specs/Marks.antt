-- The marks by which pasted text and strings begin and end. Each is told by its last byte, and by the bytes before it since the last ESC (27).
use Rattle.std.specs.Prelude.{ℕ, ◌==◌, ◌&&◌, ◌||◌, Bool, List, [], ◌∷◌, ◌++◌, length, codes, if◌then◌else◌}
use Rattle.std.specs.Str.{bytes_eq}

-- the bytes since the last ESC, with that, and one more. Before the first ESC there are none, and none once they are too many to be a mark.
abbrev pub one_more : List ℕ → ℕ → List ℕ
one_more w b = if b == 27 then 27 ∷ [] else if length w == 0 || length w == 5 then [] else w ++ b ∷ []

-- pasted text begins: `ESC [ 200 ~` (126)
abbrev pub begins_paste : List ℕ → ℕ → Bool
begins_paste w b = bytes_eq w (27 ∷ codes "[200") && b == 126

-- it ends: `ESC [ 201 ~`
abbrev pub ends_paste : List ℕ → ℕ → Bool
ends_paste w b = bytes_eq w (27 ∷ codes "[201") && b == 126

-- the terminal answers that it is ready: `ESC [ 0 n` (110)
abbrev pub says_ready : List ℕ → ℕ → Bool
says_ready w b = bytes_eq w (27 ∷ codes "[0") && b == 110

-- a string begins: `ESC ]` (93)
abbrev pub begins_string : List ℕ → ℕ → Bool
begins_string w b = bytes_eq w (27 ∷ []) && b == 93
