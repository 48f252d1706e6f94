-- What is read of a text.
use Rattle.std.specs.Prelude.{ℕ, List, [], ◌∷◌, take, drop, if◌then◌else◌}
use Rattle.std.specs.Str.{bytes_eq}

-- the bytes of U+FEFF, which some editors write at the front of a text
abbrev pub byte_order_mark : List ℕ
byte_order_mark = 239 ∷ 187 ∷ 191 ∷ []

-- a text behind its byte order mark, if it has one
abbrev pub behind_mark : List ℕ → List ℕ
behind_mark text = if bytes_eq (take 3 text) byte_order_mark then drop 3 text else text
