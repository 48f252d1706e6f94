-- What forms are as bytes.
use Rattle.std.specs.Prelude.{ℕ, List, [], ◌∷◌, ◌++◌, encode_utf8}
use Rattle.mad_term.specs.Commands.{numbers_bytes, command_bytes}
use Rattle.mad_keys.specs.declared.forms.Form.{Form}
use Rattle.mad_keys.specs.declared.forms.Form.TheVariants.{Char, Alt, Application, Letter, Number, Pair, Size, Mouse}

-- the bytes of a form
abbrev pub form_bytes : Form → List ℕ
form_bytes (Char c) = encode_utf8 c
form_bytes (Alt c) = 27 ∷ encode_utf8 c
form_bytes (Application letter) = 27 ∷ 79 ∷ letter ∷ []
form_bytes (Letter letter) = command_bytes [] letter
form_bytes (Number n) = command_bytes (n ∷ []) 126
form_bytes (Pair n m letter) = command_bytes (n ∷ m ∷ []) letter
form_bytes (Size rows columns) = command_bytes (8 ∷ rows ∷ columns ∷ []) 116
form_bytes (Mouse number column row letter) = 27 ∷ 91 ∷ 60 ∷ (numbers_bytes (number ∷ column ∷ row ∷ []) ++ letter ∷ [])
