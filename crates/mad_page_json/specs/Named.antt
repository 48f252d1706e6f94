-- Parts of a skin, each with its key.
use Rattle.std.specs.Prelude.{ℕ, ◌||◌, Bool, false, List, [], ◌∷◌}
use Rattle.std.specs.Str.{bytes_eq}
use Rattle.mad_page_json.specs.declared.named.Named.{Named}

-- a key and its part, whatever the address of the key
abbrev pub named_said : {S : Type 0} → Named S → List ℕ × S
named_said named = (named.key.now, named.part)

-- one of these parts has this key
abbrev pub has_key : {S : Type 0} → List ℕ → List (List ℕ × S) → Bool
has_key key [] = false
has_key key (named ∷ parts) = bytes_eq named.0 key || has_key key parts
