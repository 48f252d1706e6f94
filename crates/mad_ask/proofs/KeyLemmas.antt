-- Steps of looking for a key.
use Rattle.std.proofs.Common.{◌≡◌, ◌<◌, ◌≤◌, ◌+◌, ℕ, Bool, false, List, length, get_or, drop, string_bytes}
use Rattle.std.specs.Prelude.{◌||◌}
use Rattle.std.specs.List.{list_any}
use Rattle.std.specs.Str.{bytes_eq}
use Rattle.std.proofs.lemmas.List.{at_drop_more, at_drop_all}
use Rattle.mad_ask.specs.declared.choices.Answer.{Answer}
use Rattle.mad_ask.specs.Offers.{keys_of}

-- whether answers have this key
abbrev pub have_key : List ℕ → List Answer → Bool
have_key key answers = list_any (λ k. bytes_eq k key) (keys_of answers)

-- whether a key is among these answers: it is that of the first one, or among the others
pub key_step : (key : List ℕ) (answers : List Answer) (i : ℕ) (d : Answer) → i < length answers → have_key key (drop i answers) ≡ (bytes_eq (string_bytes (get_or answers i d).key) key || have_key key (drop (i + 1) answers))
key_step key answers i d h = at_drop_more (have_key key) answers i d h

-- past the last answer there is none
pub key_past : (key : List ℕ) (answers : List Answer) (i : ℕ) → length answers ≤ i → have_key key (drop i answers) ≡ false
key_past key answers i h = at_drop_all (have_key key) answers i h
