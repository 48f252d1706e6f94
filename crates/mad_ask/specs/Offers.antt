-- What can be answered, by its bytes.
use Rattle.std.specs.Prelude.{ℕ, Bool, List, Option, map, string_bytes}
use Rattle.std.specs.List.{list_any}
use Rattle.std.specs.Option.{option_copied}
use Rattle.std.specs.Str.{bytes_eq}
use Rattle.mad_ask.specs.declared.choices.Answer.{Answer}
use Rattle.mad_ask.specs.declared.choices.Choices.{Choices}

-- the keys that are offered, in order, and what is answered where nothing is typed, if anything is
pub record Offered : Type 0 where
  pub keys : List (List ℕ)
  pub default : Option (List ℕ)

-- the keys of answers
abbrev pub keys_of : List Answer → List (List ℕ)
keys_of answers = map (λ answer. string_bytes answer.key) answers

-- what these choices offer
abbrev pub offered_by : Choices → Offered
offered_by choices = record { keys = keys_of choices.answers.now; default = option_copied choices.default_answer }

-- whether a text is a key that is offered
abbrev pub is_key : Offered → List ℕ → Bool
is_key offered text = list_any (λ key. bytes_eq key text) offered.keys
