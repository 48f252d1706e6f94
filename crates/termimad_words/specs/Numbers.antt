-- Numbers on the command line.
use Rattle.std.specs.Prelude.{◌≡◌, ℕ, ◌^◌, ◌<◌, List}
use Rattle.std.specs.Str.Parse.{IsNumeral, digits_value}

-- The word is one or more ASCII digits, leading zeros allowed, of this value, which is at most 65535.
pub record IsNumber (word : List ℕ) (n : ℕ) : Type 0 where
  pub digits : IsNumeral 10 word
  pub value : n ≡ digits_value 10 word
  pub limit : n < 2 ^ 16
