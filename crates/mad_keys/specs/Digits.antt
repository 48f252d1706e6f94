-- Numbers in decimal, read digit by digit.
use Rattle.std.specs.Prelude.{ℕ, ◌+◌, ◌-◌, ◌*◌, ◌^◌, ◌<◌, ◌==◌, nat_lt, nat_le, ◌&&◌, List, [], ◌∷◌, ◌++◌, length, ⊤, Option, Some, None, option_and_then, if◌then◌else◌}

-- the number with one more digit: it has no leading zero, and stays below 2 ^ 32
abbrev pub with_digit : Option ℕ → ℕ → Option ℕ
with_digit None d = Some d
with_digit (Some n) d = if n == 0 then None else if nat_lt (n * 10 + d) (2 ^ 32) then Some (n * 10 + d) else None

-- the number with one more byte, which has to be a digit
abbrev pub with_byte : Option ℕ → ℕ → Option ℕ
with_byte number b = if nat_le 48 b && nat_le b 57 then with_digit number (b - 48) else None

-- one more number, if there is one, and room for it: there are at most three
abbrev pub with_number : List ℕ → Option ℕ → Option (List ℕ)
with_number numbers None = None
with_number numbers (Some n) = if nat_lt (length numbers) 3 then Some (numbers ++ n ∷ []) else None

-- each is below 2 ^ 32
abbrev pub AreSmall : List ℕ → Type 0
AreSmall [] = ⊤
AreSmall (n ∷ numbers) = (n < 2 ^ 32) × AreSmall numbers

-- the numbers of these bytes, with a semicolon (59) between each two, after some numbers and what there is of the next
abbrev pub scan : List ℕ → List ℕ → Option ℕ → Option (List ℕ)
scan [] numbers now = with_number numbers now
scan (b ∷ bytes) numbers now =
    if b == 59 then option_and_then (λ more. scan bytes more None) (with_number numbers now)
    else option_and_then (λ n. scan bytes numbers (Some n)) (with_byte now b)

-- the numbers of these bytes, if they are at most three numbers without leading zeros
abbrev pub numbers_at : List ℕ → Option (List ℕ)
numbers_at [] = Some []
numbers_at (b ∷ bytes) = scan (b ∷ bytes) [] None
