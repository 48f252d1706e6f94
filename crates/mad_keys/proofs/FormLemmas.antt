-- Numbers as they are written between semicolons.
use Rattle.std.proofs.Common.{◌≡◌, ℕ, [], ◌∷◌, ◌++◌, ap, sym, ◌∙◌, arith, append-nil}
use Rattle.std.specs.Prelude.{decimal}
use Rattle.std.proofs.lemmas.Fmt.{decimal_digit}
use Rattle.mad_term.specs.Commands.{numbers_bytes}

-- one number is written as a list of it
pub one_number : (n : ℕ) → decimal n ≡ numbers_bytes (n ∷ [])
one_number n = sym (append-nil (decimal n))

-- two numbers with a semicolon (59) between them
pub two_numbers : (n m : ℕ) → decimal n ++ 59 ∷ decimal m ≡ numbers_bytes (n ∷ m ∷ [])
two_numbers n m = ap (λ l. decimal n ++ 59 ∷ l) (sym (append-nil (decimal m)))

-- three numbers
pub three_numbers : (n m k : ℕ) → decimal n ++ 59 ∷ (decimal m ++ 59 ∷ decimal k) ≡ numbers_bytes (n ∷ m ∷ k ∷ [])
three_numbers n m k = ap (λ l. decimal n ++ 59 ∷ (decimal m ++ 59 ∷ l)) (sym (append-nil (decimal k)))

-- three numbers, the first of which is 8, as a size has it
pub eight_first : (m k : ℕ) → 56 ∷ 59 ∷ (decimal m ++ 59 ∷ decimal k) ≡ numbers_bytes (8 ∷ m ∷ k ∷ [])
eight_first m k = ap (λ l. l ++ 59 ∷ (decimal m ++ 59 ∷ decimal k)) (sym (decimal_digit 8 (omega arith))) ∙ three_numbers 8 m k
