-- Taking one column and then the others.
use Rattle.std.proofs.Common.{◌≡◌, ℕ, ◌+◌, Some, None, ap, ◌∙◌, suc}
use Rattle.markdown_marks.specs.Remaining.{Remaining, with_rest, one_column, take_columns, columns_in_front}

-- with one more to be taken than n
pub take_next : (n m : ℕ) (rest next : Remaining) → m ≡ suc n → one_column rest ≡ Some next → take_columns m rest ≡ take_columns n next
unfolding take_columns
take_next n m rest next e is = ap (λ k. take_columns k rest) e ∙ ap (λ o. with_rest o rest (take_columns n)) is

-- a blank column counts, and then those behind it
pub columns_next : (n m : ℕ) (rest next : Remaining) → m ≡ suc n → one_column rest ≡ Some next → columns_in_front m rest ≡ 1 + columns_in_front n next
unfolding columns_in_front
columns_next n m rest next e is = ap (λ k. columns_in_front k rest) e ∙ ap (λ o. with_rest o 0 (λ r. 1 + columns_in_front n r)) is

-- where no blank is in front
pub take_none : (n m : ℕ) (rest : Remaining) → m ≡ suc n → one_column rest ≡ None → take_columns m rest ≡ rest
unfolding take_columns
take_none n m rest e is = ap (λ k. take_columns k rest) e ∙ ap (λ o. with_rest o rest (take_columns n)) is

-- where no blank is in front, no column counts
pub columns_none : (n m : ℕ) (rest : Remaining) → m ≡ suc n → one_column rest ≡ None → columns_in_front m rest ≡ 0
unfolding columns_in_front
columns_none n m rest e is = ap (λ k. columns_in_front k rest) e ∙ ap (λ o. with_rest o 0 (λ r. 1 + columns_in_front n r)) is

-- where nothing is to be taken
pub take_zero : (m : ℕ) (rest : Remaining) → m ≡ 0 → take_columns m rest ≡ rest
unfolding take_columns
take_zero m rest e = ap (λ k. take_columns k rest) e

-- where nothing is to be counted, nothing counts
pub columns_zero : (m : ℕ) (rest : Remaining) → m ≡ 0 → columns_in_front m rest ≡ 0
unfolding columns_in_front
columns_zero m rest e = ap (λ k. columns_in_front k rest) e
