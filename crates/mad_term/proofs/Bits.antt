-- Facts on single bits, as tests.
use Rattle.std.proofs.Common.{◌≡◌, ◌≢◌, ℕ, zero, suc, ◌-◌, ◌^◌, ◌<◌, true, false, eqb, ◌||◌, max, refl, arith}
use Rattle.std.specs.Int.{bit_at, w32}
use Rattle.std.specs.Int.RustNames.{bit_or, bit_and}
use Rattle.std.proofs.lemmas.Nat.Bits.{bit_at_or, bit_at_and, bit_at_not, bit_at-lt, bit_at-pow_same, bit_at-pow_other}

or_small : (x y : ℕ) → x < 2 → y < 2 → eqb (max x y) 1 ≡ (eqb x 1 || eqb y 1)
or_small zero (suc (suc y)) hx hy = absurd (omega arith)
or_small (suc zero) (suc (suc y)) hx hy = absurd (omega arith)
or_small (suc (suc x)) y hx hy = absurd (omega arith)
or_small _ _ hx hy = refl

-- the bit of a union
pub or_test : (a b i : ℕ) → eqb (bit_at (bit_or a b) i) 1 ≡ (eqb (bit_at a i) 1 || eqb (bit_at b i) 1)
or_test a b i = rw (bit_at_or a b i) (or_small _ _ (bit_at-lt a i) (bit_at-lt b i))

-- a bit that was put in
pub put_same : (n a k : ℕ) → n ≡ bit_or a (2 ^ k) → eqb (bit_at n k) 1 ≡ true
put_same n a k e = rw (e, bit_at_or a (2 ^ k) k, bit_at-pow_same k) (let h = bit_at-lt a k in let m : max (bit_at a k) 1 ≡ 1 = omega arith in rw m)

-- any other bit is as it was
pub put_other : (n a k i : ℕ) → n ≡ bit_or a (2 ^ k) → i ≢ k → eqb (bit_at n i) 1 ≡ eqb (bit_at a i) 1
put_other n a k i e ne = rw (e, bit_at_or a (2 ^ k) i, bit_at-pow_other k i ne) (let m : max (bit_at a i) 0 ≡ bit_at a i = omega arith in rw m)

-- a bit that was taken out
pub cut_same : (n a k : ℕ) → k < 32 → 2 ^ k < 2 ^ 32 → n ≡ bit_and a (2 ^ 32 - 1 - 2 ^ k) → eqb (bit_at n k) 1 ≡ false
cut_same n a k low small e =
    let z : bit_at n k ≡ 0 = rw (e, bit_at_and a (2 ^ 32 - 1 - 2 ^ k) k, bit_at_not w32 (2 ^ k) k small low, bit_at-pow_same k) (omega arith) in
    rw z

-- any other bit is as it was
pub cut_other : (n a k i : ℕ) → i < 32 → 2 ^ k < 2 ^ 32 → n ≡ bit_and a (2 ^ 32 - 1 - 2 ^ k) → i ≢ k → eqb (bit_at n i) 1 ≡ eqb (bit_at a i) 1
cut_other n a k i low small e ne =
    let h = bit_at-lt a i in
    let z : bit_at n i ≡ bit_at a i = rw (e, bit_at_and a (2 ^ 32 - 1 - 2 ^ k) i, bit_at_not w32 (2 ^ k) i small low, bit_at-pow_other k i ne) (omega arith) in
    rw z
