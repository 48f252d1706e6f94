-- Lines without the signs at their end.
use Rattle.std.proofs.Common.{◌≡◌, ℕ, ◌<◌, ◌≤◌, ◌+◌, ◌-◌, Bool, true, false, List, length, take, get_or, ap, arith}
use Rattle.std.specs.List.{suffix_len}
use Rattle.std.proofs.lemmas.List.Sums.{suffix_len-take_yes, suffix_len-take_no}
use Rattle.std.proofs.lemmas.List.{take_all}

-- So many bytes are left, after this number that passes: as many as in all but those that pass.
abbrev pub LeavesSame : (ℕ → Bool) → List ℕ → ℕ → Type 0
LeavesSame p bytes len = len - suffix_len p (take len bytes) ≡ length bytes - suffix_len p bytes

-- at first all bytes are left
pub leaves_all : (p : ℕ → Bool) (bytes : List ℕ) → LeavesSame p bytes (length bytes)
leaves_all p bytes = ap (λ (bs : List ℕ). length bytes - suffix_len p bs) (take_all (length bytes) bytes (omega arith))

-- a last byte that passes goes
pub leaves_less : (p : ℕ → Bool) (bytes : List ℕ) (len : ℕ) → 0 < len → len ≤ length bytes → p (get_or bytes (len - 1) 0) ≡ true → LeavesSame p bytes len → LeavesSame p bytes (len - 1)
leaves_less p bytes len some within passes h =
    let more : suffix_len p (take len bytes) ≡ 1 + suffix_len p (take (len - 1) bytes) = suffix_len-take_yes p bytes len 0 some within passes in
    omega (arith, more, h)

-- where the last byte doesn't pass, so many are left in the end
pub leaves_stop : (p : ℕ → Bool) (bytes : List ℕ) (len : ℕ) → 0 < len → len ≤ length bytes → p (get_or bytes (len - 1) 0) ≡ false → LeavesSame p bytes len → len ≡ length bytes - suffix_len p bytes
leaves_stop p bytes len some within fails h =
    let none : suffix_len p (take len bytes) ≡ 0 = suffix_len-take_no p bytes len 0 some within fails in
    omega (arith, none, h)

-- where no byte is left, none is in the end
pub leaves_none : (p : ℕ → Bool) (bytes : List ℕ) (len : ℕ) → len ≡ 0 → LeavesSame p bytes len → len ≡ length bytes - suffix_len p bytes
leaves_none p bytes len none h = omega (arith, none, h)
