-- The last name of a path, from its end on.
use Rattle.std.proofs.Common.{◌≡◌, ℕ, ◌+◌, ◌-◌, ◌<◌, ◌≤◌, true, false, List, length, take, get_or, ap, arith}
use Rattle.std.specs.List.{suffix_len}
use Rattle.std.proofs.lemmas.List.{take_all}
use Rattle.std.proofs.lemmas.List.Sums.{suffix_len-take_yes, suffix_len-take_no}
use Rattle.markdown_link_parts.specs.Texts.{is_name_byte}

-- So many bytes are left, after this number of the last name: as many as in all but those of it.
abbrev pub LeavesSame : List ℕ → ℕ → Type 0
LeavesSame path len = len - suffix_len is_name_byte (take len path) ≡ length path - suffix_len is_name_byte path

-- at first all bytes are left
pub leaves_all : (path : List ℕ) → LeavesSame path (length path)
leaves_all path = ap (λ (l : List ℕ). length path - suffix_len is_name_byte l) (take_all (length path) path (omega arith))

-- a last byte of the name goes
pub leaves_less : (path : List ℕ) (len d : ℕ) → 0 < len → len ≤ length path → is_name_byte (get_or path (len - 1) d) ≡ true → LeavesSame path len → LeavesSame path (len - 1)
leaves_less path len d some within passes h =
    let more : suffix_len is_name_byte (take len path) ≡ 1 + suffix_len is_name_byte (take (len - 1) path) = suffix_len-take_yes is_name_byte path len d some within passes in
    omega (arith, more, h)

-- where the last byte is a slash, so many are left in the end
pub leaves_stop : (path : List ℕ) (len d : ℕ) → 0 < len → len ≤ length path → is_name_byte (get_or path (len - 1) d) ≡ false → LeavesSame path len → len ≡ length path - suffix_len is_name_byte path
leaves_stop path len d some within fails h =
    let none : suffix_len is_name_byte (take len path) ≡ 0 = suffix_len-take_no is_name_byte path len d some within fails in
    omega (arith, none, h)

-- where no byte is left, none is in the end
pub leaves_none : (path : List ℕ) (len : ℕ) → len ≡ 0 → LeavesSame path len → len ≡ length path - suffix_len is_name_byte path
leaves_none path len none h = omega (arith, none, h)
