-- Progress bars: how much of a length is done, in blocks of eighths of a column.
use Rattle.std.specs.Prelude.{ℕ, zero, suc, ◌+◌, ◌-◌, ◌*◌, ◌/◌, ◌%◌, ◌≤◌, List, [], ◌∷◌, ◌++◌, length, replicate}

-- a / b, rounded half up
abbrev pub rounded : ℕ → ℕ → ℕ
rounded a b = (2 * a + b) / (2 * b)

-- the block that is filled by so many eighths: one (▏) to eight (█, 0x2588); none of none
abbrev pub block : ℕ → List ℕ
block zero = []
block (suc n) = (0x258F - n) ∷ []

-- Of `len` columns the part num / den: whole blocks, and the block of the eighths that are left over.
abbrev pub bar_chars : ℕ → ℕ → ℕ → List ℕ
bar_chars num den len = replicate (len * num / den) 0x2588 ++ block (rounded (8 * (len * num % den)) den)

-- a bar is no longer than its length
abbrev pub BarsFit : Type 0
BarsFit = (num den len : ℕ) → 1 ≤ den → num ≤ den → length (bar_chars num den len) ≤ len
