-- A text that goes out in parts.
use Rattle.std.specs.Prelude.{ℕ, zero, suc, List, [], ◌++◌}

-- the first `count` parts, one after the other
abbrev pub parts_bytes : (ℕ → List ℕ) → ℕ → List ℕ
parts_bytes part zero = []
parts_bytes part (suc count) = parts_bytes part count ++ part count
