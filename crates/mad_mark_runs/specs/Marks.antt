-- Marks beside rows: a number for each counted character of a text.
use Rattle.std.specs.Prelude.{ℕ, zero, suc, ◌==◌, nat_lt, not, List, [], ◌∷◌, length, if◌then◌else◌}
use Rattle.std.specs.List.{filter}
use Rattle.std.specs.Char.{is_whitespace}
use Rattle.mad_mark_runs.specs.declared.mark_runs.MarkRun.{MarkRun}

-- the mark of the n-th counted character, from 0: that of the first run that ends behind it, else 0, which is none
abbrev pub value_at : List MarkRun → ℕ → ℕ
value_at [] n = 0
value_at (run ∷ runs) n = if nat_lt n run.end then run.value else value_at runs n

-- the mark of a blank before the n-th: that of the characters beside it, where both have the same
abbrev pub blank_value : List MarkRun → ℕ → ℕ
blank_value runs zero = 0
blank_value runs (suc n) = if value_at runs n == value_at runs (suc n) then value_at runs (suc n) else 0

-- the runs from the first one on that ends behind this number
abbrev pub next_start : List MarkRun → ℕ → List MarkRun
next_start [] n = []
next_start (run ∷ runs) n = if nat_lt n run.end then run ∷ runs else next_start runs n

-- how many characters are no whitespace
abbrev pub count_of : List ℕ → ℕ
count_of cs = length (filter (λ c. not (is_whitespace c)) cs)
