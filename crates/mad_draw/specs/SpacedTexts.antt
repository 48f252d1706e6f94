-- Texts in a place of some columns.
use Rattle.std.specs.Prelude.{ℕ, ◌-◌, List, ◌++◌, take, chars, replicate, encode_utf8_all, nat_le, if◌then◌else◌}
use Rattle.mad_measure.specs.Completions.{left_completion}
use Rattle.mad_measure.specs.declared.spacing.Spacing.{Spacing}

-- Where a text is counted as `width` columns, and its place has more: the text between spaces. Else its first characters, as many as the
-- place has columns.
abbrev pub spaced_text : Spacing → List ℕ → ℕ → List ℕ
spaced_text place text width =
    let rest : ℕ = place.width - width in
    let left : ℕ = left_completion place.align rest in
    if nat_le place.width width then encode_utf8_all (take place.width (chars text)) else replicate left 32 ++ (text ++ replicate (rest - left) 32)
