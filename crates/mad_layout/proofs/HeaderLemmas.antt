-- A loop over the headers of a skin.
use Rattle.std.proofs.Common.{◌≡◌, ℕ, ◌+◌, ◌<◌, List, ◌++◌, map, length, take, drop, get_or, set, ap}
use Rattle.std.proofs.lemmas.List.Edits.{map_over_more}
use Rattle.mad_style.specs.declared.line_styles.LineStyle.{LineStyle}

-- one more header is changed
pub header_changed : (f : LineStyle → LineStyle) (old headers : List LineStyle) (i : ℕ) (header new : LineStyle) → i < length old → headers ≡ map f (take i old) ++ drop i old → header ≡ get_or headers i header
    → new ≡ f (get_or headers i header) → set headers i new ≡ map f (take (i + 1) old) ++ drop (i + 1) old
header_changed f old headers i header new inside held is made =
    rw made (map_over_more f old headers i (get_or headers i header) inside held (ap (get_or headers i) is))
