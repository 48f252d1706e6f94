-- Starts of lines that show that no fitting break has fewer.
use Rattle.std.specs.Prelude.{ℕ, ◌+◌, Bool, true, false, not, ◌&&◌, ◌||◌, ◌==◌, nat_lt, List, [], ◌∷◌, length, slice_range, slice_get, Option, Some, None}
use Rattle.mad_measure.specs.declared.tokens.Token.{Token}
use Rattle.mad_wrap.specs.declared.room.Room.{Room}
use Rattle.mad_wrap.specs.Breaks.{total_width}

-- there is such a token, and it is blank
abbrev pub is_blank_token : Option Token → Bool
is_blank_token None = false
is_blank_token (Some t) = t.blank

-- From a start on: the starts rise and are numbers of tokens, and all but the last number one that isn't blank.
-- The tokens from each start up to and with the next are wider than their line.
abbrev pub are_starts_from : ℕ → Room → List Token → ℕ → List ℕ → Bool
are_starts_from indent r ts s [] = true
are_starts_from indent r ts s (n ∷ ns) = nat_lt s n && (nat_lt n (length ts) && (nat_lt r.width (indent + total_width (slice_range ts s (n + 1))) && (((length ns == 0) || not (is_blank_token (slice_get ts n))) && are_starts_from r.other r ts n ns)))

-- the starts begin with 0, and go on from there
abbrev pub are_starts : Room → List Token → List ℕ → Bool
are_starts r ts [] = false
are_starts r ts (s ∷ ns) = (s == 0) && are_starts_from r.first r ts s ns
